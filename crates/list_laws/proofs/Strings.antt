-- A value at a place of a text, and the tree that it means: strings, numbers and arrays as the reader of lists looks at
-- them, and as the sentences of Listing say it.
use Rattle.std.specs.Prelude.{None, Option, Some}
use Prim.Native.Nat.{ℕ, suc, ◌+◌, ◌≤◌}
use mathlib.Core.Path.{◌≡◌, refl, sym, ◌∙◌, ap, subst}
use mathlib.Core.Bool.{Bool, true, false}
use mathlib.Core.List.{List, [], ◌∷◌}
use native.Mathlib.Omega.{arith}
use borrow.Author.Tests.{eq-eqb, ne_eqb, eqb-true, leb-true, le-leb}
use lib.Dec.{eqb}
use lib.ListN.{length, get_or}
use Rattle.laws.specs.Pick.{pick, both}
use Rattle.json_tokens.specs.Number.{number_at}
use Rattle.json_strings.specs.Text.{content_at, same_list}
use Rattle.json_text.specs.Octets.{Text, octets, none, encoded, joined, text_of, plain, is_high as high, is_low as low}
use Rattle.json_text.specs.Octets.{paired as pair}
use Rattle.json_values.specs.declared.Found.{Found}
use Rattle.json_values.specs.declared.Found.TheVariants.{At as Stands, Nothing, Twice}
use Rattle.json_values.specs.Value.{plain_at, value_by, value_at}
use Rattle.base64_strict.specs.Decode.{Decoded, bytes, decode64, none as no_code}
use Rattle.report_read.specs.Entry.{string_of, decoded_at, is64, held, list_of as array_of}
use Rattle.list_read.specs.Server.{text_in, text_by, is_some, unmarked, whole_of, up_to, version_by, content_in, is_there}
use Rattle.list_read.specs.Server.{key_by, passes, places_in, is_word}
use Rattle.json_laws.specs.Tree.{Json, Member, elements, paired, is_high, is_low, pair_of, Named}
use Rattle.json_laws.proofs.Spans.{both-parts}
use Rattle.json_laws.proofs.Lists.{Lands, lands}
use Rattle.json_laws.proofs.Complete.{value-lands}
use Rattle.json_laws.proofs.At.{At, Each, text_to}
use Rattle.json_laws.proofs.Paired.{narrow, decode-paired, word-exactly, is_same}
use Rattle.json_laws.proofs.Found.{Finds, finds-none, finds-one, finds-more}
use Rattle.json_laws.proofs.Values.{array-is, string-is, array-at, string-at, number-at, number_past}
use Rattle.list_laws.specs.Listing.{Just, TextString, TestedString, Integer, Base64}

pub never : {A : Type 0} → false ≡ true → A
never e = let z : ◌≡◌ {A = ℕ} 0 1 = cc in absurd (omega arith)

-- ---- Characters: pairs are joined as the tree has it.
pub joined_is : (x : List ℕ) → joined x ≡ paired x
unfolding joined paired high low is_high is_low pair pair_of
joined_is [] = refl
joined_is (a ∷ []) = refl
joined_is (a ∷ b ∷ x) = rw (joined_is x, joined_is (b ∷ x)) refl

-- ---- Strings, by the place of their characters.
module _ (s : List ℕ) where
  text_in_lem : (x : Option ℕ) → is_there x ≡ true → text_in s x ≡ encoded (paired (content_in s x))
  unfolding is_there text_in content_in text_of
  text_in_lem (Some p) h = ap encoded (joined_is (content_at s p))
  text_in_lem None h = never h

  text-there : (x : Option ℕ) → is_some (text_in s x) ≡ true → is_there x ≡ true
  unfolding is_there text_in is_some
  text-there (Some p) h = refl
  text-there None h = never h

  decoded-in : (x : Option ℕ) → is_there x ≡ true → decoded_at s x ≡ decode64 (paired (content_in s x))
  unfolding is_there content_in
  decoded-in (Some p) h = sym (decode-paired (content_at s p))
  decoded-in None h = never h

  decoded-there : (x : Option ℕ) → is64 (decoded_at s x) ≡ true → is_there x ≡ true
  unfolding is_there is64
  decoded-there (Some p) h = refl
  decoded-there None h = never h

  word-there : (x : Option ℕ) (a : ℕ) (w : List ℕ) → is_word s x (a ∷ w) ≡ true → is_there x ≡ true
  unfolding is_there is_word content_in same_list
  word-there (Some p) a w h = refl
  word-there None a w h = never h

pub some-octets : (t : Text) → is_some t ≡ true → t ≡ octets (plain t)
unfolding is_some
some-octets (octets x) h = refl
some-octets none h = never h

held-64 : (d : Decoded) → is64 d ≡ true → d ≡ bytes (held d)
unfolding is64 held
held-64 (bytes x) h = refl
held-64 no_code h = never h

-- ---- What was found of a name.
abbrev pub is_one : Found → Bool
is_one (Stands v) = true
is_one Nothing = false
is_one Twice = false

module _ (s : List ℕ) where
  pub string-one : (f : Found) → is_there (string_of s f) ≡ true → is_one f ≡ true
  unfolding string_of is_there
  string-one (Stands v) h = refl
  string-one Nothing h = never h
  string-one Twice h = never h

  pub array-one : (f : Found) → is_there (array_of s f) ≡ true → is_one f ≡ true
  unfolding array_of is_there
  array-one (Stands v) h = refl
  array-one Nothing h = never h
  array-one Twice h = never h

  pub version-one : (f : Found) → is_some (version_by s f) ≡ true → is_one f ≡ true
  unfolding version_by is_some
  version-one (Stands v) h = refl
  version-one Nothing h = never h
  version-one Twice h = never h

module _ {s : List ℕ} {d : ℕ} where
  -- just one member has the name
  pub just-one : {f : Found} {l : List Json} {w : List ℕ} {ms : List Member} (P : Json → Type 0) → Finds s d f l
      → Named w ms l
      → is_one f ≡ true → ((t : Json) → Finds s d f (t ∷ []) → P t) → Just ms w P
  just-one P finds-none n h g = never h
  just-one P (finds-one {t = t} a) n h g = record { value = t; once = n; is = g t (finds-one a) }
  just-one P finds-more n h g = never h

  -- ---- A string.
  by-quote : (t : Json) (v : ℕ) (b : Bool) → At s d v t → eqb (get_or s v 0) 34 ≡ b
      → is_there (pick b (Some (v + 1)) None) ≡ true
      → t ≡ Json.string (paired (content_in s (pick b (Some (v + 1)) None)))
  unfolding pick is_there content_in
  by-quote t v true a q h = string-is a (eqb-true _ 34 q)
  by-quote t v false a q h = never h

  pub string-found : {f : Found} (t : Json) → Finds s d f (t ∷ []) → is_there (string_of s f) ≡ true
      → t ≡ Json.string (paired (content_in s (string_of s f)))
  unfolding string_of
  string-found t (finds-one {v = v} a) h = by-quote t v (eqb (get_or s v 0) 34) a refl h

  pub text-found : {f : Found} (t : Json) → Finds s d f (t ∷ []) → is_some (text_by s f) ≡ true
      → TextString (plain (text_by s f)) t
  unfolding text_by
  text-found {f} t g h =
      let i = text-there s (string_of s f) h in
      record {
        characters = paired (content_in s (string_of s f));
        string = string-found t g i;
        utf8 = sym (text_in_lem s (string_of s f) i) ∙ some-octets (text_in s (string_of s f)) h;
      }

  pub key-found : {f : Found} (t : Json) → Finds s d f (t ∷ []) → is64 (key_by s f) ≡ true → Base64 (held (key_by s f)) t
  unfolding key_by
  key-found {f} t g h =
      let i = decoded-there s (string_of s f) h in
      record {
        characters = paired (content_in s (string_of s f));
        string = string-found t g i;
        base64 = sym (decoded-in s (string_of s f) i) ∙ held-64 (decoded_at s (string_of s f)) h;
      }

  pub string-stands : {f : Found} {x : List ℕ} → Finds s d f (Json.string x ∷ [])
      → (is_there (string_of s f) ≡ true) × (paired (content_in s (string_of s f)) ≡ x)
  unfolding string_of pick is_there content_in
  string-stands (finds-one {v = v} a) =
      let p = string-at a in (rw (eq-eqb _ 34 p.0) refl, rw (eq-eqb _ 34 p.0) p.1)

  pub string-is-there : {f : Found} {t : Json} {x : List ℕ} → t ≡ Json.string x → Finds s d f (t ∷ [])
      → (is_there (string_of s f) ≡ true) × (paired (content_in s (string_of s f)) ≡ x)
  string-is-there {f} e g = string-stands (subst (λ (u : Json). Finds s d f (u ∷ [])) e g)

  pub text-stands : {f : Found} {t : Json} {x : List ℕ} → TextString x t → Finds s d f (t ∷ []) → text_by s f ≡ octets x
  unfolding text_by
  text-stands {f} r g =
      let p = string-is-there r.string g in
      text_in_lem s (string_of s f) p.0 ∙ ap encoded p.1 ∙ r.utf8

  pub key-stands : {f : Found} {t : Json} {x : List ℕ} → Base64 x t → Finds s d f (t ∷ []) → key_by s f ≡ bytes x
  unfolding key_by
  key-stands {f} r g =
      let p = string-is-there r.string g in
      decoded-in s (string_of s f) p.0 ∙ ap decode64 p.1 ∙ r.base64

-- ---- Texts that pass a test.
pub passes-some : (test : List ℕ → Bool) (t : Text) → passes test t ≡ true
    → (is_some t ≡ true) × ((length (plain t) ≤ 2048) × (test (plain t) ≡ true))
unfolding passes is_some
passes-some test (octets x) h = let p = both-parts _ _ h in (refl, (leb-true _ _ p.0, p.1))
passes-some test none h = never h

module _ {s : List ℕ} {d : ℕ} (test : List ℕ → Bool) where
  pub tested-found : {f : Found} (t : Json) → Finds s d f (t ∷ []) → passes test (text_by s f) ≡ true
      → TestedString test (plain (text_by s f)) t
  tested-found {f} t g h =
      let p = passes-some test (text_by s f) h in
      record { text = text-found t g p.0; short = p.1.0; holds = p.1.1 }

  pub tested-stands : {f : Found} {t : Json} {x : List ℕ} → TestedString test x t → Finds s d f (t ∷ [])
      → (passes test (text_by s f) ≡ true) × (text_by s f ≡ octets x)
  unfolding passes both
  tested-stands {f} {x = x} r g =
      let e = text-stands r.text g in
      (rw (e, le-leb (length x) 2048 r.short, r.holds) refl, e)

pub tested-one : (s : List ℕ) (f : Found) (test : List ℕ → Bool) → passes test (text_by s f) ≡ true → is_one f ≡ true
unfolding text_by
tested-one s f test h =
    string-one s f (text-there s (string_of s f) (passes-some test (text_in s (string_of s f)) h).0)

pub text-one : (s : List ℕ) (f : Found) → is_some (text_by s f) ≡ true → is_one f ≡ true
unfolding text_by
text-one s f h = string-one s f (text-there s (string_of s f) h)

pub key_one : (s : List ℕ) (f : Found) → is64 (key_by s f) ≡ true → is_one f ≡ true
unfolding key_by
key_one s f h = string-one s f (decoded-there s (string_of s f) h)

-- ---- Words.
module _ (s : List ℕ) (f : Found) (a : ℕ) (w : List ℕ) (plain : narrow (a ∷ w) ≡ true) where
  pub word-one : is_word s (string_of s f) (a ∷ w) ≡ true → is_one f ≡ true
  word-one h = string-one s f (word-there s (string_of s f) a w h)

  pub word-found : {d : ℕ} (t : Json) → Finds s d f (t ∷ []) → is_word s (string_of s f) (a ∷ w) ≡ true
      → t ≡ Json.string (a ∷ w)
  unfolding is_word
  word-found t g h =
      string-found t g (word-there s (string_of s f) a w h)
      ∙ ap Json.string ((word-exactly (content_in s (string_of s f)) (a ∷ w) plain).1 (is_same _ _ h))

  pub word_stands : {d : ℕ} {t : Json} → t ≡ Json.string (a ∷ w) → Finds s d f (t ∷ [])
      → content_in s (string_of s f) ≡ a ∷ w
  word_stands e g = (word-exactly (content_in s (string_of s f)) (a ∷ w) plain).0 (string-is-there e g).1

-- ---- Numbers.
whole-some : (x : List ℕ) → is_some (whole_of x) ≡ true → (unmarked x ≡ true) × (plain (whole_of x) ≡ x)
unfolding whole_of is_some pick
whole-some x h = by (unmarked x) refl h
  where
    by : (b : Bool) → unmarked x ≡ b → is_some (pick b (octets x) none) ≡ true
        → (unmarked x ≡ true) × (plain (pick (unmarked x) (octets x) none) ≡ x)
    by true e g = (e, rw e refl)
    by false e g = never g

-- at a number the reader of values is the reader of numbers
number-value : (s : List ℕ) (d k : ℕ) → 45 ≤ get_or s k 0 → get_or s k 0 ≤ 57 → value_at s d k ≡ number_at s k
unfolding value_at value_by plain_at pick
number-value s ℕ.zero k l h =
    rw (
      ne_eqb _ 123 (λ (e : get_or s k 0 ≡ 123). omega arith),
      ne_eqb _ 91 (λ (e : get_or s k 0 ≡ 91). omega arith),
      ne_eqb _ 34 (λ (e : get_or s k 0 ≡ 34). omega arith),
      ne_eqb _ 116 (λ (e : get_or s k 0 ≡ 116). omega arith),
      ne_eqb _ 102 (λ (e : get_or s k 0 ≡ 102). omega arith),
      ne_eqb _ 110 (λ (e : get_or s k 0 ≡ 110). omega arith),
    ) refl
number-value s (suc d) k l h =
    rw (
      ne_eqb _ 123 (λ (e : get_or s k 0 ≡ 123). omega arith),
      ne_eqb _ 91 (λ (e : get_or s k 0 ≡ 91). omega arith),
      ne_eqb _ 34 (λ (e : get_or s k 0 ≡ 34). omega arith),
      ne_eqb _ 116 (λ (e : get_or s k 0 ≡ 116). omega arith),
      ne_eqb _ 102 (λ (e : get_or s k 0 ≡ 102). omega arith),
      ne_eqb _ 110 (λ (e : get_or s k 0 ≡ 110). omega arith),
    ) refl

-- a text that is whole, up to where a reader ends
up-to-lands : {s t x : List ℕ} {r : Option ℕ} (k : ℕ) → Lands s t r → text_to s k r ≡ x → unmarked x ≡ true
    → up_to s k r ≡ octets x
unfolding up_to whole_of pick
up-to-lands k (lands h z) e m = rw (e, m) refl

module _ {s : List ℕ} {d : ℕ} where
  pub version-stands : {f : Found} {t : Json} {x : List ℕ} → Integer x t → Finds s d f (t ∷ [])
      → version_by s f ≡ octets x
  unfolding version_by
  version-stands r (finds-one {v = v} a) =
      let n = number-at (subst (At s d v) r.number a) in
      let g = value-lands s d v a.text a.behind a.derived a.stops a.stands in
      up-to-lands v (rw (number-value s d v n.0 n.1) at g) n.2 r.whole

  by_end : {t : Json} (v : ℕ) (r : Option ℕ) → At s d v t → number_at s v ≡ r → is_some (up_to s v r) ≡ true
      → Integer (plain (up_to s v r)) t
  unfolding up_to is_some
  by_end v (Some e) a q h =
      let p = whole-some (text_to s v (Some e)) h in
      record {
        number = number_past e a q ∙ ap Json.number (sym p.1);
        whole = ap unmarked p.1 ∙ p.0;
      }
  by_end v None a q h = never h

  pub version-found : {f : Found} (t : Json) → Finds s d f (t ∷ []) → is_some (version_by s f) ≡ true
      → Integer (plain (version_by s f)) t
  unfolding version_by
  version-found t (finds-one {v = v} a) h = by_end v (number_at s v) a refl h

-- ---- Arrays.
pub record Holds (s : List ℕ) (d : ℕ) (ks : List ℕ) (t : Json) : Type 0 where
  pub list : List Json
  pub is : t ≡ Json.array (elements list)
  pub each : Each (At s d) ks list

module _ {s : List ℕ} {d : ℕ} where
  by-bracket : (v : ℕ) (t : Json) (b : Bool) → At s (suc d) v t → eqb (get_or s v 0) 91 ≡ b
      → is_there (pick b (Some v) None) ≡ true → Holds s d (places_in s d (pick b (Some v) None)) t
  unfolding pick is_there places_in
  by-bracket v t true a q h =
      let l = array-is {d = d} a (eqb-true _ 91 q) in record { list = l.list; is = l.is; each = l.each }
  by-bracket v t false a q h = never h

  pub array-found : {f : Found} (t : Json) → Finds s (suc d) f (t ∷ []) → is_there (array_of s f) ≡ true
      → Holds s d (places_in s d (array_of s f)) t
  unfolding array_of
  array-found t (finds-one {v = v} a) h = by-bracket v t (eqb (get_or s v 0) 91) a refl h

  pub array-stands : {f : Found} {t : Json} {ts : List Json} → t ≡ Json.array (elements ts) → Finds s (suc d) f (t ∷ [])
      → (is_there (array_of s f) ≡ true) × Each (At s d) (places_in s d (array_of s f)) ts
  unfolding array_of pick is_there places_in
  array-stands {ts = ts} e (finds-one {v = v} a) =
      let p = array-at {d = d} (subst (At s (suc d) v) e a) in
      (rw (eq-eqb _ 91 p.0) refl, rw (eq-eqb _ 91 p.0) p.1)
