-- A text that is read is read again from what we write of it: its entries have the form that the round trip asks for.
use Rattle.std.specs.Prelude.{None, Option, Some}
use Prim.Native.Nat.{ℕ, zero, suc, ◌<◌}
use mathlib.Core.Path.{◌≡◌, refl, sym}
use mathlib.Core.Bool.{Bool, true, false}
use mathlib.Core.List.{List, [], ◌∷◌}
use native.Mathlib.Omega.{arith}
use borrow.Author.Tests.{eqb-true, eqb-false}
use lib.Dec.{T, eqb}
use lib.ListN.{length, replicate, length-replicate}
use Rattle.laws.specs.Bytes.{Bytes}
use Rattle.laws.specs.Pick.{pick, either}
use Rattle.json_strings.specs.Text.{content_at}
use Rattle.base64_strict.specs.declared.Group.{Group}
use Rattle.base64_strict.specs.declared.Group.TheVariants.{Three, Two, One}
use Rattle.base64_strict.specs.Alphabet.{sextet_of}
use Rattle.base64_strict.specs.Decode.{Decoded, bytes, none, with_group, one_of, two_of, three_of, group_of, decode64}
use Rattle.base64_strict.proofs.Tables.{back-letter}
use Rattle.report_read.specs.Entry.{Entry, rand_name, key_name, request_name, response_name, text_place, decoded_at, member_of}
use Rattle.report_read.specs.Entry.{is32, held, rand_good, has_all, entry_at, elements_of, all_of, entries_at, list_place, these}
use Rattle.report_read.specs.Entry.{unread, entries_from, entries_of}
use Rattle.report_read.proofs.Elements.{both_left, both_right}
use Rattle.report_write.specs.Text.{json_of}
use Rattle.report_write.proofs.Round.{Whole, Fine, one_entry, entry-then, round}

-- ---- What base64 stands for are bytes.
below : (c : ℕ) → eqb (sextet_of c) 64 ≡ false → sextet_of c < 64
below c e = (back-letter c (eqb-false (sextet_of c) 64 e)).1

no_bytes : Bytes []
no_bytes k = omega arith

more_bytes : {x : ℕ} (xs : List ℕ) → x < 256 → Bytes xs → Bytes (x ∷ xs)
more_bytes xs h b zero = h
more_bytes xs h b (suc k) = b k

abbrev Of256 : Option Group → Type 0
Of256 (Some (Three x y z)) = (x < 256) × ((y < 256) × (z < 256))
Of256 (Some (Two x y)) = (x < 256) × (y < 256)
Of256 (Some (One x)) = x < 256
Of256 None = T true

by-pick : (b : Bool) (x y : Option Group) → (b ≡ true → Of256 x) → (b ≡ false → Of256 y) → Of256 (pick b x y)
unfolding pick
by-pick true x y f g = f refl
by-pick false x y f g = g refl

group-bytes : (a b c d : ℕ) → Of256 (group_of a b c d)
unfolding group_of one_of two_of three_of
group-bytes a b c d =
    by-pick _ _ _ (λ e. tt) (λ ha. let p = below a ha in
    by-pick _ _ _ (λ e. tt) (λ hb. let q = below b hb in
    by-pick _ _ _
    (λ e. by-pick _ _ _
    (λ f. by-pick _ _ _ (λ g. omega arith) (λ g. tt))
    (λ f. by-pick _ _ _ (λ g. tt) (λ hc. let r = below c hc in
    by-pick _ _ _ (λ g. (omega arith, omega arith)) (λ g. tt))))
    (λ e. by-pick _ _ _ (λ g. tt) (λ hc. let r = below c hc in
    by-pick _ _ _ (λ g. tt) (λ hd. let t = below d hd in (omega arith, (omega arith, omega arith)))))))

abbrev All : Decoded → Type 0
All (bytes x) = Bytes x
All none = T true

joined_bytes : (g : Option Group) (l : List ℕ) (d : Decoded) → Of256 g → All d → All (with_group g l d)
joined_bytes (Some (Three x y z)) l (bytes m) h a =
    more_bytes (y ∷ z ∷ m) h.0 (more_bytes (z ∷ m) h.1.0 (more_bytes m h.1.1 a))
joined_bytes (Some (Three x y z)) l none h a = tt
joined_bytes (Some (Two x y)) [] d h a = more_bytes (y ∷ []) h.0 (more_bytes [] h.1 no_bytes)
joined_bytes (Some (Two x y)) (c ∷ l) d h a = tt
joined_bytes (Some (One x)) [] d h a = more_bytes [] h no_bytes
joined_bytes (Some (One x)) (c ∷ l) d h a = tt
joined_bytes None l d h a = tt

pub decode-bytes : (x : List ℕ) → All (decode64 x)
unfolding decode64
decode-bytes [] = no_bytes
decode-bytes (a ∷ []) = tt
decode-bytes (a ∷ b ∷ []) = tt
decode-bytes (a ∷ b ∷ c ∷ []) = tt
decode-bytes (a ∷ b ∷ c ∷ d ∷ xs) =
    joined_bytes (group_of a b c d) xs (decode64 xs) (group-bytes a b c d) (decode-bytes xs)

held_bytes : (d : Decoded) → All d → Bytes (held d)
unfolding held
held_bytes (bytes x) a = a
held_bytes none a = no_bytes

at-bytes : (s : List ℕ) (p : Option ℕ) → All (decoded_at s p)
at-bytes s (Some p) = decode-bytes (content_at s p)
at-bytes s None = tt

member-bytes : (s : List ℕ) (k : ℕ) (w : List ℕ) → Bytes (held (member_of s k w))
unfolding member_of
member-bytes s k w = held_bytes (decoded_at s (text_place s k w)) (at-bytes s (text_place s k w))

zeros-bytes : (n : ℕ) → Bytes (replicate n 0)
zeros-bytes zero = no_bytes
zeros-bytes (suc n) = more_bytes {x = 0} (replicate n 0) (omega arith) (zeros-bytes n)

-- ---- An entry that was read.
of-32 : (d : Decoded) → is32 d ≡ true → length (held d) ≡ 32
unfolding is32 held
of-32 (bytes x) e = eqb-true (length x) 32 e
of-32 none e = let z : ◌≡◌ {A = Bool} false true = e in cc

whole : (s : List ℕ) (first : Bool) (k : ℕ) → has_all s first k ≡ true → Whole first (entry_at s first k)
unfolding has_all rand_good either entry_at pick
whole s true k e =
    let e₂ = both_right _ _ (both_right _ _ e) in
    record {
      rand = zeros-bytes 32;
      rand32 = length-replicate {A = ℕ} 32 0;
      zero-first = λ z. refl;
      key = member-bytes s k key_name;
      key32 = of-32 (member_of s k key_name) (both_left _ _ e₂);
      request = member-bytes s k request_name;
      response = member-bytes s k response_name;
    }
whole s false k e =
    let e₁ = both_right _ _ e in
    record {
      rand = member-bytes s k rand_name;
      rand32 = of-32 (member_of s k rand_name) (both_left _ _ e₁);
      zero-first = λ z. absurd (no z);
      key = member-bytes s k key_name;
      key32 = of-32 (member_of s k key_name) (both_left _ _ (both_right _ _ e₁));
      request = member-bytes s k request_name;
      response = member-bytes s k response_name;
    }
  where
    no : ◌≡◌ {A = Bool} false true → ⊥
    no z = let q : ◌≡◌ {A = ℕ} 0 1 = cc in omega arith

fine : (s : List ℕ) (first : Bool) (k : ℕ) (ks : List ℕ) → all_of s first (k ∷ ks) ≡ true
    → Fine first (entry_at s first k) (entries_at s false ks)
unfolding all_of entries_at
fine s first k [] a = one_entry (whole s first k (both_left _ _ a))
fine s first k (j ∷ ks) a = entry-then (whole s first k (both_left _ _ a)) (fine s false j ks (both_right _ _ a))

listed-fine : (s : List ℕ) (ks : List ℕ) (e : Entry) (es : List Entry) → all_of s true ks ≡ true
    → entries_at s true ks ≡ e ∷ es → Fine true e es
unfolding entries_at
listed-fine s [] e es a h = let z : ◌≡◌ {A = ℕ} 0 1 = cc in absurd (omega arith)
listed-fine s (k ∷ ks) e es a h =
    let p : entry_at s true k ≡ e = cc in
    let q : entries_at s false ks ≡ es = cc in
    rw (sym p, sym q) (fine s true k ks a)

picked : (s ks : List ℕ) (b : Bool) (e : Entry) (es : List Entry) → all_of s true ks ≡ b
    → pick b (these (entries_at s true ks)) unread ≡ these (e ∷ es) → Fine true e es
unfolding pick
picked s ks true e es a h = let q : entries_at s true ks ≡ e ∷ es = cc in listed-fine s ks e es a q
picked s ks false e es a h = let z : ◌≡◌ {A = ℕ} 0 1 = cc in absurd (omega arith)

read-fine : (s : List ℕ) (p : Option ℕ) (e : Entry) (es : List Entry) → entries_from s p ≡ these (e ∷ es) → Fine true e es
unfolding entries_from
read-fine s (Some v) e es h = picked s (elements_of s 14 v) _ e es refl h
read-fine s None e es h = let z : ◌≡◌ {A = ℕ} 0 1 = cc in absurd (omega arith)

-- the entries of a text that is a report have that form
pub text-fine : (s : List ℕ) (e : Entry) (es : List Entry) → entries_of s ≡ these (e ∷ es) → Fine true e es
unfolding entries_of
text-fine s e es h = read-fine s (list_place s) e es h

-- reading any text that is a report, writing its entries, reading again gives the same entries
pub again : (s : List ℕ) (e : Entry) (es : List Entry) → entries_of s ≡ these (e ∷ es)
    → entries_of (json_of (e ∷ es)) ≡ these (e ∷ es)
again s e es h = round e es (text-fine s e es h)
