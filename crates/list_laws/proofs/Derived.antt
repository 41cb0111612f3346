-- Derivations from RFC 8259's grammar, with the trees that they mean: of the texts that a writer puts together, with no
-- blanks. From the readers of strings nothing more is taken than that they read what is quoted.
use Rattle.std.specs.Prelude.{None, Option, Some}
use Prim.Native.Nat.{ℕ, zero, suc, ◌+◌, ◌*◌}
use mathlib.Core.Path.{◌≡◌, refl, sym, ◌∙◌, ap, ap₂, subst}
use mathlib.Core.Bool.{true, false}
use mathlib.Core.List.{List, [], ◌∷◌, ◌++◌, append_assoc, append-nil}
use native.Mathlib.Nat.{le_refl}
use native.Mathlib.Omega.{arith}
use lib.ListN.{length, drop_of_length-le}
use Rattle.laws.specs.Flat.{flat}
use Rattle.json_tokens.proofs.Stands.{Stands}
use Rattle.json_strings.specs.Text.{string_at, content_at}
use Rattle.json_strings.proofs.Plain.{Each, string-content}
use Rattle.json_strings.proofs.Plain.{string-reads as plain-reads}
use Rattle.json_text.specs.Octets.{octets, text_of, encoded}
use Rattle.json_quote.specs.Quoted.{quoted}
use Rattle.json_quote.specs.Utf8.{is_utf8}
use Rattle.json_quote.proofs.RoundTrip.{quoted-holds, quoted-reads}
use Rattle.json_laws.specs.Rules.{Rule, these, ◌·◌, join, left, right, *◌, none, more, absent, present}
use Rattle.json_laws.specs.Abnf
use Rattle.json_laws.specs.Tree.{Json, Member, members, elements, paired, string_of, member_of, members_in, elements_in}
use Rattle.json_laws.specs.Tree.{further_in, tree_of}
use Rattle.json_laws.proofs.Spans.{Spans, Sound, past, bad}
use Rattle.json_laws.proofs.SoundString.{sound-string}
use Rattle.json_laws.proofs.CompleteString.{string-held}
use Rattle.json_laws.proofs.Rest.{rest_all, rest-as}
use Rattle.list_write.specs.Texts.{separator, row}
use Rattle.list_laws.proofs.Strings.{joined_is}

-- ---- Values.
pub record Value (d : ℕ) (x : List ℕ) (t : Json) : Type 0 where
  pub derived : Abnf.value d x
  pub means : tree_of d x derived ≡ t

pub record Word (x c : List ℕ) : Type 0 where
  pub derived : Abnf.string x
  pub means : string_of x derived ≡ c

pub word_value : (d : ℕ) {x c : List ℕ} → Word x c → Value d x (Json.string c)
unfolding tree_of Abnf.value
word_value zero w = record { derived = right (right (right (right w.derived))); means = ap Json.string w.means }
word_value (suc d) w =
    record { derived = right (right (right (right (right (right w.derived))))); means = ap Json.string w.means }

pub number-value : (d : ℕ) {x : List ℕ} → Abnf.number x → Value d x (Json.number x)
unfolding tree_of Abnf.value
number-value zero n = record { derived = right (right (right (left n))); means = refl }
number-value (suc d) n = record { derived = right (right (right (right (right (left n))))); means = refl }

-- ---- Strings, by what the readers say of them.
stands-whole : (x : List ℕ) → Stands x 0 x
stands-whole x = record { rest = []; text = sym (append-nil x) }

spans-whole : (x : List ℕ) → Spans Abnf.string x 0 (length x) → Word x (paired (content_at x 1))
spans-whole x p =
    let z : x ≡ p.text = p.stands ∙ ap (λ l. p.text ++ l) (drop_of_length-le x (le_refl (length x)))
    ∙ append-nil p.text in
    subst (λ y. Word y (paired (content_at x 1))) (sym z) (record {
      derived = p.derived;
      means = sym (string-held x 0 p.text [] p.derived (rest-as (z ∙ sym (append-nil p.text)) (rest_all x)));
    })

read_word : (x : List ℕ) → string_at x 0 ≡ Some (length x) → Word x (paired (content_at x 1))
read_word x e = by (string_at x 0) (sound-string x 0) e
  where
    by : (r : Option ℕ) → Sound Abnf.string x 0 r → r ≡ Some (length x) → Word x (paired (content_at x 1))
    by (Some k) (past p) e = let z : k ≡ length x = cc in spans-whole x (subst (Spans Abnf.string x 0) z p)
    by None bad e = let z : ◌≡◌ {A = ℕ} 0 1 = cc in absurd (omega arith)

-- the string of a text
pub record Quotes (x : List ℕ) : Type 0 where
  pub characters : List ℕ
  pub word : Word (quoted x) characters
  pub utf8 : encoded characters ≡ octets x

pub quotes : (x : List ℕ) → is_utf8 x ≡ true → Quotes x
unfolding text_of
quotes x u = record {
  characters = paired (content_at (quoted x) 1);
  word = read_word (quoted x) (quoted-reads {k = 0} x u (stands-whole (quoted x)) ∙ ap Some (omega arith));
  utf8 = ap encoded (sym (joined_is (content_at (quoted x) 1))) ∙ quoted-holds {k = 0} x u (stands-whole (quoted x));
}

-- characters that stand for themselves
pub plain_word : (l : List ℕ) → Each l → Word (34 ∷ (l ++ 34 ∷ [])) (paired l)
plain_word l e =
    subst (λ c. Word (34 ∷ (l ++ 34 ∷ [])) (paired c)) (string-content {k = 1} l [] e (behind l))
    (read_word (34 ∷ (l ++ 34 ∷ []))
    (plain-reads {k = 0} l [] e (stands-whole (34 ∷ (l ++ 34 ∷ []))) ∙ ap Some (size l)))
  where
    behind : (x : List ℕ) → Stands (34 ∷ (x ++ 34 ∷ [])) 1 (x ++ 34 ∷ [])
    behind x = record { rest = []; text = sym (append-nil (x ++ 34 ∷ [])) }

    size : (x : List ℕ) → 0 + length x + 2 ≡ length (34 ∷ (x ++ 34 ∷ []))
    size x = omega (arith, long x)
      where
        long : (y : List ℕ) → length (y ++ 34 ∷ []) ≡ length y + 1
        long [] = refl
        long (b ∷ y) = omega (arith, long y)

-- ---- Members.
pub record Pair (d : ℕ) (x : List ℕ) (m : Member) : Type 0 where
  pub derived : Abnf.member (Abnf.value d) x
  pub means : member_of (λ y. tree_of d y) x derived ≡ m

abbrev pub named : List ℕ → Json → Member
named n t = record { name = n; value = t }

pub pair : {d : ℕ} {n c x : List ℕ} {t : Json} → Word n c → Value d x t → Pair d (n ++ (58 ∷ x)) (named c t)
unfolding Abnf.member member_of Abnf.name-separator Abnf.ws
pair w v = record {
  derived = join w.derived (join {x = 58 ∷ []} (join none (join these none)) v.derived);
  means = ap₂ named w.means v.means;
}

-- ---- More of them, each behind a comma.
pub record Further {P : Rule} {A : Type 0} (f : (x : List ℕ) → P x → A) (x : List ℕ) (l : List A) : Type 0 where
  pub derived : (* (Abnf.value-separator · P)) x
  pub means : further_in f derived ≡ l

module _ {P : Rule} {A : Type 0} (f : (x : List ℕ) → P x → A) where
  pub no-further : Further f [] []
  no-further = record { derived = none; means = refl }

  pub one_further : {y z : List ℕ} {a : A} {l : List A} (p : P y) → f y p ≡ a → Further f z l
      → Further f (44 ∷ (y ++ z)) (a ∷ l)
  unfolding Abnf.value-separator Abnf.ws
  one_further {y} p e r = record {
    derived = more (join {x = 44 ∷ []} {y = y} (join none (join these none)) p) r.derived;
    means = ap₂ (λ (a : A) (l : List A). a ∷ l) e r.means;
  }

abbrev pub PairsOn : ℕ → List ℕ → List Member → Type 0
PairsOn d x l = Further {P = Abnf.member (Abnf.value d)} (member_of (λ y. tree_of d y)) x l

pub no-pair : (d : ℕ) → PairsOn d [] []
no-pair d = no-further (member_of (λ y. tree_of d y))

pub and-pair : {d : ℕ} {y z : List ℕ} {m : Member} {l : List Member} → Pair d y m → PairsOn d z l
    → PairsOn d (44 ∷ (y ++ z)) (m ∷ l)
and-pair {d} p r = one_further (member_of (λ y. tree_of d y)) p.derived p.means r

pub object-value : {d : ℕ} {x y : List ℕ} {m : Member} {l : List Member} → Pair d x m → PairsOn d y l
    → Value (suc d) (123 ∷ ((x ++ y) ++ 125 ∷ [])) (Json.object (members (m ∷ l)))
unfolding tree_of Abnf.value Abnf.object Abnf.begin-object Abnf.end-object Abnf.ws members_in
object-value {d} p r = record {
  derived =
      right (right (right (left (join {x = 123 ∷ []} (join none (join these none))
      (join (present (join p.derived r.derived)) (join {x = []} none (join {x = 125 ∷ []} these none)))))));
  means = ap₂ (λ m l. Json.object (members (m ∷ l))) p.means r.means;
}

-- ---- Arrays.
abbrev pub ValuesOn : ℕ → List ℕ → List Json → Type 0
ValuesOn d x l = Further {P = Abnf.value d} (λ y. tree_of d y) x l

pub empty-array : {d : ℕ} → Value (suc d) (91 ∷ 93 ∷ []) (Json.array (elements []))
unfolding tree_of Abnf.value Abnf.array Abnf.begin-array Abnf.end-array Abnf.ws elements_in
empty-array {d} = record {
  derived =
      right (right (right (right (left (join {x = 91 ∷ []} (join none (join these none))
      (join {x = []} absent (join {x = []} none (join {x = 93 ∷ []} these none))))))));
  means = refl;
}

pub array-value : {d : ℕ} {x y : List ℕ} {t : Json} {l : List Json} → Value d x t → ValuesOn d y l
    → Value (suc d) (91 ∷ ((x ++ y) ++ 93 ∷ [])) (Json.array (elements (t ∷ l)))
unfolding tree_of Abnf.value Abnf.array Abnf.begin-array Abnf.end-array Abnf.ws elements_in
array-value {d} p r = record {
  derived =
      right (right (right (right (left (join {x = 91 ∷ []} (join none (join these none))
      (join (present (join p.derived r.derived)) (join {x = []} none (join {x = 93 ∷ []} these none))))))));
  means = ap₂ (λ t l. Json.array (elements (t ∷ l))) p.means r.means;
}

-- ---- A value of which something holds.
pub record Says (d : ℕ) (x : List ℕ) (P : Json → Type 0) : Type 0 where
  pub tree : Json
  pub value : Value d x tree
  pub is : P tree

pub says-as : {d : ℕ} {x y : List ℕ} {P : Json → Type 0} → x ≡ y → Says d x P → Says d y P
says-as {d} {P = P} e s = subst (λ z. Says d z P) e s

-- ---- Arrays as they are written: commas between the elements, and the closing bracket.
pub data Every {A : Type 0} (Q : A → Type 0) : List A → Type 0 where
  no_more : Every Q []
  one_more : {a : A} {l : List A} → Q a → Every Q l → Every Q (a ∷ l)

pub data Trees {A : Type 0} (P : A → Json → Type 0) : List A → List Json → Type 0 where
  no-tree : Trees P [] []
  a-tree : {a : A} {l : List A} {t : Json} {ts : List Json} → P a t → Trees P l ts → Trees P (a ∷ l) (t ∷ ts)

module _ {A : Type 0} (f : A → List ℕ) where
  commas : List A → List ℕ
  commas [] = []
  commas (a ∷ l) = 44 ∷ (f a ++ commas l)

  row-behind : (l : List A) → row f false l ≡ commas l ++ 93 ∷ []
  unfolding row separator flat commas
  row-behind [] = refl
  row-behind (a ∷ l) =
      ap (λ r. 44 ∷ (f a ++ r)) (append-nil (row f false l) ∙ row-behind l)
      ∙ ap (λ r. 44 ∷ r) (sym (append_assoc (f a) (commas l) (93 ∷ [])))

  row-some : (a : A) (l : List A) → row f true (a ∷ l) ≡ (f a ++ commas l) ++ 93 ∷ []
  unfolding row separator flat
  row-some a l =
      ap (λ r. f a ++ r) (append-nil (row f false l) ∙ row-behind l) ∙ sym (append_assoc (f a) (commas l) (93 ∷ []))

  module _ (d : ℕ) (P : A → Json → Type 0) where
    record Behind (l : List A) : Type 0 where
      trees : List Json
      further : ValuesOn d (commas l) trees
      each : Trees P l trees

    behind : (l : List A) → Every (λ a. Says d (f a) (P a)) l → Behind l
    unfolding commas
    behind [] no_more = record { trees = []; further = no-further (λ y. tree_of d y); each = no-tree }
    behind (a ∷ l) (one_more s r) =
        let b = behind l r in
        record {
          trees = s.tree ∷ b.trees;
          further = one_further (λ y. tree_of d y) s.value.derived s.value.means b.further;
          each = a-tree s.is b.each;
        }

    pub record Row (l : List A) : Type 0 where
      pub trees : List Json
      pub value : Value (suc d) (91 ∷ row f true l) (Json.array (elements trees))
      pub each : Trees P l trees

    pub row-value : (l : List A) → Every (λ a. Says d (f a) (P a)) l → Row l
    unfolding row
    row-value [] no_more = record { trees = []; value = empty-array; each = no-tree }
    row-value (a ∷ l) (one_more s r) =
        let b = behind l r in
        record {
          trees = s.tree ∷ b.trees;
          value =
              subst (λ x. Value (suc d) (91 ∷ x) (Json.array (elements (s.tree ∷ b.trees)))) (sym (row-some a l))
              (array-value s.value b.further);
          each = a-tree s.is b.each;
        }
