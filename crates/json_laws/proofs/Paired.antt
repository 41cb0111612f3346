-- The characters of a string are compared and decoded as the readers do it, which take the two halves of a surrogate
-- pair for two: no word has such a half or a character above U+FFFF, and base64 has neither.
use Rattle.std.specs.Prelude.{None, Option, Some}
use Prim.Native.Nat.{ℕ, ◌≤◌, ◌<◌}
use mathlib.Core.Path.{◌≡◌, refl, sym, ◌∙◌, ap}
use mathlib.Core.Bool.{Bool, true, false}
use mathlib.Core.List.{List, [], ◌∷◌}
use mathlib.Core.Logic.{◌↔◌}
use native.Mathlib.Omega.{arith}
use borrow.Author.Tests.{eq-eqb, ne_eqb, eqb-true, leb-true, ltb-true, le-ltb, lt-leb}
use lib.Dec.{eqb, ltb}
use Rattle.laws.specs.Pick.{pick, both}
use Rattle.json_strings.specs.Text.{same_list}
use Rattle.base64_strict.specs.declared.Group.{Group}
use Rattle.base64_strict.specs.declared.Group.TheVariants.{Three, Two, One}
use Rattle.base64_strict.specs.Alphabet.{sextet_of}
use Rattle.base64_strict.specs.Decode.{none, two_of, three_of, group_of, with_group, decode64}
use Rattle.json_laws.specs.Tree.{is_high, is_low, pair_of, paired}
use Rattle.json_laws.proofs.Spans.{of-pick-cases, both-parts}

-- ---- Words: no surrogate, and nothing above.
abbrev pub narrow : List ℕ → Bool
narrow [] = true
narrow (c ∷ w) = both (ltb c 0xD800) (narrow w)

high_is : (a b : ℕ) → both (is_high a) (is_low b) ≡ true → 0xD800 ≤ a
unfolding is_high
high_is a b h = leb-true _ _ (both-parts _ _ (both-parts _ _ h).0).0

pair_is : (a b : ℕ) → 0x10000 ≤ pair_of a b
unfolding pair_of
pair_is a b = omega arith

module _ (b c : ℕ) (l w : List ℕ) where
  other-front : (b ≡ c → ⊥) → same_list (b ∷ l) (c ∷ w) ≡ false
  unfolding same_list both
  other-front n = rw (ne_eqb b c n) refl

pub same-paired : (x w : List ℕ) → narrow w ≡ true → same_list (paired x) w ≡ same_list x w
unfolding paired same_list
same-paired [] w n = refl
same-paired (a ∷ []) w n = refl
same-paired (a ∷ b ∷ x) [] n =
    of-pick-cases (λ l. same_list l [] ≡ same_list (a ∷ b ∷ x) []) (both (is_high a) (is_low b)) (λ t. refl) (λ t. refl)
same-paired (a ∷ b ∷ x) (c ∷ w) n =
    let p = both-parts _ _ n in
    let low = ltb-true c 0xD800 p.0 in
    of-pick-cases (λ l. same_list l (c ∷ w) ≡ same_list (a ∷ b ∷ x) (c ∷ w)) (both (is_high a) (is_low b))
    (λ t. other-front (pair_of a b) c (paired x) w (above (pair_is a b) low)
    ∙ sym (other-front a c (b ∷ x) w (over (high_is a b t) low)))
    (λ t. ap (λ q. both (eqb a c) q) (same-paired (b ∷ x) w p.1))
  where
    above : {m : ℕ} → 0x10000 ≤ m → c < 0xD800 → m ≡ c → ⊥
    above g l e = omega arith

    over : 0xD800 ≤ a → c < 0xD800 → a ≡ c → ⊥
    over g l e = omega arith

pub is_same : (x w : List ℕ) → same_list x w ≡ true → x ≡ w
unfolding same_list
is_same [] [] h = refl
is_same [] (c ∷ w) h = let z : ◌≡◌ {A = ℕ} 0 1 = cc in absurd (omega arith)
is_same (a ∷ x) [] h = let z : ◌≡◌ {A = ℕ} 0 1 = cc in absurd (omega arith)
is_same (a ∷ x) (c ∷ w) h = let p = both-parts _ _ h in rw (eqb-true a c p.0, is_same x w p.1) refl

pub same-is : (x : List ℕ) → same_list x x ≡ true
unfolding same_list both
same-is [] = refl
same-is (a ∷ x) = rw (eq-eqb a a refl) (same-is x)

-- so a string is a word for the readers exactly where its characters are
pub word-exactly : (x w : List ℕ) → narrow w ≡ true → (paired x ≡ w) ↔ (x ≡ w)
word-exactly x w n = (
  λ e. is_same x w (sym (same-paired x w n) ∙ ap (λ l. same_list l w) e ∙ same-is w),
  λ e. is_same (paired x) w (same-paired x w n ∙ ap (λ l. same_list l w) e ∙ same-is w),
)

-- ---- Base64: a character above 127 is no letter, and no pad.
data Wide : List ℕ → Type 0 where
  here : {c : ℕ} {x : List ℕ} → 128 ≤ c → Wide (c ∷ x)
  later : {c : ℕ} {x : List ℕ} → Wide x → Wide (c ∷ x)

no-sextet : (c : ℕ) → 128 ≤ c → sextet_of c ≡ 64
unfolding sextet_of pick
no-sextet c h =
    rw (
      ne_eqb c 43 (λ e. omega arith),
      ne_eqb c 47 (λ e. omega arith),
      le-ltb c 48 (omega arith),
      lt-leb c 57 (omega arith),
      le-ltb c 65 (omega arith),
      lt-leb c 90 (omega arith),
      le-ltb c 97 (omega arith),
      lt-leb c 122 (omega arith),
    ) refl

module _ (a b c d : ℕ) where
  bad-1 : 128 ≤ a → group_of a b c d ≡ None
  unfolding group_of pick
  bad-1 h = rw (no-sextet a h) refl

  bad-2 : 128 ≤ b → group_of a b c d ≡ None
  unfolding group_of pick
  bad-2 h =
      of-pick-cases (λ g. g ≡ None) (eqb (sextet_of a) 64) (λ t. refl) (λ t. rw (no-sextet b h) refl)

  bad-3 : 128 ≤ c → group_of a b c d ≡ None
  unfolding group_of two_of three_of pick
  bad-3 h =
      of-pick-cases (λ g. g ≡ None) (eqb (sextet_of a) 64) (λ t. refl)
      (λ t. of-pick-cases (λ g. g ≡ None) (eqb (sextet_of b) 64) (λ u. refl)
      (λ u. of-pick-cases (λ g. g ≡ None) (eqb d 61)
      (λ v. rw (ne_eqb c 61 (λ e. omega arith), no-sextet c h) refl) (λ v. rw (no-sextet c h) refl)))

  bad-4 : 128 ≤ d → group_of a b c d ≡ None
  unfolding group_of three_of pick
  bad-4 h =
      of-pick-cases (λ g. g ≡ None) (eqb (sextet_of a) 64) (λ t. refl)
      (λ t. of-pick-cases (λ g. g ≡ None) (eqb (sextet_of b) 64) (λ u. refl)
      (λ u. rw (ne_eqb d 61 (λ e. omega arith), no-sextet d h)
      (of-pick-cases (λ g. g ≡ None) (eqb (sextet_of c) 64) (λ v. refl) (λ v. refl))))

none-behind : (g : Option Group) (x : List ℕ) → Wide x → with_group g x none ≡ none
none-behind (Some (Three p q r)) x w = refl
none-behind (Some (Two p q)) [] w = elim w [ ]
none-behind (Some (Two p q)) (c ∷ x) w = refl
none-behind (Some (One p)) [] w = elim w [ ]
none-behind (Some (One p)) (c ∷ x) w = refl
none-behind None x w = refl

wide-none : (x : List ℕ) → Wide x → decode64 x ≡ none
unfolding decode64
wide-none [] w = elim w [ ]
wide-none (a ∷ []) w = refl
wide-none (a ∷ b ∷ []) w = refl
wide-none (a ∷ b ∷ c ∷ []) w = refl
wide-none (a ∷ b ∷ c ∷ d ∷ x) (here h) = rw (bad-1 a b c d h) refl
wide-none (a ∷ b ∷ c ∷ d ∷ x) (later (here h)) = rw (bad-2 a b c d h) refl
wide-none (a ∷ b ∷ c ∷ d ∷ x) (later (later (here h))) = rw (bad-3 a b c d h) refl
wide-none (a ∷ b ∷ c ∷ d ∷ x) (later (later (later (here h)))) = rw (bad-4 a b c d h) refl
wide-none (a ∷ b ∷ c ∷ d ∷ x) (later (later (later (later w)))) =
    rw (wide-none x w) (none-behind (group_of a b c d) x w)

-- either there is no pair, or there are characters that are in no base64 before and after
data Pairs (x : List ℕ) : List ℕ → Type 0 where
  same : Pairs x x
  wide : {y : List ℕ} → Wide x → Wide y → Pairs x y

pairs-on : (a : ℕ) {x y : List ℕ} → Pairs x y → Pairs (a ∷ x) (a ∷ y)
pairs-on a same = same
pairs-on a (wide v w) = wide (later v) (later w)

pairs : (x : List ℕ) → Pairs x (paired x)
unfolding paired
pairs [] = same
pairs (a ∷ []) = same
pairs (a ∷ b ∷ x) =
    of-pick-cases (Pairs (a ∷ b ∷ x)) (both (is_high a) (is_low b))
    (λ t. wide (here (omega (arith, high_is a b t))) (here (omega (arith, pair_is a b))))
    (λ t. pairs-on a (pairs (b ∷ x)))

decode-pairs : {x y : List ℕ} → Pairs x y → decode64 y ≡ decode64 x
decode-pairs same = refl
decode-pairs {x} {y} (wide v w) = wide-none y w ∙ sym (wide-none x v)

pub decode-paired : (x : List ℕ) → decode64 (paired x) ≡ decode64 x
decode-paired x = decode-pairs (pairs x)
