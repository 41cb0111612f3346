-- What is read off a row of parts: an IPv4 address, a name, and the pieces of an IPv6 address.
use Prim.Native.Nat.{ℕ, ◌+◌, ◌≤◌}
use mathlib.Core.Path.{◌≡◌, refl, sym, ◌∙◌, ap, ap₂}
use mathlib.Core.Bool.{Bool, true, false}
use mathlib.Core.List.{List}
use native.Mathlib.Omega.{arith}
use borrow.Author.Tests.{eq-eqb, ne_eqb}
use lib.ListN.{length}
use Rattle.std.specs.Prelude.{None, Option, Some}
use Rattle.laws.specs.Pick.{pick}
use Rattle.list_address.specs.Parts.{split, plus, counted, or_else, right, exactly}
use Rattle.list_address.specs.Decimal.{is_octet}
use Rattle.list_address.specs.Host.{is_ipv4, is_group, pieces, is_label, is_last_label}
use Rattle.list_address.specs.Facts.{ends, Lined, last_pieces}

module _ {p : List ℕ → Bool} {c : ℕ} {s : List ℕ} {r : Option (ℕ × List ℕ)} where
  lined-last : {n : ℕ} {x : List ℕ} → Lined p c s r → r ≡ Some (n, x) → (q : List ℕ → Bool)
      → counted p q (split c s) ≡ pick (q x) (Some (n + 1)) None
  unfolding ends
  lined-last l e q = l.told q ∙ ap (ends q) e

  lined-wrong : Lined p c s r → r ≡ None → (q : List ℕ → Bool) → counted p q (split c s) ≡ None
  unfolding ends
  lined-wrong l e q = l.told q ∙ ap (ends q) e

  pub lined-few : {n : ℕ} {x : List ℕ} → Lined p c s r → r ≡ Some (n, x) → n ≤ length s
  lined-few l e = rw e at l.few

-- ---- IPv4

exactly-other : (m n : ℕ) (t : Bool) → (n ≡ m → ⊥) → exactly (m + 1) (pick t (Some (n + 1)) None) ≡ false
unfolding exactly pick
exactly-other m n true h = ne_eqb (n + 1) (m + 1) (λ e. h (omega (arith, e)))
exactly-other m n false h = refl

exactly-same : (m n : ℕ) (t : Bool) → n ≡ m → exactly (m + 1) (pick t (Some (n + 1)) None) ≡ t
unfolding exactly pick
exactly-same m n true h = eq-eqb (n + 1) (m + 1) (ap (λ k. k + 1) h)
exactly-same m n false h = refl

module _ {s : List ℕ} {r : Option (ℕ × List ℕ)} (l : Lined is_octet 46 s r) where
  pub ipv4-wrong : r ≡ None → false ≡ is_ipv4 s
  unfolding is_ipv4 exactly
  ipv4-wrong e = sym (ap (exactly 4) (lined-wrong l e is_octet))

  pub ipv4-other : {n : ℕ} {x : List ℕ} → r ≡ Some (n, x) → (n ≡ 3 → ⊥) → false ≡ is_ipv4 s
  unfolding is_ipv4
  ipv4-other {n} {x} e h = sym (ap (exactly 4) (lined-last l e is_octet) ∙ exactly-other 3 n _ h)

  pub ipv4-last : {n : ℕ} {x : List ℕ} {t : Bool} → r ≡ Some (n, x) → n ≡ 3 → t ≡ is_octet x → t ≡ is_ipv4 s
  unfolding is_ipv4
  ipv4-last {n} {x} e h g = g ∙ sym (ap (exactly 4) (lined-last l e is_octet) ∙ exactly-same 3 n _ h)

-- ---- Names

right-last : (n : ℕ) (t : Bool) → right (pick t (Some n) None) ≡ t
unfolding right pick
right-last n true = refl
right-last n false = refl

module _ {s : List ℕ} {r : Option (ℕ × List ℕ)} (l : Lined is_label 46 s r) where
  pub name-wrong : r ≡ None → false ≡ right (counted is_label is_last_label (split 46 s))
  unfolding right
  name-wrong e = sym (ap right (lined-wrong l e is_last_label))

  pub name-last : {n : ℕ} {x : List ℕ} {t : Bool} → r ≡ Some (n, x) → t ≡ is_last_label x
      → t ≡ right (counted is_label is_last_label (split 46 s))
  name-last {n} {x} e g = g ∙ sym (ap right (lined-last l e is_last_label) ∙ right-last (n + 1) _)

-- ---- IPv6

all-wrong : (tail : Bool) → None ≡ or_else None (pick tail (plus 1 None) None)
unfolding or_else plus pick
all-wrong true = refl
all-wrong false = refl

-- the pieces before the last part, and those of it
last-more : (n : ℕ) (g tail v : Bool)
    → plus n (or_else (pick g (Some 1) None) (pick tail (plus 1 (pick v (Some 1) None)) None))
    ≡ or_else (pick g (Some (n + 1)) None) (pick tail (plus 1 (pick v (Some (n + 1)) None)) None)
unfolding or_else plus pick
last-more n true tail v = refl
last-more n false true true = ap Some (omega arith)
last-more n false true false = refl
last-more n false false v = refl

module _ {s : List ℕ} {r : Option (ℕ × List ℕ)} (l : Lined is_group 58 s r) (tail : Bool) where
  pub pieces-wrong : r ≡ None → None ≡ pieces tail s
  unfolding pieces
  pieces-wrong e =
      all-wrong tail
      ∙ sym (ap₂ (λ x y. or_else x (pick tail (plus 1 y) None)) (lined-wrong l e is_group) (lined-wrong l e is_ipv4))

  pub pieces-last : {n : ℕ} {x : List ℕ} → r ≡ Some (n, x) → plus n (last_pieces tail x) ≡ pieces tail s
  unfolding pieces last_pieces
  pieces-last {n} {x} e =
      last-more n (is_group x) tail (is_ipv4 x)
      ∙ sym (ap₂ (λ x y. or_else x (pick tail (plus 1 y) None)) (lined-last l e is_group) (lined-last l e is_ipv4))
