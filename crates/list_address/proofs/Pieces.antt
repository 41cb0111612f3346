-- The "::" in an IPv6 address, and what stands around it.
use Prim.Native.Nat.{ℕ, ◌+◌, ◌<◌}
use mathlib.Core.Path.{◌≡◌, refl, sym, ◌∙◌, ap}
use mathlib.Core.Bool.{Bool, true, false}
use mathlib.Core.List.{List}
use native.Mathlib.Omega.{arith}
use borrow.Author.Tests.{eqb-true, eq-eqb, ne_eqb, lt-ltb}
use lib.Dec.{eqb, leb}
use lib.ListN.{length, get_or, take, drop}
use Rattle.std.specs.Prelude.{None, Option, Some}
use Rattle.std.specs.Option.{option_eq}
use Rattle.laws.specs.Pick.{pick}
use Rattle.laws.specs.Least.{somewhere}
use Rattle.laws.proofs.Least.{somewhere-at}
use Rattle.json_tokens.proofs.Picks.{over}
use Rattle.list_address.specs.Parts.{exactly, within}
use Rattle.list_address.specs.Host.{pieces, side, double_at, double_in, is_shortened, is_ipv6}
use Rattle.list_address.proofs.Sizes.{both-second}

-- two bytes stand there
pub double-room : (x : List ℕ) (k : ℕ) → double_at x k ≡ true → k + 1 < length x
unfolding double_at
double-room x k h = let e = eqb-true (get_or x (k + 1) 0) 58 (both-second _ _ h) in over x refl (omega arith)

pub double-there : {k : ℕ} (x : List ℕ) → k ≡ double_in x → k < length x → double_at x k ≡ true
unfolding somewhere
double-there x e h = rw e (somewhere-at (double_at x) (length x) (lt-ltb _ _ (rw e at h))).1

within-none : (n : ℕ) (d : Option ℕ) → within n d None ≡ false
unfolding within
within-none n (Some a) = refl
within-none n None = refl

module _ (x : List ℕ) (k : ℕ) where
  pub front-wrong : side false (take k x) ≡ None → false ≡ is_shortened x k
  unfolding is_shortened within
  front-wrong e = rw e refl

  pub back-wrong : {rest : List ℕ} → rest ≡ drop (k + 2) x → side true rest ≡ None → false ≡ is_shortened x k
  unfolding is_shortened
  back-wrong g e = sym (ap (within 7 (side false (take k x))) (ap (side true) (sym g) ∙ e) ∙ within-none 7 _)

  pub around : {rest : List ℕ} {a b : ℕ} → rest ≡ drop (k + 2) x → side false (take k x) ≡ Some a → side true rest ≡ Some b
      → leb (a + b) 7 ≡ is_shortened x k
  unfolding is_shortened within
  around g e f = rw (e, ap (side true) (sym g) ∙ f) refl

eight : (d : Option ℕ) → option_eq eqb d (Some 8) ≡ exactly 8 d
unfolding exactly
eight (Some n) = refl
eight None = refl

module _ (x : List ℕ) where
  pub whole : {t : Bool} → double_in x ≡ length x → t ≡ option_eq eqb (pieces true x) (Some 8) → t ≡ is_ipv6 x
  unfolding is_ipv6 pick
  whole e f = rw (eq-eqb _ _ e) (f ∙ eight _)

  pub shortened : {k : ℕ} {t : Bool} → k ≡ double_in x → k < length x → t ≡ is_shortened x k → t ≡ is_ipv6 x
  unfolding is_ipv6 pick
  shortened {k} e h f = rw (ne_eqb (double_in x) (length x) (λ z. omega arith)) (f ∙ ap (is_shortened x) e)
