-- What the readers of values and members say of a text that is known, where a string stands there.
use Rattle.std.specs.Prelude.{Option, Some}
use Prim.Native.Nat.{ℕ, ◌+◌}
use mathlib.Core.Path.{◌≡◌, refl, ◌∙◌}
use mathlib.Core.Bool.{false}
use mathlib.Core.List.{List, ◌∷◌, ◌++◌}
use native.Mathlib.Omega.{arith}
use lib.ListN.{length}
use Rattle.laws.specs.Pick.{pick}
use Rattle.json_tokens.specs.Scan.{then_step, blank, after}
use Rattle.json_tokens.proofs.Stands.{Stands, stands-right, stands_at_lem, stands-next, colon-reads}
use Rattle.json_strings.proofs.Plain.{Each, string-reads}
use Rattle.json_values.specs.Value.{plain_at, value_at, member_step}
use Rattle.json_values.proofs.Ahead.{value-is}

pub value-string : {s : List ℕ} {k : ℕ} (d : ℕ) (l x : List ℕ) → Each l → Stands s k (34 ∷ (l ++ 34 ∷ x))
    → value_at s d k ≡ Some (k + length l + 2)
unfolding plain_at pick
value-string {s} {k} d l x e t = value-is s d k ∙ rw (stands_at_lem t) (string-reads l x e t)

-- a member, with what follows it
pub member-reads : {s : List ℕ} {k e : ℕ} (p : ℕ → Option ℕ) (name : List ℕ) (a : ℕ) (x : List ℕ) → Each name
    → Stands s k (34 ∷ (name ++ 34 ∷ 58 ∷ a ∷ x)) → blank a ≡ false
    → p (k + length name + 3) ≡ Some e → member_step s p k ≡ after s 125 e
unfolding member_step then_step
member-reads {s} {k} {e} p name a x n t h r =
    rw (string-reads name (58 ∷ a ∷ x) n t, colon-reads colon h, at_value, r) refl
  where
    place : k + 1 + length name + 1 ≡ k + length name + 2
    place = omega arith

    colon : Stands s (k + length name + 2) (58 ∷ a ∷ x)
    colon = rw place at (stands-next (stands-right name (34 ∷ 58 ∷ a ∷ x) (stands-next t)))

    at_value : k + length name + 2 + 1 ≡ k + length name + 3
    at_value = omega arith
