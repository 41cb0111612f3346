-- An array that is made by a call for each index.
use Prim.Native.Nat.{ℕ, zero, suc, ◌+◌, ◌<◌}
use mathlib.Core.Path.{◌≡◌, subst, ◌∙◌}
use mathlib.Core.List.{List}
use native.Mathlib.Omega.{arith}
use denote.Param.Members.{Mut}
use lib.ListN.{get_or}
use Rattle.std.specs.Fn.{Called}
use Rattle.std.specs.Array.{IsFromFnResult, IsFromFnResultFrom}

-- each call leaves the closure f as it is, and answers with h of its index
module _ {F B : Type 0} (g : Mut F (ℕ × Unit {0}) B) (h : ℕ → B) (f : F) (d : B) (ys : List B)
    (calls : (i : ℕ) (y : B) (q : F) → Called g f (i, tt) y q → (q ≡ f) × (y ≡ h i)) where
  from : (n i : ℕ) → IsFromFnResultFrom g f ys i n → (j k : ℕ) → k ≡ i + j → j < n → get_or ys k d ≡ h k
  from zero i e j k z l = elim l [ ]
  from (suc n) i e zero k z l = let w : k ≡ i = omega arith in rw w (e.2.1 d ∙ (calls i e.1 e.0 e.3).1)
  from (suc n) i e (suc j) k z l =
      from n (i + 1) (subst (λ q. IsFromFnResultFrom g q ys (i + 1) n) (calls i e.1 e.0 e.3).0 e.4) j k (omega arith) (omega arith)

  -- then h of each index stands there
  pub made : (n : ℕ) → IsFromFnResult g f ys n → (k : ℕ) → k < n → get_or ys k d ≡ h k
  made n r k l = from n 0 r.each k k (omega arith) l
