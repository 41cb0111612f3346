-- Tests for zeros, as the library says them.
use mathlib.Core.Bool.{Bool, true, false, cond, ◌&&◌}
use mathlib.Core.Path.{◌≡◌, refl, sym, ap, ap₂, ◌∙◌}
use mathlib.Core.List.{List, [], ◌∷◌}
use Prim.Native.Nat.{ℕ, zero, suc, ◌*◌, ◌/◌, ◌≤◌}
use native.Mathlib.Omega.{arith}
use borrow.Author.Tests.{eqb-true, eqb-false}
use lib.Dec.{eqb}
use lib.ListN.{length, take, drop, length-drop}
use lib.Seq.{drop-drop}
use mir.Syntax.{w64}
use Rattle.std.specs.Int.{from_le_bytes}
use Rattle.std.specs.List.{list_all}
use Rattle.std.specs.Simd.{first_chunks}
use Rattle.laws.specs.Numbers.{le}
use Rattle.laws.specs.Zeros.{zeros}
use Rattle.laws.proofs.Zeros.{zeros-skip, zeros-halt}
use Rattle.octets.proofs.InBytes.{le_8}

-- a test of each byte
pub all_zeros : (s : List ℕ) → list_all (λ x. eqb x 0) s ≡ zeros s
unfolding zeros
all_zeros [] = refl
all_zeros (x ∷ xs) = by (eqb x 0) (all_zeros xs) where
  by : (t : Bool) → list_all (λ x. eqb x 0) xs ≡ zeros xs → (t && list_all (λ x. eqb x 0) xs) ≡ cond t (zeros xs) false
  by true e = e
  by false e = refl

-- eight bytes hold the number 0
abbrev pub none : List ℕ → Bool
none b = eqb (from_le_bytes w64 b) 0

-- k times eight bytes do
abbrev nones : ℕ → List ℕ → Bool
nones k s = list_all none (first_chunks 8 k s)

-- a test of k times eight bytes, and of the rest
nones_zeros : (k : ℕ) (s : List ℕ) → k * 8 ≤ length s → (nones k s && zeros (drop (k * 8) s)) ≡ zeros s
nones_zeros zero s h = refl
nones_zeros (suc k) s h =
    ap (λ n. (eqb n 0 && nones k (drop 8 s)) && zeros (drop (suc k * 8) s)) (le_8 s 0 (take 8 s) refl)
    ∙ by (eqb (le 8 s 0) 0) refl (nones_zeros k (drop 8 s) (omega (arith, length-drop 8 s)))
  where
    far : drop (suc k * 8) s ≡ drop (k * 8) (drop 8 s)
    far = ap (λ n. drop n s) (omega arith) ∙ sym (drop-drop (k * 8) 8 s)

    by : (t : Bool) → eqb (le 8 s 0) 0 ≡ t → (nones k (drop 8 s) && zeros (drop (k * 8) (drop 8 s))) ≡ zeros (drop 8 s)
        → ((t && nones k (drop 8 s)) && zeros (drop (suc k * 8) s)) ≡ zeros s
    by true e f =
        ap (λ l. nones k (drop 8 s) && zeros l) far ∙ f ∙ sym (zeros-skip s 0 8 (omega arith) (eqb-true _ _ e))
    by false e f = sym (zeros-halt s 0 8 (omega arith) (eqb-false _ _ e))

-- the two tests, one after the other
pub tests_zeros : (s : List ℕ) (t : Bool) → t ≡ list_all none (first_chunks 8 (length s / 8) s)
    → (t && list_all (λ x. eqb x 0) (drop (length s / 8 * 8) s)) ≡ zeros s
tests_zeros s t e =
    ap₂ (λ a b. a && b) e (all_zeros (drop (length s / 8 * 8) s)) ∙ nones_zeros (length s / 8) s (omega arith)
