-- Laws of `split`: a part ends at the first byte between parts, or at the end.
use Prim.Native.Nat.{ℕ, suc, ◌<◌}
use mathlib.Core.Path.{◌≡◌, refl, ap}
use mathlib.Core.Bool.{Bool, true, false, not}
use mathlib.Core.List.{List, [], ◌∷◌}
use native.Mathlib.Omega.{arith}
use lib.Dec.{eqb}
use lib.ListN.{length, take, drop}
use Rattle.laws.specs.Pick.{pick}
use Rattle.json_tokens.specs.Scan.{run}
use Rattle.list_address.specs.Parts.{onto, split}

module _ (c : ℕ) where
  abbrev other : ℕ → Bool
  other b = not (eqb b c)

  -- there is a part
  onto-some : (b : ℕ) (l : List (List ℕ)) → 0 < length (onto b l)
  unfolding onto
  onto-some b [] = omega arith
  onto-some b (x ∷ xs) = omega arith

  pub split-some : (s : List ℕ) → 0 < length (split c s)
  unfolding split pick
  split-some [] = omega arith
  split-some (b ∷ s) = by (eqb b c)
    where
      by : (t : Bool) → 0 < length (pick t ([] ∷ split c s) (onto b (split c s)))
      by true = omega arith
      by false = onto-some b (split c s)

  -- no byte c is left: the part is the last
  pub last-part : (s : List ℕ) → run other s ≡ length s → split c s ≡ s ∷ []
  unfolding split onto pick
  last-part [] h = refl
  last-part (b ∷ s) h = by (eqb b c) h (last-part s)
    where
      by : (t : Bool) → pick (not t) (suc (run other s)) 0 ≡ suc (length s)
          → (run other s ≡ length s → split c s ≡ s ∷ [])
          → pick t ([] ∷ split c s) (onto b (split c s)) ≡ (b ∷ s) ∷ []
      by true e f = absurd (omega (arith, e))
      by false e f = ap (onto b) (f (omega (arith, e)))

  -- else another follows the next c
  pub next-part : (s : List ℕ) → run other s < length s
      → split c s ≡ take (run other s) s ∷ split c (drop (suc (run other s)) s)
  unfolding split onto pick
  next-part [] h = absurd (omega arith)
  next-part (b ∷ s) h = by (eqb b c) h (next-part s)
    where
      by : (t : Bool) → pick (not t) (suc (run other s)) 0 < suc (length s)
          → (run other s < length s → split c s ≡ take (run other s) s ∷ split c (drop (suc (run other s)) s))
          → pick t ([] ∷ split c s) (onto b (split c s))
          ≡ take (pick (not t) (suc (run other s)) 0) (b ∷ s)
          ∷ split c (drop (suc (pick (not t) (suc (run other s)) 0)) (b ∷ s))
      by true e f = refl
      by false e f = ap (onto b) (f (omega arith))
