-- What the library's scans answer, in this crate's words.
use Prim.Native.Nat.{ℕ, zero, suc, ◌+◌, ◌≤◌, ◌<◌}
use mathlib.Core.Path.{◌≡◌, refl, sym, ◌∙◌, ap, ap₂}
use mathlib.Core.Bool.{Bool, true, false, not, cond, ◌||◌, ◌&&◌}
use mathlib.Core.List.{List, [], ◌∷◌}
use native.Mathlib.Omega.{arith}
use borrow.Author.Tests.{ne_eqb, ltb-true, ltb-false, lt-ltb}
use lib.Dec.{eqb, ltb}
use lib.ListN.{length, get_or}
use Rattle.std.specs.Prelude.{None, Some, position}
use Rattle.std.specs.Option.{unwrap_or}
use Rattle.std.specs.List.{list_any, list_all, prefix_len, position_or_len, zip}
use Rattle.laws.specs.Least.{least, somewhere}
use Rattle.laws.proofs.Ranges.{somewhere-front, all-any, place, no-place}
use Rattle.laws.specs.Pick.{pick}
use Rattle.json_tokens.specs.Scan.{run, past_while}
use Rattle.list_address.specs.Runs.{every}

pub any_somewhere : (p : ℕ → Bool) (w : List ℕ) → list_any p w ≡ somewhere (λ k. p (get_or w k 0)) (length w)
unfolding somewhere least
any_somewhere p [] = refl
any_somewhere p (x ∷ w) =
    ap (λ t. p x || t) (any_somewhere p w) ∙ sym (somewhere-front (λ k. p (get_or (x ∷ w) k 0)) (length w))

run_whole : (p : ℕ → Bool) (x : List ℕ) → eqb (run p x) (length x) ≡ list_all p x
unfolding pick
run_whole p [] = refl
run_whole p (b ∷ x) = by (p b) (run_whole p x)
  where
    by : (t : Bool) → eqb (run p x) (length x) ≡ list_all p x
        → eqb (pick t (suc (run p x)) 0) (suc (length x)) ≡ (t && list_all p x)
    by true e = grind arith
    by false e = ne_eqb 0 (suc (length x)) (λ z. omega arith)

pub every_all : (p : ℕ → Bool) (x : List ℕ) → list_all p x ≡ every p x
unfolding every past_while
every_all p x = sym (run_whole p x) ∙ ap (λ n. eqb n (length x)) (omega arith)

run-prefix : (p : ℕ → Bool) (x : List ℕ) → run p x ≡ prefix_len p x
unfolding pick
run-prefix p [] = refl
run-prefix p (b ∷ x) = by (p b) (run-prefix p x)
  where
    by : (t : Bool) → run p x ≡ prefix_len p x → pick t (suc (run p x)) 0 ≡ cond t (1 + prefix_len p x) 0
    by true e = omega arith
    by false e = refl

-- a run that is as long as the list is the list
pub run-within : (p : ℕ → Bool) (x : List ℕ) → length x ≤ run p x → run p x ≡ length x
unfolding pick
run-within p [] h = refl
run-within p (b ∷ x) h = by (p b) h (run-within p x)
  where
    by : (t : Bool) → suc (length x) ≤ pick t (suc (run p x)) 0 → (length x ≤ run p x → run p x ≡ length x)
        → pick t (suc (run p x)) 0 ≡ suc (length x)
    by true h f = ap suc (f (omega arith))
    by false h f = absurd (omega arith)

-- the place of the first byte that passes
module _ (p : ℕ → Bool) (x : List ℕ) where
  pub found-run : {k : ℕ} → position p x ≡ Some k → (k ≡ run (λ b. not (p b)) x) × (k < length x)
  found-run {k} e =
      let h = place p x (ltb (position_or_len p x) (length x)) e in
      (sym h.1 ∙ sym (run-prefix _ x), rw h.1 at (ltb-true _ _ h.0))

  pub unfound-run : position p x ≡ None → length x ≤ run (λ b. not (p b)) x
  unfound-run e =
      rw (run-prefix (λ b. not (p b)) x) (ltb-false _ _ (no-place p x (ltb (position_or_len p x) (length x)) e))

  pub first-or : unwrap_or (position p x) (length x) ≡ run (λ b. not (p b)) x
  first-or = by (ltb (position_or_len p x) (length x)) refl
    where
      by : (t : Bool) → ltb (position_or_len p x) (length x) ≡ t
          → unwrap_or (cond t (Some (position_or_len p x)) None) (length x) ≡ run (λ b. not (p b)) x
      by true e = sym (run-prefix _ x)
      by false e = sym (run-within _ x (rw (run-prefix (λ b. not (p b)) x) (ltb-false _ _ e)))

pub zip-all : (f : ℕ → ℕ → Bool) (s w : List ℕ) → length w ≤ length s
    → list_all (λ b. f b.0 b.1) (zip s w) ≡ not (somewhere (λ k. not (f (get_or s k 0) (get_or w k 0))) (length w))
unfolding somewhere least
zip-all f [] [] h = refl
zip-all f (x ∷ s) [] h = refl
zip-all f [] (y ∷ w) h = absurd (omega arith)
zip-all f (x ∷ s) (y ∷ w) h =
    by (f x y) (zip-all f s w (omega arith))
    ∙ sym (ap not (somewhere-front (λ k. not (f (get_or (x ∷ s) k 0) (get_or (y ∷ w) k 0))) (length w)))
  where
    by : (t : Bool)
        → list_all (λ b. f b.0 b.1) (zip s w) ≡ not (somewhere (λ k. not (f (get_or s k 0) (get_or w k 0))) (length w))
        → (t && list_all (λ b. f b.0 b.1) (zip s w))
        ≡ not (not t || somewhere (λ k. not (f (get_or s k 0) (get_or w k 0))) (length w))
    by true e = e
    by false e = refl
