-- What the library's scans answer, told by the first place at which a test holds.
use Prim.Native.Nat.{ℕ, zero, suc, ◌+◌, ◌*◌, ◌<◌}
use mathlib.Core.Path.{◌≡◌, refl, sym, ◌∙◌, ap, ap₂}
use mathlib.Core.Bool.{Bool, true, false, cond, ◌||◌}
use mathlib.Core.List.{List, [], ◌∷◌}
use native.Mathlib.Omega.{arith}
use borrow.Author.Tests.{lt-ltb}
use lib.Dec.{ltb}
use lib.ListN.{length, get_or, take, drop}
use lib.Seq.{drop-drop, get_or-drop, get_or-take}
use mir.Syntax.{w32}
use Rattle.std.specs.Int.{from_le_bytes}
use Rattle.std.specs.List.{list_any}
use Rattle.std.specs.Simd.{first_chunks}
use Rattle.laws.specs.Least.{least, somewhere}
use Rattle.laws.specs.Numbers.{le}
use Rattle.laws.proofs.Least.{least-front, somewhere-same}

-- one place more, at the front
somewhere-front : (p : ℕ → Bool) (n : ℕ) → somewhere p (suc n) ≡ (p 0 || somewhere (λ k. p (suc k)) n)
unfolding somewhere
somewhere-front p n = ap (λ m. ltb m (suc n)) (least-front p n) ∙ by (p 0) (least (λ k. p (suc k)) n)
  where
    by : (t : Bool) (m : ℕ) → ltb (cond t 0 (suc m)) (suc n) ≡ (t || ltb m n)
    by true m = lt-ltb 0 (suc n) (omega arith)
    by false m = grind arith

-- some item of a list passes a test
pub any_somewhere : {A : Type 0} (test : A → Bool) (d : A) (xs : List A)
    → list_any test xs ≡ somewhere (λ k. test (get_or xs k d)) (length xs)
unfolding somewhere least
any_somewhere test d [] = refl
any_somewhere test d (x ∷ xs) =
    ap (λ t. test x || t) (any_somewhere test d xs)
    ∙ sym (somewhere-front (λ k. test (get_or (x ∷ xs) k d)) (length xs))

-- the number in a chunk of four bytes
le_4 : (s : List ℕ) (at : ℕ) → from_le_bytes w32 (take 4 (drop at s)) ≡ le 4 s at
unfolding le
le_4 s at = rw (byte 0 (omega arith), byte 1 (omega arith), byte 2 (omega arith), byte 3 (omega arith)) (omega arith)
  where
    byte : (j : ℕ) → j < 4 → get_or (take 4 (drop at s)) j 0 ≡ get_or s (at + j) 0
    byte j h = get_or-take 4 (drop at s) j 0 h ∙ get_or-drop at s j 0

-- some word of the n from `at` passes it, where words are chunks of four bytes
words_from : (test : ℕ → Bool) (s : List ℕ) (at n : ℕ)
    → list_any (λ w. test (from_le_bytes w32 w)) (first_chunks 4 n (drop at s)) ≡ somewhere (λ k. test (le 4 s (at + 4 * k))) n
unfolding somewhere least
words_from test s at zero = refl
words_from test s at (suc n) =
    let here : from_le_bytes w32 (take 4 (drop at s)) ≡ le 4 s (at + 4 * 0) =
    le_4 s at ∙ ap (λ j. le 4 s j) (omega arith) in
    let rest : list_any (λ w. test (from_le_bytes w32 w)) (first_chunks 4 n (drop 4 (drop at s)))
    ≡ somewhere (λ k. test (le 4 s (at + 4 * suc k))) n
    = ap (λ l. list_any (λ w. test (from_le_bytes w32 w)) (first_chunks 4 n l)) (drop-drop 4 at s)
    ∙ words_from test s (at + 4) n
    ∙ somewhere-same (λ k. test (le 4 s (at + 4 + 4 * k))) (λ k. test (le 4 s (at + 4 * suc k))) n
    (λ k h. ap (λ j. test (le 4 s j)) (omega arith)) in
    ap₂ (λ t u. t || u) (ap test here) rest ∙ sym (somewhere-front (λ k. test (le 4 s (at + 4 * k))) n)

-- the same of the words from the start
pub words_somewhere : (test : ℕ → Bool) (s : List ℕ) (n : ℕ)
    → list_any (λ w. test (from_le_bytes w32 w)) (first_chunks 4 n s) ≡ somewhere (λ k. test (le 4 s (4 * k))) n
words_somewhere test s n =
    words_from test s 0 n ∙ somewhere-same _ _ n (λ k h. ap (λ j. test (le 4 s j)) (omega arith))
