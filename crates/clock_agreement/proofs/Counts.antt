-- A set of servers, one more place of the list looked at.
use mathlib.Core.Path.{◌≡◌, ap, ◌∙◌}
use mathlib.Core.Bool.{Bool, cond}
use Prim.Native.Nat.{ℕ, ◌+◌, ◌*◌, ◌%◌, ◌^◌, ◌≤◌, ◌<◌}
use native.Mathlib.Nat.{pow-suc, le_of_suc-le-suc}
use native.Mathlib.Numerals.{add-one}
use native.Mathlib.Omega.{arith}
use lib.Pow.{pow_mono}
use Rattle.clock_agreement.specs.Many.{set_of}

pub bit-doubled : (s : ℕ) → 2 ^ (s + 1) ≡ 2 * 2 ^ s
bit-doubled s = rw (add-one, pow-suc) (omega arith)

-- a bit that is shifted to a server's place, as code computes it
pub bit-shifted : (s : ℕ) → s < 8 → 1 * 2 ^ s % 2 ^ 64 ≡ 2 ^ s
bit-shifted s h = let k : 2 ^ s ≤ 2 ^ 7 = pow_mono (le_of_suc-le-suc h) in omega arith

pub set-more : (p : ℕ → Bool) (s : ℕ) {set r : ℕ} → set ≡ set_of p s → r ≡ set + cond (p s) (2 ^ s) 0
    → r ≡ set_of p (s + 1)
unfolding set_of
set-more p s e f = rw add-one (f ∙ ap (λ (x : ℕ). x + cond (p s) (2 ^ s) 0) e)
