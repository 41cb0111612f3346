-- One pass in request P14's words and in whole numbers: go through the windows once, and keep only the largest
-- MIDP - RADI seen so far.
use Rattle.std.specs.Prelude.{Bool, false, cond, ◌||◌, List, ℕ, zero, suc, ℤ, pos, ◌-ℤ◌, ◌+ℤ◌, length, get_or}
use Rattle.std.specs.Int.Signed.{lt_z}
use Rattle.check_response.specs.Window.{window_of}
use Rattle.check_response.specs.declared.Window.{Window}

-- MIDP - RADI and MIDP + RADI
abbrev pub least : Window → ℤ
least w = pos w.midp -ℤ pos w.radi

abbrev pub latest : Window → ℤ
latest w = pos w.midp +ℤ pos w.radi

abbrev pub larger : ℤ → ℤ → ℤ
larger a b = cond (lt_z a b) b a

-- the largest MIDP - RADI of the windows 0 to k
unfoldable pub largest : (ℕ → Window) → ℕ → ℤ
largest w zero = least (w 0)
largest w (suc k) = larger (largest w k) (least (w (suc k)))

-- the pass through the first n windows: the first is kept, and each later one is compared with the largest before it
unfoldable pub one_pass : (ℕ → Window) → ℕ → Bool
one_pass w zero = false
one_pass w (suc zero) = false
one_pass w (suc (suc k)) = one_pass w (suc k) || lt_z (latest (w (suc k))) (largest w k)

-- through a list
abbrev pub one_pass_in : List Window → Bool
one_pass_in ws = one_pass (λ k. get_or ws k (window_of 0 0 0 0)) (length ws)
