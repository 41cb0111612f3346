-- Products and quotients that code takes in parts.
use mathlib.Core.Path.{◌≡◌, sym, ap, ◌∙◌}
use Prim.Native.Nat.{ℕ, ◌+◌, ◌*◌, ◌-◌, ◌/◌, ◌%◌}
use native.Mathlib.Nat.{add-mul, mul-add, mul_assoc, div-add-mod}
use native.Mathlib.Omega.{arith}
use Rattle.clock_spans.specs.Drift.{million, least_passed, most_passed}

-- ---- d * r / million in two parts

two-parts : (d r : ℕ) → d * r ≡ million * (d / million * r) + d % million * r
two-parts d r =
    ap (λ (x : ℕ). x * r) (sym (div-add-mod d million))
    ∙ add-mul (million * (d / million)) (d % million) r
    ∙ ap (λ (x : ℕ). x + d % million * r) (mul_assoc million (d / million) r)

pub least-parts : (drift d : ℕ)
    → d / million * (million - drift) + d % million * (million - drift) / million ≡ least_passed drift d
unfolding least_passed
least-parts drift d = let e = two-parts d (million - drift) in omega arith

pub most-parts : (drift d : ℕ)
    → d + d / million * drift + (d % million * drift + 999999) / million ≡ most_passed drift d
unfolding most_passed
most-parts drift d =
    let e = two-parts d drift in
    let f = mul-add d million drift in
    omega arith
