-- `ed25519_sign::halves::second_half` meets its contract.
use Prim.Native.Nat.{ℕ, ◌+◌, ◌*◌, ◌%◌}
use mathlib.Core.Path.{ap, ◌∙◌}
use mathlib.Core.List.{List, ◌++◌}
use Rattle.laws.specs.Numbers.{le_bytes}
use Rattle.digits.specs.Digits.{value}
use Rattle.ed25519_field.specs.Limbs.{radix}
use Rattle.ed25519_scalar.specs.Order.{L}
use Rattle.ed25519.specs.Verification.{k_of}
use Rattle.ed25519.proofs.Ways.{digest-number}
use Rattle.ed25519_sign.proofs.halves.second_half.Goals as goal

pub returns : goal.returns
unfolding k_of
returns c =
    let g = c.args in
    let m : List ℕ = g.first.string ++ (g.a.now ++ (g.context.now ++ g.text.now)) in
    c.number_s.ensures
    ∙ ap (λ (k : ℕ). le_bytes 32 ((value radix g.first.number + k % L * value 256 g.s.now) % L))
    (digest-number m c.digest-k.result c.digest-k.ensures)
