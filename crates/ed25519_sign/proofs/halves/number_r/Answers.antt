-- `ed25519_sign::halves::number_r` meets its contract.
use Prim.Native.Nat.{ℕ, ◌%◌}
use mathlib.Core.Path.{ap, ◌∙◌}
use mathlib.Core.List.{List, ◌++◌}
use Rattle.ed25519_scalar.specs.Order.{L}
use Rattle.ed25519.proofs.Ways.{digest-number}
use Rattle.ed25519_sign.proofs.halves.number_r.Goals as goal

pub returns : goal.returns
returns c =
    let g = c.args in
    let m : List ℕ = g.prefix.now ++ (g.context.now ++ g.text.now) in
    record {
      is =
          c.modulo.ensures.0
          ∙ ap (λ (n : ℕ). n % L) (digest-number m c.digest-d.result c.digest-d.ensures);
      low = c.modulo.ensures.1;
    }
