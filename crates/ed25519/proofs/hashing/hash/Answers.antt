-- `ed25519::hashing::hash` meets its contract.
use Prim.Native.Nat.{ℕ, ◌%◌}
use mathlib.Core.Path.{ap, ◌∙◌}
use mathlib.Core.List.{List, ◌++◌}
use Rattle.ed25519_scalar.specs.Order.{L}
use Rattle.ed25519.specs.Verification.{k_of}
use Rattle.ed25519.proofs.Ways.{digest-number}
use Rattle.ed25519.proofs.hashing.hash.Goals as goal

pub returns : goal.returns
unfolding k_of
returns c =
    let g = c.args in
    let m : List ℕ = g.r.now ++ (g.a.now ++ (g.context.now ++ g.text.now)) in (
      c.modulo.ensures.0 ∙ ap (λ (n : ℕ). n % L) (digest-number m c.digest-d.result c.digest-d.ensures),
      c.modulo.ensures.1,
    )
