-- `octets::buffers::zero` meets its contract: the part that is lent comes back cleared.
use mathlib.Core.Path.{ap, ◌∙◌}
use Prim.Native.Nat.{ℕ, ◌-◌}
use lib.ListN.{replicate, length-replicate}
use Rattle.laws.proofs.Pasted.{part-back, length_part}
use Rattle.octets.proofs.buffers.zero.Goals as goal

pub returns : goal.returns
returns c =
    let a = c.args in
    let long = length_part a.dst.now a.a a.e c.requires.0 c.requires.1 in
    part-back a.dst.now a.a (a.e - a.a)
    (c.fill.ensures.after (λ y k. k) ∙ ap (λ (n : ℕ). replicate n 0) long)
    (length-replicate {A = ℕ} (a.e - a.a) 0)
