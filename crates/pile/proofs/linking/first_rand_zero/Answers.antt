-- `pile::linking::first_rand_zero` meets its contract.
use mathlib.Core.Path.{◌≡◌, sym, ap, ◌∙◌}
use Rattle.laws.specs.Zeros.{zeros}
use Rattle.pile.specs.Pile.{rand_in}
use Rattle.pile.specs.Links.{first_rand_zero}
use Rattle.pile.proofs.Wholes.{first-there}
use Rattle.pile.proofs.linking.first_rand_zero.Goals as goal

pub returns-then-length_bad : goal.returns-then-length_bad
unfolding first_rand_zero
returns-then-length_bad c = rw (sym c.length_bad.ensures ∙ c.if-length_bad.true)

pub record_at-r-requires : goal.record_at-r-requires
record_at-r-requires c = first-there _ c.length_bad.ensures c.if-length_bad.false

pub returns : goal.returns
unfolding first_rand_zero
returns c =
    let r = c.record_at-r.result.bytes.now in
    let e : c.all_zero.result ≡ zeros (rand_in r) =
    c.all_zero.ensures ∙ ap zeros c.rand.ensures in
    rw (sym c.length_bad.ensures ∙ c.if-length_bad.false, ← c.record_at-r.ensures) e
