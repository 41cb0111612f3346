-- `sha512::parts::sha512_pair` meets its contract.
-- A slice is shorter than 2 ^ 63, so that two are shorter than 2 ^ 64 together.
use Rattle.std.proofs.Common.{ℕ, ◌+◌, ◌^◌, ◌<◌, List, [], ◌++◌, length, ap, ◌∙◌, arith, length-append}
use Rattle.sha512.specs.State.{state_digest}
use Rattle.sha512.proofs.State.{digest-is}
use Rattle.sha512.proofs.Whole.{then}
use Rattle.sha512.proofs.parts.sha512_pair.Goals as goal

pub returns : goal.returns
returns c =
    let a : List ℕ = c.args.a.now in
    let b : List ℕ = c.args.b.now in
    let fits : length a + length b < 2 ^ 64 = omega (arith, c.well_formed.0.1, c.well_formed.1.0.1) in
    let one = then [] a _ _ c.start.ensures c.update-first.ensures in
    c.finish.ensures
    ∙ ap state_digest (then a b _ _ one c.update.ensures)
    ∙ digest-is (a ++ b) (simp length-append fits)
