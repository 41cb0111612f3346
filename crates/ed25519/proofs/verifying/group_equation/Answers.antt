-- `ed25519::verifying::group_equation` meets its contract.
use Rattle.ed25519.proofs.Equation.{equation-is, digits_low}
use Rattle.ed25519.proofs.verifying.group_equation.Goals as goal

pub opposite-minus-requires : goal.opposite-minus-requires
opposite-minus-requires c = c.row_of.ensures.even.scaled

pub times_two-requires : goal.times_two-requires
times_two-requires c =
    let g = c.requires in
    (g.6, g.7, c.opposite-minus.ensures.even c.row_of.ensures.even)

pub point_equal-requires : goal.point_equal-requires
point_equal-requires c = (c.times_two.ensures.good, c.requires.1)

pub returns : goal.returns
returns c =
    let w = c.times_two in
    let o = c.opposite-minus in
    let r = c.row_of in
    let h = c.requires in
    equation-is c.args.a c.args.r r.result o.result w.result _ _ _ h.2 h.3
    (digits_low _ h.4.long h.6) (digits_low _ h.5.long h.7) r.ensures o.ensures w.ensures c.point_equal.ensures
