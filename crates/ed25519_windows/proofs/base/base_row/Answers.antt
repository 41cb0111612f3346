-- `ed25519_windows::base::base_row` meets its contract. Each row passes the test that holds it to its multiple.
use Rattle.digits.specs.Digits.{value}
use Rattle.ed25519_field.specs.Field.{p, add_f, sub_f, mul_f}
use Rattle.ed25519_field.specs.Limbs.{num}
use Rattle.ed25519_curve.specs.Points.{d, two_d, base, neutral, point_add, point_double, mul_from, point_equal}
use Rattle.ed25519_windows.proofs.BaseRows.{odd-rows}
use Rattle.ed25519_windows.proofs.base.base_row.Goals as goal

pub returns : goal.returns
unfolding num value p d add_f sub_f mul_f two_d base neutral point_add point_double mul_from point_equal
returns c = search (odd-rows, c.requires)
