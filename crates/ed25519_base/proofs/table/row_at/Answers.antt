-- `ed25519_base::table::row_at` meets its contract: the table passes the test of its rows.
use Rattle.digits.specs.Digits.{value}
use Rattle.ed25519_field.specs.Field.{p, add_f, sub_f, mul_f}
use Rattle.ed25519_field.specs.Limbs.{num}
use Rattle.ed25519_curve.specs.Points.{d, two_d, base, neutral, point_add, point_double, mul_from, point_equal}
use Rattle.ed25519_base.specs.Comb.{teeth_of}
use Rattle.ed25519_base.proofs.Rows.{comb-rows}
use Rattle.ed25519_base.proofs.table.row_at.Goals as goal

pub returns : goal.returns
unfolding num value p d add_f sub_f mul_f two_d base neutral point_add point_double mul_from point_equal teeth_of
returns c = search (comb-rows, c.requires)
