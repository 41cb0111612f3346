-- `report_write::pieces::put_piece` meets its contract: base64 follows the word.
use Prim.Native.Nat.{◌+◌}
use mathlib.Core.Path.{refl}
use lib.ListN.{length}
use Rattle.laws.proofs.Written.{puts_one, puts-more}
use Rattle.base64_strict.specs.Encode.{encode64}
use Rattle.report_write.specs.Pieces.{piece}
use Rattle.report_write.proofs.Puts.{left-fits, right-fits}
use Rattle.report_write.proofs.pieces.put_piece.Goals as goal

pub put-requires : goal.put-requires
unfolding piece
put-requires c =
    let a = c.args in
    left-fits a.at a.w.now (encode64 a.s.now) c.requires

pub put_code-requires : goal.put_code-requires
unfolding piece
put_code-requires c =
    let a = c.args in
    let l =
    left-fits a.at a.w.now (encode64 a.s.now)
    c.requires in
    let p = puts_one a.w.now (a.at + length a.w.now) c.put.ensures refl l in
    right-fits a.w.now (encode64 a.s.now) p
    c.requires

pub returns : goal.returns
unfolding piece
returns c =
    let a = c.args in
    let l =
    left-fits a.at a.w.now (encode64 a.s.now)
    c.requires in
    puts-more
    (puts_one a.w.now (a.at + length a.w.now)
    c.put.ensures refl l) c.put_code.ensures
