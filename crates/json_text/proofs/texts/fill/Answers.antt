use borrow.Author.Rules.{rules}
use Rattle.laws.proofs.Filled.{filled-length}
use Rattle.json_text.specs.Facts.{Reads}
use Rattle.json_text.proofs.Fills.{filling-first, filling-fits, filling-next, filling-over}
use Rattle.json_text.proofs.texts.fill.Goals as goal

pub loop-c-init : goal.loop-c-init
loop-c-init c = filling-first _ _ _ c.requires.0 c.requires.1

pub put_letter-requires : goal.put_letter-requires
put_letter-requires c =
    filling-fits c.loop-c.invariant
    (rw c.in-Is.is at c.letter_at.ensures)

pub overflow_add-n : goal.overflow_add-n
overflow_add-n c =
    let f = filling-fits c.loop-c.invariant
    (rw c.in-Is.is at
    c.letter_at.ensures) in
    let l = filled-length c.loop-c.invariant.filled
    in search rules

pub loop-c-smaller : goal.loop-c-smaller
loop-c-smaller c =
    let q : Reads
    c.args.s.now
    c.loop-c.k _ _ = rw
    c.in-Is.is at
    c.letter_at.ensures in
    q.on

pub loop-c-preserved : goal.loop-c-preserved
loop-c-preserved c =
    filling-next c.loop-c.invariant
    (rw c.in-Is.is at
    c.letter_at.ensures)
    c.put_letter.ensures
    c.size-n.ensures

pub shape_of-out : goal.shape_of-out
shape_of-out c = filled-length c.loop-c.invariant.filled

pub returns : goal.returns
returns c = filling-over c.loop-c.invariant _ c.letter_at.ensures c.in_default.not-Is
