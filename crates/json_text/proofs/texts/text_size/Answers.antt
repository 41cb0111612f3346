use borrow.Author.Rules.{rules}
use native.Mathlib.Omega.{arith}
use mathlib.Core.Path.{refl, ◌∙◌}
use Rattle.json_text.specs.Facts.{Reads}
use Rattle.json_text.proofs.Sizes.{size-next, size-end, size-bad}
use Rattle.json_text.proofs.texts.text_size.Goals as goal

pub loop-c-init : goal.loop-c-init
loop-c-init c = (omega arith, refl)

pub overflow_add-n : goal.overflow_add-n
overflow_add-n c =
    let q : Reads c.args.s.now
    c.loop-c.k _ _ = rw c.in-Is.is at
    c.letter_at.ensures in
    search rules

pub loop-c-smaller : goal.loop-c-smaller
loop-c-smaller c =
    let q : Reads c.args.s.now
    c.loop-c.k _ _ = rw c.in-Is.is at
    c.letter_at.ensures in
    q.on

pub loop-c-preserved : goal.loop-c-preserved
loop-c-preserved c =
    let q : Reads c.args.s.now
    c.loop-c.k _ _ = rw c.in-Is.is at
    c.letter_at.ensures in (
      omega arith,
      size-next _ q c.size-n.ensures ∙ c.loop-c.invariant.1,
    )

pub returns-in-Stop : goal.returns-in-Stop
returns-in-Stop c =
    size-end _ _ (rw c.in-Stop.is at c.letter_at.ensures)
    ∙ c.loop-c.invariant.1

pub returns-in-Lone : goal.returns-in-Lone
returns-in-Lone c =
    size-bad c.loop-c.n _
    (rw c.in-Lone.is at c.letter_at.ensures) ∙ c.loop-c.invariant.1
