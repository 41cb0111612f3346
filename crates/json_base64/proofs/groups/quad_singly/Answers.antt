use Rattle.json_base64.proofs.Quads.{fewer-one, fewer-two, fewer-three, grouped, grouped-none}
use Rattle.json_base64.proofs.groups.quad_singly.Goals as goal

pub returns-in_err-b : goal.returns-in_err-b
returns-in_err-b c =
    rw c.from_residual.ensures
    (fewer-one (rw c.in-Some.is at c.letter_at.ensures) (rw c.in_err-b.was at c.letter_at-2.ensures))

pub returns-in_err-c : goal.returns-in_err-c
returns-in_err-c c =
    rw c.from_residual-in_err-c.ensures
    (fewer-two
    (rw c.in-Some.is at c.letter_at.ensures) (rw c.in_ok-b.was at c.letter_at-2.ensures)
    (rw c.in_err-c.was at c.letter_at-3.ensures))

pub returns-in_err-d : goal.returns-in_err-d
returns-in_err-d c =
    rw c.from_residual-in_err-d.ensures
    (fewer-three
    (rw c.in-Some.is at c.letter_at.ensures) (rw c.in_ok-b.was at c.letter_at-2.ensures)
    (rw c.in_ok-c.was at c.letter_at-3.ensures) (rw c.in_err-d.was at c.letter_at-4.ensures))

pub returns-in_err-group_of : goal.returns-in_err-group_of
returns-in_err-group_of c =
    rw c.from_residual-in_err-group_of.ensures
    (grouped-none (rw c.in_err-group_of.was at
    (grouped
    (rw c.in-Some.is at c.letter_at.ensures) (rw c.in_ok-b.was at c.letter_at-2.ensures)
    (rw c.in_ok-c.was at c.letter_at-3.ensures) (rw c.in_ok-d.was at c.letter_at-4.ensures) c.group_of.ensures)))
