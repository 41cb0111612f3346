use mathlib.Core.Path.{sym, ◌∙◌}
use Rattle.base64_strict.proofs.Tables.{number-known}
use Rattle.base64_strict.proofs.Decodes.{group-no_first, group-no_second, group-two_pads, group-no_third, group-one_pad}
use Rattle.base64_strict.proofs.Decodes.{group-short_third, group-short_fourth, group-no_pad}
use Rattle.base64_strict.proofs.decoding.group_of.Goals as goal

pub returns-in_err-p : goal.returns-in_err-p
returns-in_err-p c = c.from_residual.ensures ∙ group-no_first c.args.a c.args.b c.args.c c.args.d (sym c.in_err-p.was ∙ c.sextet.ensures)

pub returns-in_err-q : goal.returns-in_err-q
returns-in_err-q c = c.from_residual-in_err-q.ensures ∙ group-no_second c.args.a c.args.b c.args.c c.args.d (sym c.in_ok-p.was ∙ c.sextet.ensures) (sym c.in_err-q.was ∙ c.sextet-2.ensures)

pub one-requires : goal.one-requires
one-requires c = ((number-known c.args.a (sym c.in_ok-p.was ∙ c.sextet.ensures)).1, (number-known c.args.b (sym c.in_ok-q.was ∙ c.sextet-2.ensures)).1)

pub returns-in_err-sextet : goal.returns-in_err-sextet
returns-in_err-sextet c = c.from_residual-in_err-sextet.ensures ∙ group-no_third c.args.a c.args.b c.args.c c.args.d (sym c.in_ok-p.was ∙ c.sextet.ensures) (sym c.in_ok-q.was ∙ c.sextet-2.ensures) c.if-d.true c.if-c.false (sym c.in_err-sextet.was ∙ c.sextet-else-c.ensures)

pub two-requires : goal.two-requires
two-requires c = ((number-known c.args.a (sym c.in_ok-p.was ∙ c.sextet.ensures)).1, ((number-known c.args.b (sym c.in_ok-q.was ∙ c.sextet-2.ensures)).1, (number-known c.args.c (sym c.in_ok-sextet.was ∙ c.sextet-else-c.ensures)).1))

pub returns-in_err-sextet-2 : goal.returns-in_err-sextet-2
returns-in_err-sextet-2 c = c.from_residual-in_err-sextet-2.ensures ∙ group-short_third c.args.a c.args.b c.args.c c.args.d (sym c.in_ok-p.was ∙ c.sextet.ensures) (sym c.in_ok-q.was ∙ c.sextet-2.ensures) c.if-d.false (sym c.in_err-sextet-2.was ∙ c.sextet-else-d.ensures)

pub returns-in_err-sextet-3 : goal.returns-in_err-sextet-3
returns-in_err-sextet-3 c = c.from_residual-in_err-sextet-3.ensures ∙ group-short_fourth c.args.a c.args.b c.args.c c.args.d (sym c.in_ok-p.was ∙ c.sextet.ensures) (sym c.in_ok-q.was ∙ c.sextet-2.ensures) c.if-d.false (sym c.in_ok-sextet-2.was ∙ c.sextet-else-d.ensures) (sym c.in_err-sextet-3.was ∙ c.sextet-else-d-2.ensures)

pub three-x-requires : goal.three-x-requires
three-x-requires c = ((number-known c.args.a (sym c.in_ok-p.was ∙ c.sextet.ensures)).1, ((number-known c.args.b (sym c.in_ok-q.was ∙ c.sextet-2.ensures)).1, ((number-known c.args.c (sym c.in_ok-sextet-2.was ∙ c.sextet-else-d.ensures)).1, (number-known c.args.d (sym c.in_ok-sextet-3.was ∙ c.sextet-else-d-2.ensures)).1)))

pub returns-then-c : goal.returns-then-c
returns-then-c c = c.one.ensures ∙ group-two_pads c.args.a c.args.b c.args.c c.args.d (sym c.in_ok-p.was ∙ c.sextet.ensures) (sym c.in_ok-q.was ∙ c.sextet-2.ensures) c.if-d.true c.if-c.true

pub returns-in_ok-sextet : goal.returns-in_ok-sextet
returns-in_ok-sextet c = c.two.ensures ∙ group-one_pad c.args.a c.args.b c.args.c c.args.d (sym c.in_ok-p.was ∙ c.sextet.ensures) (sym c.in_ok-q.was ∙ c.sextet-2.ensures) c.if-d.true c.if-c.false (sym c.in_ok-sextet.was ∙ c.sextet-else-c.ensures)

pub returns-in_ok-sextet-3 : goal.returns-in_ok-sextet-3
returns-in_ok-sextet-3 c = c.three-x.ensures ∙ group-no_pad c.args.a c.args.b c.args.c c.args.d (sym c.in_ok-p.was ∙ c.sextet.ensures) (sym c.in_ok-q.was ∙ c.sextet-2.ensures) c.if-d.false (sym c.in_ok-sextet-2.was ∙ c.sextet-else-d.ensures) (sym c.in_ok-sextet-3.was ∙ c.sextet-else-d-2.ensures)
