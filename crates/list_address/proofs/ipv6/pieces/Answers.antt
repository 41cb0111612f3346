use Prim.Native.Nat.{◌≤◌}
use mathlib.Core.Path.{◌∙◌, ap, sym}
use native.Mathlib.Omega.{arith}
use borrow.Author.Rules.{rules}
use lib.ListN.{length}
use Rattle.list_address.specs.Parts.{plus}
use Rattle.list_address.specs.Host.{is_group}
use Rattle.list_address.specs.Facts.{parted}
use Rattle.list_address.proofs.Lines.{lined-few, pieces-wrong, pieces-last}
use Rattle.list_address.proofs.ipv6.pieces.Goals as goal

pub returns-in_err-n-clause-value : goal.returns-in_err-n-clause-value
returns-in_err-n-clause-value c =
    c.from_residual.ensures
    ∙ pieces-wrong (c.line.ensures is_group record { tells = λ x r e. search rules }) _ (ap parted c.in_err-n.was)

pub returns-in_err-m-clause-value : goal.returns-in_err-m-clause-value
unfolding plus
returns-in_err-m-clause-value c =
    c.from_residual-in_err-m.ensures
    ∙ ap (plus c.in_ok-n.n) (sym c.in_err-m.was ∙ c.last_pieces.ensures.value)
    ∙ pieces-last (c.line.ensures is_group record { tells = λ x r e. search rules }) _ (ap parted c.in_ok-n.was)

pub overflow_add-result : goal.overflow_add-result
overflow_add-result c =
    let few : c.in_ok-n.n ≤ length c.args.s.now
    = lined-few (c.line.ensures is_group record { tells = λ x r e. search rules }) (ap parted c.in_ok-n.was) in
    let last : c.in_ok-m.m ≤ 2 = c.in_ok-m.ensures.bound in
    record { fits = omega arith }

pub returns-clause-value : goal.returns-clause-value
unfolding plus
returns-clause-value c =
    ap (plus c.in_ok-n.n) (sym c.in_ok-m.was ∙ c.last_pieces.ensures.value)
    ∙ pieces-last (c.line.ensures is_group record { tells = λ x r e. search rules }) _ (ap parted c.in_ok-n.was)

pub returns-clause-bound : goal.returns-clause-bound
returns-clause-bound c =
    let few : c.in_ok-n.n ≤ length c.args.s.now
    = lined-few (c.line.ensures is_group record { tells = λ x r e. search rules }) (ap parted c.in_ok-n.was) in
    let last : c.in_ok-m.m ≤ 2 = c.in_ok-m.ensures.bound in
    omega arith
