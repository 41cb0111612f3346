use mathlib.Core.Path.{◌≡◌, ◌∙◌}
use Rattle.std.specs.Prelude.{Err}
use Rattle.refusal.specs.declared.Refusal.{Refusal}
use native.Mathlib.Omega.{arith}
use lib.ListN.{length-take}
use borrow.Author.Rules.{rules}
use Rattle.list_read.proofs.Records.{read-code, read-few, read-asks, read_short, read_done}
use Rattle.list_read.proofs.reading.read_servers.Goals as goal

pub returns-in_err-y : goal.returns-in_err-y
returns-in_err-y c =
    let e : Refusal = c.in_err-y.field-0.0 in
    let handed : c.from_residual.result ≡ Err e = search rules in
    let r = read-code c.args.text.now c.args.out.now c.in_err-y.ensures in
    record { value = handed ∙ r.0; out_after = rw handed r.1 }

pub overflow_mul-n : goal.overflow_mul-n
overflow_mul-n c =
    let a = c.args in let h = read-few a.text.now a.out.now c.in_ok-y.ensures in search rules

pub returns-then-out-n : goal.returns-then-out-n
returns-then-out-n c =
    let r = read_short c.args.text.now c.args.out.now c.in_ok-y.ensures c.if-out-n.true in
    record { value = rw c.refuse.ensures r.0; out_after = rw c.refuse.ensures r.1 }

pub put_all-requires : goal.put_all-requires
put_all-requires c =
    (read-asks c.args.text.now c.args.out.now c.in_ok-y.ensures, simp length-take (omega (arith, c.if-out-n.false)))

pub returns : goal.returns
returns c =
    let r = read_done c.args.text.now c.args.out.now c.in_ok-y.ensures c.if-out-n.false c.put_all.ensures in
    record { value = r.0; out_after = r.1 }
