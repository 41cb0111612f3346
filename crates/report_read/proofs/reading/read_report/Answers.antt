use borrow.Author.Rules.{rules}
use Rattle.report_read.proofs.Piles.{read_none, read-few, read-many, read-big, read_short, read_done, told-small}
use Rattle.report_read.proofs.reading.read_report.Goals as goal

pub returns-in_default : goal.returns-in_default
returns-in_default c =
    let a = c.args in
    let r = read_none a.text.now a.out.now
    (rw c.in_default.is at c.report.ensures) in
    record { value = rw c.refuse.ensures r.0; out_after = rw c.refuse.ensures r.1 }

pub returns-then-n-eq0 : goal.returns-then-n-eq0
returns-then-n-eq0 c =
    let r = read-few c.args.out.now
    (rw c.in-Some.is at c.report.ensures) c.if-n-eq0.true in
    record { value = rw c.refuse-then-n-eq0.ensures r.0; out_after = rw c.refuse-then-n-eq0.ensures r.1 }

pub returns-then-n-gt16 : goal.returns-then-n-gt16
returns-then-n-gt16 c =
    let r = read-many c.args.out.now
    (rw c.in-Some.is at c.report.ensures) c.if-n-eq0.false
    c.if-n-gt16.true in
    record { value = rw c.refuse-then-n-gt16.ensures r.0; out_after = rw c.refuse-then-n-gt16.ensures r.1 }

pub returns-then-r : goal.returns-then-r
returns-then-r c =
    let r = read-big c.args.out.now
    (rw c.in-Some.is at c.report.ensures) c.if-n-eq0.false
    c.if-n-gt16.false c.if-r.true in
    record { value = rw c.refuse-then-r.ensures r.0; out_after = rw c.refuse-then-r.ensures r.1 }

pub returns-then-out-n : goal.returns-then-out-n
returns-then-out-n c =
    let r = read_short c.args.out.now
    (rw c.in-Some.is at c.report.ensures) c.if-n-eq0.false
    c.if-n-gt16.false c.if-r.false c.if-out-n.true in
    record { value = rw c.refuse-then-out-n.ensures r.0; out_after = rw c.refuse-then-out-n.ensures r.1 }

pub put_all-requires : goal.put_all-requires
put_all-requires c = (
  told-small (rw c.in-Some.is at c.report.ensures) c.if-r.false,
  (c.if-n-gt16.false, c.if-out-n.false),
)

pub returns : goal.returns
returns c =
    let r = read_done c.args.out.now
    (rw c.in-Some.is at c.report.ensures) c.if-n-eq0.false
    c.if-n-gt16.false c.if-r.false c.if-out-n.false c.put_all.ensures in
    record { value = r.0; out_after = r.1 }
