use native.Mathlib.Omega.{arith}
use mathlib.Core.Path.{sym, ◌∙◌}
use Rattle.list_address.proofs.Digits.{worth-more, worth-end, small, small-more}
use Rattle.list_address.proofs.decimal.value.Goals as goal

pub next-n-requires : goal.next-n-requires
next-n-requires c =
    let l = c.loop-d in small l.d-index l.n (omega arith) l.invariant.1

pub loop-d-preserved : goal.loop-d-preserved
loop-d-preserved c =
    let l = c.loop-d in
    let e = c.next-n.ensures in (
      rw e.0 (worth-more _ l.d-index l.n (omega arith) ∙ l.invariant.0),
      small-more l.d-index l.n _ e.1 l.invariant.1,
    )

pub returns : goal.returns
returns c =
    let l = c.loop-d in sym (worth-end _ l.d-index l.n c.loop-d-test.false) ∙ l.invariant.0
