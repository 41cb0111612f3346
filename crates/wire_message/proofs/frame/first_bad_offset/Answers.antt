-- `wire_message::frame::first_bad_offset` meets its contract. The scan has found no bad offset below i, and `last` is
-- the one before offset[i].
use native.Mathlib.Omega.{arith}
use Prim.Native.Nat.{◌+◌, ◌-◌, ◌%◌}
use mathlib.Core.Path.{◌≡◌, ap, ◌∙◌}
use borrow.Author.Tests.{lt-ltb, le-ltb, eq-eqb, ne_eqb}
use mathlib.Core.Bool.{true, not}
use Rattle.laws.proofs.Any.{any_here, any-later, any-not, any_none}
use Rattle.laws.proofs.Least.{least_zero, least_more, least-found, least-end}
use Rattle.wire_message.proofs.Edges.{offset-first, offset_word}
use Rattle.wire_message.proofs.Tests.{first-right}
use Rattle.wire_message.specs.Frame.{offset, offset_bad, section}
use Rattle.wire_message.proofs.frame.first_bad_offset.Goals as goal
use Rattle.wire_message.proofs.frame.first_bad_offset.Goals.{then-o-ne0-via-then-o-ne0, then-o-ne0-via-else-o-ne0+then-o-last}
use Rattle.wire_message.proofs.frame.first_bad_offset.Goals.{then-o-ne0-via-else-o-ne0+else-o-last+then-section-o}

pub loop-i-init : goal.loop-i-init
loop-i-init c = (
  rw (offset-first _),
  least_more _ 0 (least_zero _) (first-right _),
)

pub returns-then-o-ne0 : goal.returns-then-o-ne0
returns-then-o-ne0 c =
    let m = c.args.m.now in
    let l = c.loop-i in
    let o = offset_word m l.i (omega arith) in
    let bad : offset_bad m l.i ≡ true = elim c.then-o-ne0.branch [
      | then-o-ne0-via-then-o-ne0 w ↦ any_here _ (ap not (ne_eqb (offset m l.i % 4) 0 (omega (arith, o))))
      | then-o-ne0-via-else-o-ne0+then-o-last w ↦
          any-later _ _ (any_here _ (lt-ltb (offset m l.i) (offset m (l.i - 1)) (omega (arith, o))))
      | then-o-ne0-via-else-o-ne0+else-o-last+then-section-o w ↦
          any-later _ _ (any-later _ _ (any_here _ (lt-ltb (section m) (offset m l.i) (omega (arith, o)))))
    ] in
    least-found _ l.i _ l.invariant.1 bad (omega arith)

pub loop-i-preserved : goal.loop-i-preserved
loop-i-preserved c =
    let m = c.args.m.now in
    let l = c.loop-i in
    let o = offset_word m l.i (omega arith) in
    let before : l.i + 1 - 1 ≡ l.i = omega arith in (
      rw before (omega (arith, o)),
      least_more _ l.i l.invariant.1
          (any-not _ (ap not (eq-eqb (offset m l.i % 4) 0 (omega (arith, o))))
          (any-not _ (le-ltb (offset m l.i) (offset m (l.i - 1)) (omega (arith, o)))
          (any-not _ (le-ltb (section m) (offset m l.i) (omega (arith, o))) any_none))),
    )

pub returns : goal.returns
returns c =
    let all : c.args.n ≡ c.loop-i.i = omega arith in
    all ∙ least-end _ c.loop-i.i _ c.loop-i.invariant.1 (omega arith) (omega arith)
