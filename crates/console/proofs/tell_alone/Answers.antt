-- `console::tell_alone` is safe and ends: the answers lie within their buffer.
use mathlib.Core.Path.{sym}
use native.Mathlib.Omega.{arith}
use lib.Seq.{length-take-le}
use borrow.Author.Rules.{rules}
use Rattle.console.proofs.tell_alone.Goals as goal

pub slice_bounds-tell-end-2 : goal.slice_bounds-tell-end-2
slice_bounds-tell-end-2 g c =
    let put = c.put_answers-m in
    sym (length-take-le _ _ (omega (arith, put.ensures.upper_bound.0)))
