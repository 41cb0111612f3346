use borrow.Author.Rules.{rules}
use native.Mathlib.Omega.{arith}
use Prim.Native.Nat.{◌<◌}
use lib.ListN.{length}
use mathlib.Core.Path.{sym, ◌∙◌}
use Rattle.json_tokens.proofs.Picks.{picks}
use Rattle.json_tokens.proofs.Turns.{walked_more, walked_end, walked-wrong}
use Rattle.json_values.proofs.Ahead.{as-forth}
use Rattle.json_values.proofs.values.list.Goals as goal

pub returns-then-byte-close : goal.returns-then-byte-close
returns-then-byte-close g c = λ f h e. rw (sym c.blanks-first.ensures) (search (picks, rules))

pub loop-n-init : goal.loop-n-init
loop-n-init g c = λ f h e. rw (sym c.blanks-first.ensures) (search (picks, rules))

pub loop-n-smaller : goal.loop-n-smaller
loop-n-smaller g c =
    let p : (c.loop-n.k < c.in-More.n) × (c.loop-n.k < length c.args.s.now) =
    rw c.in-More.is at (c.requires.forth _ _ c.turn.ensures) in
    omega (arith, p.0, p.1)

pub loop-n-preserved : goal.loop-n-preserved
loop-n-preserved g c = λ f h e.
    walked_more _ f (λ k. as-forth _ k (f k) (h k)) _ (e _ _ c.turn.ensures) c.in-More.is ∙ c.loop-n.invariant f h e

pub returns-in-End : goal.returns-in-End
returns-in-End g c = λ f h e. walked_end _ f _ (e _ _ c.turn.ensures) c.in-End.is ∙ c.loop-n.invariant f h e

pub returns-in-Wrong : goal.returns-in-Wrong
returns-in-Wrong g c = λ f h e. walked-wrong _ f _ (e _ _ c.turn.ensures) c.in-Wrong.is ∙ c.loop-n.invariant f h e
