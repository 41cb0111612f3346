use borrow.Author.Rules.{rules}
use Prim.Native.Nat.{ℕ, ◌+◌, ◌-◌}
use mathlib.Core.Path.{◌≡◌, ◌∙◌, ap}
use native.Mathlib.Omega.{arith}
use lib.ListN.{replicate}
use Rattle.laws.specs.Pasted.{pasted}
use Rattle.report_read.proofs.Areas.{rand-first, rand-later, good-rand, short-rand, of-rand}
use Rattle.report_read.proofs.records.put_rand.Goals as goal

pub put_part-requires : goal.put_part-requires
put_part-requires c =
    let r = c.requires.0 in
    let f = c.if-first.false in
    (good-rand r f, (short-rand r f, search rules))

pub returns-then-first : goal.returns-then-first
returns-then-first c =
    let a = c.args in
    let n : a.at + 32 - a.at ≡ 32 = omega arith in
    rand-first a.out.now a.at a.s.now a.first a.e.at c.if-first.true
    (c.zero.ensures ∙ ap (λ (n : ℕ). pasted a.out.now a.at (replicate n 0)) n)

pub returns-else-first : goal.returns-else-first
returns-else-first c =
    let a = c.args in
    let f = c.if-first.false in
    rand-later a.out.now a.at a.s.now a.first a.e.at f
    (c.put_part.ensures ∙ ap (pasted a.out.now a.at) (of-rand c.requires.0 32 f))
