-- `sha512::digesting::digest` meets its contract. The loop keeps: the bytes so far are the digest of the words so far.
use Rattle.std.proofs.Common.{◌≡◌, length, sym, refl, ap, ◌∙◌, arith, take_all, rules}
use Rattle.sha512.specs.Computation.{digest}
use Rattle.sha512.proofs.Digested.{digest-turn}
use Rattle.sha512.proofs.digesting.digest.Goals as goal

pub loop-i-init : goal.loop-i-init
unfolding digest
loop-i-init c = (refl, refl)

pub loop-i-preserved : goal.loop-i-preserved
loop-i-preserved c =
    let l = c.loop-i in
    let more = digest-turn c.args.h l.d c.put.new.dst c.be64_bytes.result l.i (omega (arith, c.loop-i-test.true))
    (search rules) l.invariant.0 l.invariant.1 c.be64_bytes.ensures c.put.ensures in
    (search rules, more)

pub returns : goal.returns
returns c =
    let h = c.args.h in
    let all : c.loop-i.i ≡ 8 = omega arith in
    let long : length h ≡ 8 = search rules in
    sym (take_all 64 c.loop-i.d (omega arith)) ∙ (rw all at c.loop-i.invariant.1) ∙ ap digest (take_all 8 h (omega arith))
