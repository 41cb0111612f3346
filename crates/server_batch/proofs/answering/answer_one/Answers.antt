-- `server_batch::answering::answer_one` meets its contract: where the packet is answered, and where it is not.
use mathlib.Core.Path.{refl, sym}
use Prim.Native.Nat.{◌+◌, ◌*◌, ◌-◌, ◌≤◌}
use native.Mathlib.Omega.{arith}
use lib.ListN.{length}
use Rattle.laws.proofs.Pasted.{length_part}
use Rattle.server_batch.specs.Steps.{answer_in}
use Rattle.server_batch.proofs.Answered.{part-front, one-put, one_left}
use Rattle.server_batch.proofs.Meant.{slot-inside, stay-good, stay-short}
use Rattle.server_batch.proofs.answering.answer_one.Goals as goal

pub write_answer-requires : goal.write_answer-requires
write_answer-requires c =
    let a = c.args in
    let pre = c.requires.1 in
    let begin = a.common.room * a.i in
    let got = rw c.in-Some.is at c.answered.ensures in
    let inside : begin + a.common.room ≤ length a.out.now =
    slot-inside _ _ _ _ _ pre.slots c.requires.0 (omega arith) in
    let short = stay-short _ _ _ _ a.chosen.held a.i a.chosen.least c.requires.0 (sym got.0) refl in
    let part = length_part a.out.now begin (begin + a.common.room) (omega arith) inside in
    rw got.1 (record {
      whole = pre.whole;
      good = stay-good _ _ _ _ a.chosen.held a.i a.chosen.least c.requires.0 (sym got.0) refl;
      read = record {
        deep = pre.deep;
        held = pre.held;
        inside = c.requires.2 got.0;
        enough = omega arith;
      };
      short = omega (arith, pre.longest, short);
      enough = omega (arith, pre.longest, pre.enough, part);
    })

pub overflow_add-result : goal.overflow_add-result
overflow_add-result c =
    let got = rw c.in-Some.is at c.answered.ensures in
    omega (arith, c.requires.2 got.0, c.requires.1.deep)

pub returns-in-Some : goal.returns-in-Some
returns-in-Some c =
    let a = c.args in
    let pre = c.requires.1 in
    let begin = a.common.room * a.i in
    let got = rw c.in-Some.is at c.answered.ensures in
    let inside : begin + a.common.room ≤ length a.out.now =
    slot-inside _ _ _ _ _ pre.slots c.requires.0 (omega arith) in
    let answer =
    answer_in c.in-Some.p.now a.k a.common.rows.now a.common.depth a.common.said a.common.cert.now in
    let written = c.write_answer.ensures in
    let size = written.1 in
    let put =
    part-front a.out.now answer begin (begin + a.common.room - begin) (omega (arith, inside))
    (omega (arith, size, pre.longest, pre.enough)) written.0 in
    rw got.1 at (one-put (sym got.0) answer begin a.out.now a.k refl
    (omega (arith, size, pre.longest, pre.enough, inside)) put)

pub returns-in-None : goal.returns-in-None
returns-in-None c =
    let got = rw c.in-None.is at c.answered.ensures in
    one_left (sym got) _ _ _ _ refl
