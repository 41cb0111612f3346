-- `server_batch::answering::answer_each` meets its contract. The loop keeps: what is promised, of the first `i`
-- packets,
-- of which `k` are answered.
use mathlib.Core.List.{List}
use mathlib.Core.Path.{◌≡◌, refl, ap, ◌∙◌}
use Prim.Native.Nat.{ℕ}
use native.Mathlib.Omega.{arith}
use lib.ListN.{length}
use Rattle.server_batch.specs.Answering.{out_after}
use Rattle.server_batch.specs.Batch.{packet_in}
use Rattle.server_batch.specs.Picking.{how_many}
use Rattle.server_batch.specs.Steps.{stay_at, answer_in}
use Rattle.server_batch.proofs.Answered.{out-next}
use Rattle.server_batch.proofs.Picked.{more-mark, many_below}
use Rattle.server_batch.proofs.answering.answer_each.Goals as goal

pub loop-i-init : goal.loop-i-init
unfolding how_many out_after
loop-i-init c = (refl, refl, refl)

pub answer_one-k-requires : goal.answer_one-k-requires
answer_one-k-requires c =
    let q = c.args.chosen in
    let test = stay_at q.marks.now q.packets.lengths.now q.least in
    let all = c.requires.1 in (
      omega arith,
      rw c.loop-i.invariant.1 c.requires.0,
      λ holds. omega (arith, c.loop-i.invariant.0, many_below test c.loop-i.i holds _ c.loop-i-test.true, all),
    )

pub loop-i-preserved : goal.loop-i-preserved
loop-i-preserved c =
    let a = c.args in
    let i = c.loop-i.i in
    let q = a.chosen in
    let f = a.common in
    let test = stay_at q.marks.now q.packets.lengths.now q.least in
    let one = c.answer_one-k.ensures in
    let at : ℕ → ℕ → List ℕ =
    λ k j. answer_in (packet_in q.packets.slots.now q.packets.slot q.packets.lengths.now j) k f.rows.now f.depth f.said
    f.cert.now in (
      one.next ∙ more-mark test i c.loop-i.invariant.0 refl,
      one.long ∙ c.loop-i.invariant.1,
      out-next test at f.room a.out.now i c.loop-i.invariant.2 c.loop-i.invariant.0 one,
    )

pub returns : goal.returns
returns c =
    let a = c.args in
    let all : c.loop-i.i ≡ length a.chosen.packets.lengths.now = omega arith in
    c.loop-i.invariant.2 ∙ ap (out_after _ _ _ _) all

pub shape_of-out : goal.shape_of-out
shape_of-out c = c.loop-i.invariant.1
