-- `walk::recording::lay` meets its contract. The five pieces follow each other, and fill the buffer.
use mathlib.Core.Path.{◌≡◌, ap, ◌∙◌}
use Prim.Native.Nat.{◌+◌, ◌-◌}
use native.Mathlib.Omega.{arith}
use lib.ListN.{length, replicate, length-replicate}
use Rattle.laws.specs.Pasted.{pasted}
use Rattle.laws.proofs.Pasted.{pasted-end}
use Rattle.laws.proofs.Written.{puts_one, puts-put, puts-as}
use Rattle.pile.specs.Layout.{REQUEST, RESPONSE, RECORD, AREA}
use Rattle.pile.specs.Recording.{head_bytes, record_bytes}
use Rattle.walk.specs.State.{ASKED}
use Rattle.pile.proofs.Recorded.{length-heading, length-record}
use Rattle.walk.proofs.RecordLaid.{laid}
use Rattle.walk.proofs.recording.lay.Goals as goal

pub returns : goal.returns
returns c =
    let key = c.args.key in
    let rand = c.args.rand in
    let q = c.args.q in
    let x = c.args.response.now in
    let o = c.args.out.now in
    let k32 : length key ≡ 32 = omega (arith, c.well_formed) in
    let r32 : length rand ≡ 32 = omega (arith, c.well_formed) in
    let q-long : length q ≡ ASKED = omega (arith, c.well_formed) in
    let h = head_bytes key rand ASKED (length x) in
    let h-long : length h ≡ REQUEST = length-heading key rand ASKED (length x) k32 r32 in
    let e : RECORD - (RESPONSE + length x) ≡ AREA - length x = omega arith in
    let headed = c.put.ensures ∙ ap (pasted o 0) c.heading-h.ensures in
    let w1 = puts_one h REQUEST headed (omega arith) (omega arith) in
    let w2 = puts-put q (REQUEST + ASKED) w1 c.put-2.ensures (omega arith) (omega arith) in
    let w3 = puts-put (replicate (RESPONSE - (REQUEST + ASKED)) 0) RESPONSE w2 c.zero.ensures (omega arith) (omega arith) in
    let w4 = puts-put x (RESPONSE + length x) w3 c.put-3.ensures (omega arith) (omega arith) in
    let w5 =
    puts-put (replicate (RECORD - (RESPONSE + length x)) 0) RECORD w4 c.zero-2.ensures (simp length-replicate (omega arith))
    (omega arith) in
    let w = puts-as (laid key rand q x (RECORD - (RESPONSE + length x)) q-long e) w5 in
    let l = length-record key rand q x k32 r32 (omega arith) c.requires.0 in
    w.is ∙ pasted-end o (record_bytes key rand q x) 0 (omega (arith, c.requires.1))
