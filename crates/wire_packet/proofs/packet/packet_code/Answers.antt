-- wire_packet/proofs/packet/packet_code/Answers.antt
-- `wire_packet::packet::packet_code` meets its contract. Each return is the first refusal of the row.
use mathlib.Core.Path.{refl}
use native.Mathlib.Omega.{arith}
use borrow.Author.Tests.{lt-ltb, le-ltb}
use lib.ListN.{length}
use Rattle.refusal.proofs.Passing.{passing, test-on, test-refuses}
use Rattle.wire_packet.specs.Packet.{packet_code}
use Rattle.wire_packet.proofs.packet.packet_code.Goals as goal

pub returns-then-p-lt12 : goal.returns-then-p-lt12
unfolding packet_code
returns-then-p-lt12 c = test-refuses _ _ c.refuse.ensures tt refl (lt-ltb (length c.args.p.now) 12 c.if-p-lt12.true)

pub returns-then-p-gt2000 : goal.returns-then-p-gt2000
unfolding packet_code
returns-then-p-gt2000 c =
    let n = length c.args.p.now in
    test-on _ _ refl (le-ltb n 12 c.if-p-lt12.false)
    (test-refuses _ _ c.refuse-then-p-gt2000.ensures tt refl (lt-ltb 2000 n (omega arith)))

pub returns-then-mark_wrong : goal.returns-then-mark_wrong
unfolding packet_code
returns-then-mark_wrong c =
    let n = length c.args.p.now in
    test-on _ _ refl (le-ltb n 12 c.if-p-lt12.false)
    (test-on _ _ refl (le-ltb 2000 n (omega arith)) (search passing depth 9))

pub returns-then-length_wrong : goal.returns-then-length_wrong
unfolding packet_code
returns-then-length_wrong c =
    let n = length c.args.p.now in
    test-on _ _ refl (le-ltb n 12 c.if-p-lt12.false)
    (test-on _ _ refl (le-ltb 2000 n (omega arith)) (search passing depth 9))

pub returns : goal.returns
unfolding packet_code
returns c =
    let n = length c.args.p.now in
    test-on _ _ refl (le-ltb n 12 c.if-p-lt12.false)
    (test-on _ _ refl (le-ltb 2000 n (omega arith)) (search passing depth 9))
