-- `wire_request::request::write_request` meets its contract. The five pieces follow each other from the front.
use mathlib.Core.Path.{◌≡◌, refl, sym, ap, ◌∙◌}
use native.Mathlib.Omega.{arith}
use lib.ListN.{length, replicate}
use Rattle.hash.specs.Hashes.{srv_of}
use Rattle.hash.proofs.Lengths.{length-srv}
use Rattle.laws.specs.Numbers.{le_bytes}
use Rattle.laws.specs.Pasted.{pasted}
use Rattle.laws.proofs.Written.{puts_none, puts-put, puts-as}
use Rattle.wire_message.specs.Encode.{words}
use Rattle.wire_packet.specs.Packet.{mark}
use Rattle.wire_request.proofs.Answered.{writer-short, writer-done}
use Rattle.wire_request.proofs.RequestPieces.{head, request-is, length-request}
use Rattle.refusal.specs.Refusal.{passed}
use Rattle.wire_request.specs.Request.{request_bytes}
use Rattle.wire_request.proofs.request.write_request.Goals as goal

pub returns-then-out-lt1036 : goal.returns-then-out-lt1036
returns-then-out-lt1036 c =
    let n32 : length c.args.nonce ≡ 32 = omega (arith, c.well_formed) in
    let n = length-request c.args.key c.args.nonce n32 in
    let w =
    writer-short {x = passed} {why = passed} (request_bytes c.args.key c.args.nonce) c.args.out.now refl refl c.refuse.ensures
    (omega arith) in
    record { value = w.0; out_after = w.1 }

pub returns : goal.returns
unfolding words le_bytes
returns c =
    let key = c.args.key in
    let nonce = c.args.nonce in
    let n32 : length nonce ≡ 32 = omega (arith, c.well_formed) in
    let w0 = puts_none c.args.out.now 0 (omega arith) in
    let w1 = puts-put mark 8 w0 c.put.ensures refl (omega arith) in
    let w2 = puts-put head 56 w1 c.put-2.ensures refl (omega arith) in
    let srv-put = c.put-3.ensures ∙ ap (pasted _ _) c.srv_value-srv.ensures in
    let w3 = puts-put (srv_of key) 88 w2 srv-put (simp (length-srv key)) (omega arith) in
    let w4 = puts-put nonce 120 w3 c.put-4.ensures (simp n32) (omega arith) in
    let w5 = puts-put (replicate 916 0) 1036 w4 c.zero.ensures refl (omega arith) in
    let w = writer-done {x = passed} {why = passed} refl refl (puts-as (sym (request-is key nonce n32)) w5) in
    record { value = w.0; out_after = w.1 }
