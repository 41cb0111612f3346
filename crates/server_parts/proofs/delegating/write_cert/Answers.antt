-- `server_parts::delegating::write_cert` meets its contract. The three pieces follow each other from the front.
use mathlib.Core.Path.{◌≡◌, refl, sym}
use native.Mathlib.Omega.{arith}
use lib.ListN.{length}
use Rattle.laws.specs.Numbers.{le_bytes}
use Rattle.laws.proofs.Written.{puts_one, puts-put, puts-as}
use Rattle.wire_message.specs.Encode.{words}
use Rattle.wire_request.proofs.Answered.{writer-short, writer-done}
use Rattle.server_parts.proofs.Pieces.{cert-head, cert-is, length-dele, length-cert}
use Rattle.server_parts.specs.Delegation.{dele_bytes, cert_bytes}
use Rattle.refusal.specs.Refusal.{passed}
use borrow.Author.Rules.{rules}
use Rattle.server_parts.proofs.delegating.write_cert.Goals as goal

pub returns-then-out-lt152 : goal.returns-then-out-lt152
returns-then-out-lt152 c =
    let a = c.args in
    let k32 : length a.pubk ≡ 32 = omega (arith, c.well_formed) in
    let s64 : length a.signature ≡ 64 = omega (arith, c.well_formed) in
    let n = length-cert a.pubk a.mint a.maxt k32 a.signature s64 in
    let w =
    writer-short {x = passed} {why = passed} (cert_bytes a.pubk a.mint a.maxt a.signature) a.out.now refl refl
    c.refuse.ensures (omega arith) in
    record { value = w.0; out_after = w.1 }

pub returns : goal.returns
unfolding words le_bytes
returns c =
    let a = c.args in
    let k32 : length a.pubk ≡ 32 = omega (arith, c.well_formed) in
    let s64 : length a.signature ≡ 64 = omega (arith, c.well_formed) in
    let d = length-dele a.pubk a.mint a.maxt k32 in
    let w1 = puts_one cert-head 16 c.put_words.ensures refl (omega arith) in
    let w2 = puts-put a.signature 80 w1 c.put.ensures (omega arith) (omega arith) in
    let w3 = puts-put (dele_bytes a.pubk a.mint a.maxt) 152 w2 c.put_dele.ensures (omega arith) (omega arith) in
    let w =
    writer-done {x = passed} {why = passed} refl refl
    (puts-as (sym (cert-is a.pubk a.mint a.maxt k32 a.signature s64)) w3) in
    record { value = w.0; out_after = w.1 }
