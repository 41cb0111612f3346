-- `server_response::responding::put_front` meets its contract. The five pieces follow each other from the front.
use mathlib.Core.Path.{◌≡◌, refl, sym}
use mathlib.Core.List.{[], ◌∷◌}
use native.Mathlib.Omega.{arith}
use lib.ListN.{length}
use Rattle.laws.specs.Numbers.{le_bytes}
use Rattle.laws.proofs.Written.{puts_one, puts-put, puts-as}
use Rattle.wire_message.specs.Encode.{words}
use Rattle.wire_packet.specs.Packet.{mark}
use Rattle.server_response.proofs.Pieces.{front-words, front-is}
use borrow.Author.Rules.{rules}
use Rattle.server_response.proofs.responding.put_front.Goals as goal

pub returns : goal.returns
unfolding words le_bytes
returns c =
    let a = c.args in
    let s64 : length a.signature ≡ 64 = omega (arith, c.well_formed) in
    let n32 : length a.nonce ≡ 32 = omega (arith, c.well_formed) in
    let w1 = puts_one mark 8 c.put.ensures refl (omega arith) in
    let w2 = puts-put (front-words a.p a.c) 68 w1 c.put_words.ensures refl (omega arith) in
    let w3 = puts-put a.signature 132 w2 c.put-2.ensures (omega arith) (omega arith) in
    let w4 = puts-put a.nonce 164 w3 c.put-3.ensures (omega arith) (omega arith) in
    let w5 = puts-put (words (1 ∷ [])) 168 w4 c.put_words-2.ensures refl (omega arith) in
    (puts-as (sym (front-is a.signature a.nonce a.p a.c)) w5).is
