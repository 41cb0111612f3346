-- `server_parts::signing::put_srep` meets its contract. The four pieces follow each other.
use mathlib.Core.Path.{◌≡◌, refl, sym, ap, ◌∙◌}
use native.Mathlib.Omega.{arith}
use lib.ListN.{length}
use Rattle.laws.specs.Numbers.{le_bytes}
use Rattle.laws.specs.Pasted.{pasted}
use Rattle.laws.proofs.Written.{puts_one, puts-put, puts-as}
use Rattle.wire_message.specs.Encode.{words}
use Prim.Native.Nat.{◌+◌}
use mathlib.Core.List.{[], ◌∷◌}
use Rattle.server_parts.proofs.Pieces.{srep-head, srep-is}
use borrow.Author.Rules.{rules}
use Rattle.server_parts.proofs.signing.put_srep.Goals as goal

pub returns : goal.returns
unfolding words le_bytes
returns c =
    let a = c.args in
    let r32 : length a.root ≡ 32 = omega (arith, c.well_formed) in
    let w1 = puts_one (srep-head a.radi) (a.at + 48) c.put_words.ensures refl (omega arith) in
    let time = c.put.ensures ∙ ap (pasted _ _) c.le64_bytes-time.ensures in
    let w2 = puts-put (le_bytes 8 a.midp) (a.at + 56) w1 time (omega arith) (omega arith) in
    let w3 = puts-put (words (1 ∷ [])) (a.at + 60) w2 c.put_words-2.ensures (omega arith) (omega arith) in
    let w4 = puts-put a.root (a.at + 92) w3 c.put-2.ensures (omega arith) (omega arith) in
    (puts-as (sym (srep-is a.root a.midp a.radi)) w4).is
