-- `server_parts::delegating::put_dele` meets its contract. The four pieces follow each other.
use mathlib.Core.Path.{◌≡◌, refl, sym, ap, ◌∙◌}
use native.Mathlib.Omega.{arith}
use lib.ListN.{length}
use Prim.Native.Nat.{◌+◌}
use Rattle.laws.specs.Numbers.{le_bytes}
use Rattle.laws.specs.Pasted.{pasted}
use Rattle.laws.proofs.Written.{puts_one, puts-put, puts-as}
use Rattle.wire_message.specs.Encode.{words}
use Rattle.server_parts.proofs.Pieces.{dele-head, dele-pieces}
use borrow.Author.Rules.{rules}
use Rattle.server_parts.proofs.delegating.put_dele.Goals as goal

pub returns : goal.returns
unfolding words le_bytes
returns c =
    let a = c.args in
    let k32 : length a.pubk ≡ 32 = omega (arith, c.well_formed) in
    let w1 = puts_one dele-head (a.at + 24) c.put_words.ensures refl (omega arith) in
    let w2 = puts-put a.pubk (a.at + 56) w1 c.put.ensures (omega arith) (omega arith) in
    let from = c.put-2.ensures ∙ ap (pasted _ _) c.le64_bytes-from.ensures in
    let w3 = puts-put (le_bytes 8 a.mint) (a.at + 64) w2 from (omega arith) (omega arith) in
    let to = c.put-3.ensures ∙ ap (pasted _ _) c.le64_bytes-to.ensures in
    let w4 = puts-put (le_bytes 8 a.maxt) (a.at + 72) w3 to (omega arith) (omega arith) in
    (puts-as (sym (dele-pieces a.pubk a.mint a.maxt k32)) w4).is
