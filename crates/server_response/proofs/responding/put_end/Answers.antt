-- `server_response::responding::put_end` meets its contract. INDX follows CERT.
use mathlib.Core.List.{[], ◌∷◌}
use mathlib.Core.Path.{refl}
use Prim.Native.Nat.{◌+◌}
use native.Mathlib.Omega.{arith}
use lib.ListN.{length}
use Rattle.laws.proofs.Pasted.{pasted-two}
use Rattle.wire_message.specs.Encode.{words}
use Rattle.server_response.proofs.responding.put_end.Goals as goal

pub returns : goal.returns
returns c =
    let a = c.args in
    let cert = a.cert.now in
    pasted-two _ cert (words (a.indx ∷ [])) a.at (a.at + length cert) c.put.ensures c.put_words.ensures refl
    (omega arith)
