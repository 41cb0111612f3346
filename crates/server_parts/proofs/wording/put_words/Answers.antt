-- `server_parts::wording::put_words` meets its contract. The loop has put the first i words.
use mathlib.Core.Path.{◌≡◌, refl}
use Prim.Native.Nat.{◌-◌, ◌≤◌}
use native.Mathlib.Omega.{arith}
use lib.ListN.{length}
use Rattle.laws.proofs.Written.{puts-length}
use Rattle.server_parts.proofs.Words.{Worded, worded-none, worded-more, worded-all}
use borrow.Author.Rules.{rules}
use Rattle.server_parts.proofs.wording.put_words.Goals as goal

pub loop-i-init : goal.loop-i-init
loop-i-init c =
    (refl, worded-none _ _ c.args.ws.now (omega arith))

pub loop-i-preserved : goal.loop-i-preserved
loop-i-preserved c =
    let l = c.loop-i in
    let w =
    worded-more _ _ _ l.invariant.1 (omega arith) (omega arith) c.le32_bytes.ensures refl c.put.ensures in
    (puts-length w, w)

pub returns : goal.returns
returns c = worded-all _ _ _ c.loop-i.invariant.1 (omega arith)
