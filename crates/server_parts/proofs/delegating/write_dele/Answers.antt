-- `server_parts::delegating::write_dele` meets its contract.
use mathlib.Core.Path.{refl}
use native.Mathlib.Omega.{arith}
use Rattle.laws.proofs.Written.{puts_one}
use Rattle.wire_request.proofs.Answered.{writer-short, writer-done}
use Rattle.server_parts.proofs.Pieces.{length-dele}
use Rattle.server_parts.specs.Delegation.{dele_bytes}
use Rattle.refusal.specs.Refusal.{passed}
use borrow.Author.Rules.{rules}
use Rattle.server_parts.proofs.delegating.write_dele.Goals as goal

pub returns-then-out-lt72 : goal.returns-then-out-lt72
returns-then-out-lt72 c =
    let n = length-dele c.args.pubk c.args.mint c.args.maxt (omega (arith, c.well_formed)) in
    let w =
    writer-short {x = passed} {why = passed} (dele_bytes c.args.pubk c.args.mint c.args.maxt) c.args.out.now refl refl
    c.refuse.ensures (omega arith) in
    record { value = w.0; out_after = w.1 }

pub returns : goal.returns
returns c =
    let n = length-dele c.args.pubk c.args.mint c.args.maxt (omega (arith, c.well_formed)) in
    let w =
    writer-done {x = passed} {why = passed} refl refl
    (puts_one (dele_bytes c.args.pubk c.args.mint c.args.maxt) 72 c.put_dele.ensures (omega arith) (omega arith)) in
    record { value = w.0; out_after = w.1 }
