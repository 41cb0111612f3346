-- `walk::asking::ask_code` meets its contract. Each return is the first refusal of the row.
use mathlib.Core.Path.{◌≡◌}
use Rattle.laws.proofs.First.{chain}
use Rattle.refusal.specs.Refusal.{passed}
use Rattle.walk.specs.Asking.{ask_code}
use Rattle.walk.proofs.Passed.{refused-as, passed-as}
use Rattle.walk.proofs.asking.ask_code.Goals as goal

pub returns-then-over : goal.returns-then-over
unfolding ask_code
returns-then-over c =
    let told : c.refuse.result ≡ ask_code c.args.w c.args.room = search chain depth 9 in
    refused-as _ c.refuse.ensures tt told

pub returns-then-room-lt-ASKED : goal.returns-then-room-lt-ASKED
unfolding ask_code
returns-then-room-lt-ASKED c =
    let told : c.refuse-then-room-lt-ASKED.result ≡ ask_code c.args.w c.args.room = search chain depth 9 in
    refused-as _ c.refuse-then-room-lt-ASKED.ensures tt told

pub returns : goal.returns
unfolding ask_code
returns c =
    let told : passed ≡ ask_code c.args.w c.args.room = search chain depth 9 in passed-as _ told
