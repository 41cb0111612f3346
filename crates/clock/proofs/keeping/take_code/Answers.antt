-- `clock::keeping::take_code` meets its contract. Each return is the first refusal of the row.
use mathlib.Core.Path.{◌≡◌}
use Rattle.laws.proofs.First.{chain}
use Rattle.refusal.specs.Refusal.{passed}
use Rattle.clock.specs.State.{take_code}
use Rattle.clock.proofs.Takes.{refused-as, passed-as}
use Rattle.clock.proofs.keeping.take_code.Goals as goal

pub returns-then-server-gt7 : goal.returns-then-server-gt7
unfolding take_code
returns-then-server-gt7 c =
    let told : c.refuse.result ≡ take_code c.args.clock c.args.server c.args.w = search chain depth 9 in
    refused-as _ c.refuse.ensures tt told

pub returns-then-w : goal.returns-then-w
unfolding take_code
returns-then-w c =
    let told : c.refuse-then-w.result ≡ take_code c.args.clock c.args.server c.args.w = search chain depth 9 in
    refused-as _ c.refuse-then-w.ensures tt told

pub returns-then-w-clock : goal.returns-then-w-clock
unfolding take_code
returns-then-w-clock c =
    let told : c.refuse-then-w-clock.result ≡ take_code c.args.clock c.args.server c.args.w = search chain depth 9 in
    refused-as _ c.refuse-then-w-clock.ensures tt told

pub returns : goal.returns
unfolding take_code
returns c =
    let told : passed ≡ take_code c.args.clock c.args.server c.args.w = search chain depth 9 in passed-as _ told
