-- `clock_agreement::counting::count` meets its contract.
use Rattle.std.proofs.Common.{◌≡◌, rules, ◌∙◌}
use Rattle.std.proofs.iter.runs.Made.{chains}
use Rattle.std.specs.List.{count_by}
use Rattle.clock_agreement.specs.Count.{count_of}
use Rattle.clock_agreement.proofs.Lists.{many-along}
use Rattle.clock_agreement.proofs.counting.count.Goals as goal

pub returns : goal.returns
unfolding count_of
returns c =
    let e : c.count.result ≡ count_by (λ r. r.counted) c.args.spans = search (rules, chains) in
    e ∙ many-along (λ r. r.counted) c.args.spans 8 (search rules)
