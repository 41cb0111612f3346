-- `clock_agreement::counting::depth` meets its contract.
use Rattle.std.proofs.Common.{◌≡◌, rules, ◌∙◌}
use Rattle.std.proofs.iter.runs.Made.{chains}
use Rattle.std.specs.List.{count_by}
use Rattle.clock_agreement.specs.Count.{in_span, depth_of}
use Rattle.clock_agreement.proofs.Lists.{many-along}
use Rattle.clock_agreement.proofs.counting.depth.Goals as goal

pub returns : goal.returns
unfolding depth_of
returns c =
    let e : c.count.result ≡ count_by (in_span c.args.x) c.args.spans = search (rules, chains) in
    e ∙ many-along (in_span c.args.x) c.args.spans 8 (search rules)
