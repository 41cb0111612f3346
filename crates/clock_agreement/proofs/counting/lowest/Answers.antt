-- `clock_agreement::counting::lowest` meets its contract.
use Rattle.std.proofs.Common.{◌≡◌, map, min, rules}
use Rattle.std.proofs.iter.runs.Made.{chains}
use Rattle.std.specs.List.{filter, fold}
use Rattle.clock_spans.specs.Drift.{last}
use Rattle.clock_agreement.specs.Count.{enough}
use Rattle.clock_agreement.proofs.Edges.{lowest-is}
use Rattle.clock_agreement.proofs.Lists.{best-along}
use Rattle.clock_agreement.proofs.counting.lowest.Goals as goal

pub returns : goal.returns
returns c =
    let rs = c.args.spans in
    let n = c.args.n in
    let e : c.fold.result ≡ fold (λ a x. min a x) last (filter (enough rs n) (map (λ r. r.low) rs)) =
    search (rules, chains) in
    lowest-is rs n c.requires (best-along (enough rs n) (λ r. r.low) rs 8 (search rules) e)
