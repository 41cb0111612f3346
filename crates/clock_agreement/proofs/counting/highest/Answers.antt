-- `clock_agreement::counting::highest` meets its contract.
use Rattle.std.proofs.Common.{◌≡◌, ◌-◌, map, min, rules}
use Rattle.std.proofs.iter.runs.Made.{chains}
use Rattle.std.specs.List.{filter, fold}
use Rattle.clock_spans.specs.Drift.{last}
use Rattle.clock_agreement.specs.Count.{enough}
use Rattle.clock_agreement.proofs.Edges.{down, highest-is}
use Rattle.clock_agreement.proofs.Lists.{best-along}
use Rattle.clock_agreement.proofs.counting.highest.Goals as goal

pub returns : goal.returns
returns c =
    let rs = c.args.spans in
    let n = c.args.n in
    let e : c.fold-down.result
    ≡ fold (λ a x. min a x) last (filter (down (enough rs n)) (map (λ r. last - r.high) rs)) =
    search (rules, chains) in
    highest-is rs n c.requires (best-along (down (enough rs n)) (λ r. last - r.high) rs 8 (search rules) e)
