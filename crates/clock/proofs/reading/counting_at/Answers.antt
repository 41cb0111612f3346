-- `clock::reading::counting_at` meets its contract.
use Rattle.std.proofs.Common.{◌≡◌, cond, map, max, rules}
use Rattle.std.proofs.iter.runs.Made.{chains}
use Rattle.std.specs.List.{fold}
use Rattle.clock_spans.specs.Spans.{used_at}
use Rattle.clock.proofs.Places.{newest-along}
use Rattle.clock.proofs.reading.counting_at.Goals as goal

pub returns : goal.returns
returns c =
    let k = c.args.clock in
    let e : c.fold.result ≡ fold (λ n x. max n x) 0 (map (λ w. cond (used_at k.drift w c.args.t) w.received 0) k.kept) =
    search (rules, chains) in
    newest-along k c.args.t (search rules) e
