-- `pile::piles::answer_bad` meets its contract.
use Rattle.std.proofs.Common.{◌≡◌, ℕ, ◌<◌, true, false, length, rules}
use Rattle.std.proofs.iter.runs.Made.{chains}
use Rattle.pile.specs.Pile.{above_one, answer_bad}
use Rattle.pile.proofs.Scans.{scanned}
use Rattle.pile.proofs.piles.answer_bad.Goals as goal

pub returns : goal.returns
unfolding answer_bad
returns c =
    let s = c.args.answers.now in
    let found : c.any.result ≡ true → (k : ℕ) × (k < length s) × (above_one s k ≡ true) = search (rules, chains) in
    let none : c.any.result ≡ false → (k : ℕ) → k < length s → above_one s k ≡ false = search (rules, chains) in
    scanned (above_one s) (length s) c.any.result found none
