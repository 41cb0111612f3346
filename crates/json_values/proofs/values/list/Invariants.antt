use Rattle.std.proofs.Common.{◌≡◌, ◌-◌, length, ℕ}
use Rattle.json_tokens.specs.declared.Step.{Step}
use Rattle.json_tokens.specs.Walk.{walked}
use Rattle.json_values.specs.Facts.{Goes, list_of}
use Rattle.json_values.proofs.values.list.Given as goal

abbrev pub invariant-loop-n : goal.invariant-loop-n
invariant-loop-n g l =
    (f : ℕ → Step) → ((k : ℕ) → Goes l.s k (f k)) → ((k : ℕ) (t : Step) → goal.F-post g l.turn k t → t ≡ f k)
    → walked (length l.s) f l.k ≡ list_of l.s l.close f l.at

abbrev pub decreases-loop-n : goal.decreases-loop-n
decreases-loop-n g l = length l.s - l.k
