-- What code reads in an array of verdicts is what `verdict_in` says: the two differ past its end alone, where the
-- kit's definition of a read has a window of zeros.
use Rattle.check_response.specs.declared.Window.{Window}
use Rattle.refusal.specs.declared.Refusal.{Refusal}
use Rattle.refusal.specs.Refusal.{passed}
use Rattle.std.specs.Prelude.{Err, Result}
use Rattle.std.proofs.lemmas.List.{get_or_default}
use mathlib.Core.Path.{◌≡◌}
use mathlib.Core.List.{List}
use Prim.Native.Nat.{ℕ, ◌<◌}
use lib.ListN.{length, get_or}
use Rattle.pile_runs.specs.Convict.{verdict_in}

pub reads : (vs : List (Result Window Refusal)) (k : ℕ) (d : Result Window Refusal) → k < length vs
    → get_or vs k d ≡ verdict_in vs k
reads vs k d l = get_or_default vs k d (Err passed) l
