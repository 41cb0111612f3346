-- `clock::reading::is_too_early` meets its contract.
use Rattle.std.proofs.Common.{◌≡◌, ℕ, ◌<◌, Bool, true, false, refl, sym, rules}
use Rattle.std.proofs.iter.runs.Made.{chains}
use lib.Dec.{ltb}
use Rattle.laws.specs.Least.{somewhere}
use Rattle.laws.proofs.Least.{somewhere-here, nowhere}
use Rattle.clock.specs.State.{kept_in}
use Rattle.clock.specs.Used.{too_early}
use Rattle.clock.proofs.reading.is_too_early.Goals as goal

by : (p : ℕ → Bool) (b : Bool) → (b ≡ true → (k : ℕ) × (k < 16) × (p k ≡ true))
    → (b ≡ false → (k : ℕ) → k < 16 → p k ≡ false) → b ≡ somewhere p 16
by p true f g = let h = f refl in sym (somewhere-here p 16 h.0 h.1 h.2)
by p false f g = sym (nowhere p 16 (g refl))

pub returns : goal.returns
unfolding too_early
returns c =
    let late : ℕ → Bool = λ k. ltb c.args.t (kept_in c.args.clock k).received in
    let found : c.any.result ≡ true → (k : ℕ) × (k < 16) × (late k ≡ true) = search (rules, chains) in
    let none : c.any.result ≡ false → (k : ℕ) → k < 16 → late k ≡ false = search (rules, chains) in
    by late c.any.result found none
