-- `pile_report::linking::first_loose` meets its contract: `find` answers the first record that is not linked.
use mathlib.Core.Bool.{Bool, true, false, not}
use mathlib.Core.Path.{◌≡◌, sym, subst, ap}
use Prim.Native.Nat.{ℕ, ◌≤◌, ◌<◌}
use native.Mathlib.Omega.{arith}
use borrow.Author.Rules.{rules}
use lib.Dec.{T}
use Rattle.std.specs.Prelude.{Option, Some, None, MatchOption}
use Rattle.std.proofs.lemmas.Iterator.{first_from_Range}
use Rattle.pile_report.specs.Promises.{FirstAt}
use Rattle.pile_report.specs.Report.{joined, loose}
use Rattle.pile_report.proofs.linking.first_loose.Goals as goal

is_linked : (b : Bool) → b ≡ true → T (not b) → ⊥
is_linked true e t = t
is_linked false e t = cc

found : (p : ℕ → Bool) (n : ℕ) (r : Option ℕ)
    → MatchOption r ((k : ℕ) → 0 ≤ k → k < n → p k ≡ true)
    (λ i. (0 ≤ i) × (i < n) × (p i ≡ false) × ((k : ℕ) → 0 ≤ k → k < i → p k ≡ true))
    → FirstAt (loose p) n r
found p n (Some i) (a, h, t, f) =
    record {
      inside = h;
      holds = subst T (ap not (sym t)) tt;
      earlier = λ k g. is_linked (p k) (f k (omega arith) g);
    }
found p n None f = λ k g. is_linked (p k) (f k (omega arith) g)

pub returns : goal.returns
returns c =
    let p = joined c.args.pile.now in
    found p c.args.n c.find.result
    (first_from_Range _ _ _ c.find.result (λ k. p k ≡ false) (λ k. p k ≡ true) c.find.ensures.ran
    (λ x q k. search rules) (λ x q k. search rules))
