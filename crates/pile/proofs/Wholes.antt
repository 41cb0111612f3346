-- What is known of a pile whose tests passed: how long it is, and how many answers it has.
use Prim.Native.Nat.{ℕ, ◌+◌, ◌*◌, ◌≤◌, ◌<◌}
use mathlib.Core.Path.{◌≡◌, sym, ◌∙◌}
use mathlib.Core.List.{List}
use mathlib.Core.Bool.{Bool, false}
use native.Mathlib.Omega.{arith}
use borrow.Author.Tests.{eqb-true, eqb-false, ltb-false, leb-false, not-false}
use lib.ListN.{length}
use Rattle.laws.proofs.Any.{any-parts}
use Rattle.pile.specs.Pile.{records_in, length_bad, pile_bad}
use Rattle.pile.specs.Valid.{nothing_at}
use Rattle.pile.specs.Links.{unlinkable}
use Rattle.pile.specs.Meaning.{WholePile}

-- a pile whose length is not bad is 1 to 16 whole records
pub whole : (pile : List ℕ) → length_bad pile ≡ false → WholePile pile
unfolding length_bad
whole pile e =
    let a = any-parts _ _ e in
    let b = any-parts _ _ a.1 in
    record {
      exact = eqb-true _ _ (not-false _ a.0);
      from = ltb-false _ _ b.0;
      to = ltb-false _ _ (any-parts _ _ b.1).0;
    }

-- the first record is there
pub first-there : (pile : List ℕ) {t : Bool} → t ≡ length_bad pile → t ≡ false → 4096 * 0 + 4096 ≤ length pile
first-there pile e f = let w = whole pile (sym e ∙ f) in omega (arith, w.exact, w.from)

-- record k is there, with its two answers
pub judged-there : (pile answers : List ℕ) (k : ℕ) {t : Bool} → t ≡ nothing_at pile answers k → t ≡ false
    → (4096 * k + 4096 ≤ length pile) × (2 * k + 2 ≤ length answers)
unfolding nothing_at pile_bad
judged-there pile answers k e f =
    let a = any-parts _ _ (sym e ∙ f) in
    let b = any-parts _ _ a.0 in
    let w = whole pile b.0 in
    let n : length answers ≡ 2 * records_in pile = eqb-true _ _ (not-false _ (any-parts _ _ b.1).0) in
    let h : k < records_in pile = leb-false _ _ (any-parts _ _ a.1).0 in
    (omega (arith, w.exact), omega arith)

-- record k is there, and so is the one before it
pub linked-there : (pile : List ℕ) (k : ℕ) {t : Bool} → t ≡ unlinkable pile k → t ≡ false
    → (1 ≤ k) × (4096 * k + 4096 ≤ length pile)
unfolding unlinkable
linked-there pile k e f =
    let a = any-parts _ _ (sym e ∙ f) in
    let b = any-parts _ _ a.1 in
    let w = whole pile a.0 in
    let h : k < records_in pile = leb-false _ _ (any-parts _ _ b.1).0 in
    let z : k ≡ 0 → ⊥ = eqb-false _ _ b.0 in
    (omega arith, omega (arith, w.exact))
