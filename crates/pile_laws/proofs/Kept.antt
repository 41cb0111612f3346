-- Records that are added at the end leave the first ones as they are: their bytes, answers, verdicts, links, and the
-- first rand.
use mathlib.Core.Path.{◌≡◌, sym, ap, ap₂, ◌∙◌}
use mathlib.Core.List.{List, ◌++◌}
use Prim.Native.Nat.{ℕ, zero, suc, ◌+◌, ◌-◌, ◌*◌, ◌≤◌, ◌<◌}
use native.Mathlib.Omega.{arith}
use borrow.Author.Tests.{ne_eqb, lt-leb}
use lib.ListN.{length, take, drop, length-append, length-drop, get_or-append}
use lib.Seq.{take-append-le, drop-append-le, get_or-append-add}
use Rattle.laws.specs.Zeros.{zeros}
use Rattle.laws.proofs.Any.{any-not, any_none}
use Rattle.laws.proofs.Split.{split}
use Rattle.pile.specs.Pile.{records_in, record_at, rand_in, said_yes}
use Rattle.pile.specs.Valid.{judged_at}
use Rattle.pile.specs.Links.{follows, unlinkable, linked_of, first_rand_zero}
use Rattle.pile.specs.Meaning.{WholePile}
use Rattle.pile.proofs.Exactly.{whole-exactly, judged-at}
use Rattle.pile_report.specs.Report.{judged, joined}
use Rattle.pile_report.proofs.Exactly.{joined-first}
use Rattle.pile_report.proofs.Runs.{joined-later}
use Rattle.pile_laws.specs.Grown.{OneMore, Adds}

-- of a whole pile: whether a record after the first is linked, and whether the first rand is zero
linked-at : (pile : List ℕ) (k : ℕ) → WholePile pile → 0 < k → k < records_in pile
    → linked_of pile k ≡ follows (record_at pile (k - 1)) (record_at pile k)
unfolding linked_of unlinkable
linked-at pile k whole after there =
    let n : k ≡ 0 → ⊥ = λ z. absurd (omega arith) in
    rw
    (any-not _ ((whole-exactly pile).1 whole)
    (any-not _ (ne_eqb k 0 n) (any-not _ (lt-leb (records_in pile) k there) any_none)))

rand-at : (pile : List ℕ) → WholePile pile → first_rand_zero pile ≡ zeros (rand_in (record_at pile 0))
unfolding first_rand_zero
rand-at pile whole = rw ((whole-exactly pile).1 whole)

module _ {pile answers more said : List ℕ} (adds : Adds pile answers more said) where
  long : length (pile ++ more) ≡ length pile + length more
  long = length-append pile more

  -- there are no fewer records,
  pub no-fewer : records_in pile ≤ records_in (pile ++ more)
  no-fewer = omega (arith, long)

  -- the first ones are the same,
  pub record-kept : (k : ℕ) → k < records_in pile → record_at (pile ++ more) k ≡ record_at pile k
  unfolding record_at
  record-kept k there =
      let e : length (drop (4096 * k) pile) ≡ length pile - 4096 * k = length-drop (4096 * k) pile in
      ap (take 4096) (drop-append-le (4096 * k) pile more (omega arith))
      ∙ take-append-le 4096 (drop (4096 * k) pile) more (omega arith)

  -- with the same answers,
  pub answer-kept : (i : ℕ) → i < length answers → said_yes (answers ++ said) i ≡ said_yes answers i
  unfolding said_yes
  answer-kept i there = rw (get_or-append answers said 0 i there)

  -- the same verdicts,
  pub verdict-kept : (k : ℕ) → k < records_in pile → judged (pile ++ more) (answers ++ said) k ≡ judged pile answers k
  verdict-kept k there =
      let same : judged_at (pile ++ more) (answers ++ said) k ≡ judged_at pile answers k =
      rw (
        record-kept k there,
        answer-kept (2 * k) (omega (arith, adds.good.two)),
        answer-kept (2 * k + 1) (omega (arith, adds.good.two)),
      ) in
      judged-at (pile ++ more) (answers ++ said) k adds.grown (omega (arith, no-fewer))
      ∙ same
      ∙ sym (judged-at pile answers k adds.good there)

  -- the same links,
  pub linked-kept : (k : ℕ) → 0 < k → k < records_in pile → linked_of (pile ++ more) k ≡ linked_of pile k
  linked-kept k after there =
      linked-at (pile ++ more) k adds.grown.pile-whole after (omega (arith, no-fewer))
      ∙ ap₂ follows (record-kept (k - 1) (omega arith)) (record-kept k there)
      ∙ sym (linked-at pile k adds.good.pile-whole after there)

  -- and the same first rand
  pub joined-kept : (k : ℕ) → k < records_in pile → joined (pile ++ more) k ≡ joined pile k
  joined-kept zero there =
      joined-first (pile ++ more)
      ∙ rand-at (pile ++ more) adds.grown.pile-whole
      ∙ ap (λ (r : List ℕ). zeros (rand_in r)) (record-kept 0 there)
      ∙ sym (rand-at pile adds.good.pile-whole)
      ∙ sym (joined-first pile)
  joined-kept (suc k) there =
      joined-later (pile ++ more) (suc k) (omega arith)
      ∙ linked-kept (suc k) (omega arith) there
      ∙ sym (joined-later pile (suc k) (omega arith))

-- a record that is added within 16 leaves the pile a good one, and is its last
module _ {pile answers r said : List ℕ} (one : OneMore pile answers r said) where
  pub count-more : records_in (pile ++ r) ≡ records_in pile + 1
  count-more = omega (arith, length-append pile r, one.long, one.good.pile-whole.exact)

  pub one-adds : Adds pile answers r said
  one-adds = record {
    good = one.good;
    grown = record {
      pile-whole = record {
        exact = omega (arith, length-append pile r, one.long, one.good.pile-whole.exact);
        from = omega (arith, count-more);
        to = omega (arith, count-more, one.room);
      };
      two = omega (arith, length-append answers said, one.two, one.good.two, count-more);
      one_at_most = λ i h. split (length answers) i
          (λ l.
          let e : i ≡ length answers + (i - length answers) = omega arith in
          rw (e, get_or-append-add answers said (i - length answers) 0)
          (one.one_at_most (i - length answers) (omega (arith, length-append answers said, one.two))))
          (λ l. rw (get_or-append answers said 0 i l) (one.good.one_at_most i l));
    };
  }
