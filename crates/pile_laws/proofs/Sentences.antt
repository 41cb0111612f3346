-- The same in document 01's own words: where a pile is a report and a valid, linked record is added at its end, the
-- whole is a report. Validity has request P4's lines, since `ValidRecord` has.
use mathlib.Core.Path.{◌≡◌, sym, ap, subst, ◌∙◌}
use mathlib.Core.List.{List, ◌++◌}
use Prim.Native.Nat.{ℕ, ◌+◌, ◌-◌, ◌*◌, ◌≤◌, ◌<◌}
use native.Mathlib.Omega.{arith}
use lib.ListN.{length, take, drop, length-append}
use lib.Seq.{take_all, drop-append_seam}
use Rattle.laws.proofs.Split.{split}
use Rattle.pile.specs.Pile.{records_in, record_at}
use Rattle.pile.specs.Valid.{window_at}
use Rattle.pile.specs.Meaning.{ValidRecord, IsLinked}
use Rattle.pile_report.specs.Meaning.{IsReport}
use Rattle.pile_report.proofs.Behind.{valid-alike}
use Rattle.pile_laws.specs.Grown.{Adds}
use Rattle.pile_laws.proofs.Kept.{no-fewer, record-kept, answer-kept}

module _
    (pile answers r said : List ℕ) (d : IsReport pile answers) (long : length r ≡ 4096)
    (valid : ValidRecord (pile ++ r) (answers ++ said) (records_in pile)) where
  adds : Adds pile answers r said
  adds = record { good = (d.all_valid d.j d.inside).pile-good; grown = valid.pile-good }

  count : records_in (pile ++ r) ≡ records_in pile + 1
  count = omega (arith, length-append pile r, adds.good.pile-whole.exact)

  -- the record that was added is the last
  last : record_at (pile ++ r) (records_in pile) ≡ r
  unfolding record_at
  last =
      let e : 4096 * records_in pile ≡ length pile = omega (arith, adds.good.pile-whole.exact) in
      ap (take 4096) (ap (λ (n : ℕ). drop n (pile ++ r)) e ∙ drop-append_seam pile r)
      ∙ take_all 4096 r (omega arith)

  valid-still : (k : ℕ) → k < records_in pile → ValidRecord (pile ++ r) (answers ++ said) k
  valid-still k there =
      let v = d.all_valid k there in
      valid-alike (record { behind = ap (drop 64) (sym (record-kept adds k there)) })
      (sym (answer-kept adds (2 * k) (omega (arith, adds.good.two))))
      (sym (answer-kept adds (2 * k + 1) (omega (arith, adds.good.two))))
      adds.grown (omega (arith, no-fewer adds)) v

  window-still : (k : ℕ) → k < records_in pile → window_at (pile ++ r) k ≡ window_at pile k
  window-still k there = rw (record-kept adds k there)

  -- a record k that is not below n is the last
  is_last : (k : ℕ) → records_in pile ≤ k → k < records_in (pile ++ r) → records_in pile ≡ k
  is_last k l u = omega (arith, count)

  pub still-report : IsLinked (record_at pile (records_in pile - 1)) r → IsReport (pile ++ r) (answers ++ said)
  still-report linked =
      let from = adds.good.pile-whole.from in
      record {
        all_valid = λ k u. split (records_in pile) k
            (λ l. subst (ValidRecord (pile ++ r) (answers ++ said)) (is_last k l u) valid)
            (valid-still k);
        all-linked = λ k z u. split (records_in pile) k
            (λ l.
            subst (λ (m : ℕ). IsLinked (record_at (pile ++ r) (m - 1)) (record_at (pile ++ r) m)) (is_last k l u)
            (rw (record-kept adds (records_in pile - 1) (omega arith), last) linked))
            (λ l. rw (record-kept adds (k - 1) (omega arith), record-kept adds k l) (d.all-linked k z l));
        rand = record {
          pile-whole = adds.grown.pile-whole;
          rand = λ i l u. rw (record-kept adds 0 (omega arith)) (d.rand.rand i l u);
        };
        i = d.i;
        j = d.j;
        order = d.order;
        inside = omega (arith, d.inside, count);
        contradict =
            rw (window-still d.i (omega (arith, d.order, d.inside)), window-still d.j d.inside)
            d.contradict;
      }
