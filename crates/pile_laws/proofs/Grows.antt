-- More evidence never acquits: a report to which valid, linked records are added is accepted still, and names a pair
-- that is no further apart; and where some run of a pile convicts, the cutter's run in the pile with any records added,
-- damaged or not, is no longer, and its answer never that there is none.
use Rattle.check_response.specs.declared.Window.{Window}
use Rattle.refusal.specs.declared.Refusal.{Refusal}
use Rattle.std.specs.Prelude.{Err, Ok, Result}
use mathlib.Core.Path.{◌≡◌, refl, sym, subst}
use mathlib.Core.Bool.{Bool, not}
use mathlib.Core.List.{List, ◌++◌}
use Prim.Native.Nat.{ℕ, ◌≤◌}
use native.Mathlib.Omega.{arith}
use lib.Dec.{T}
use mir.Facts.{T_not}
use Rattle.laws.specs.Least.{Never}
use Rattle.laws.proofs.Split.{split}
use Rattle.pile.specs.Pile.{records_in}
use Rattle.pile.specs.Links.{linked_of}
use Rattle.pile_runs.specs.Clash.{valid}
use Rattle.pile_runs.specs.Convict.{Convicts, Contradiction}
use Rattle.pile_runs.proofs.SamePile.{alike_same, still}
use Rattle.pile_report.specs.Report.{judged, joined, refused, loose, Reports}
use Rattle.pile_report.specs.Report.{of-record, code-17, code-18, code-15, of-records}
use Rattle.pile_report.specs.Taking.{ConvictsIn, Takes}
use Rattle.pile_report.specs.Taking as cut
use Rattle.pile_report.proofs.Runs.{joined-later}
use Rattle.pile_laws.specs.Grown.{OneMore, Adds, Joins, NoFurther, NoLonger}
use Rattle.pile_laws.proofs.Kept.{no-fewer, verdict-kept, linked-kept, joined-kept, count-more, one-adds}

-- a run that convicts among n records convicts among more
wider : {v : ℕ → Result Window Refusal} {l : ℕ → Bool} {n m a b : ℕ} → n ≤ m → Convicts v l n a b → Convicts v l m a b
wider u c = record {
  inside = omega (arith, c.inside);
  clean = c.clean;
  i = c.i;
  j = c.j;
  from = c.from;
  order = c.order;
  to = c.to;
  clash = c.clash;
}

module _ {pile answers more said : List ℕ} (adds : Adds pile answers more said) where
  -- ---- the cutter

  -- a run that convicts convicts still,
  pub convicts-still : (i j : ℕ) → ConvictsIn pile answers i j → ConvictsIn (pile ++ more) (answers ++ said) i j
  convicts-still i j c =
      wider (no-fewer adds)
      (still (judged pile answers) (judged (pile ++ more) (answers ++ said)) (linked_of pile) (linked_of (pile ++ more))
      (records_in pile) (λ k u. alike_same (sym (verdict-kept adds k u))) (λ k z u. sym (linked-kept adds k z u)) i j c)

  -- so that the cutter's run is no longer, and its answer never that there is none
  pub run-no-longer : (i j : ℕ) → ConvictsIn pile answers i j → (room : ℕ) (x : Result (ℕ × ℕ) Refusal)
      → Takes (pile ++ more) (answers ++ said) room x → NoLonger i j (pile ++ more) room x
  run-no-longer i j c room (Ok (a, b)) t = t.2.shortest i j (convicts-still i j c)
  run-no-longer i j c room (Err why) (cut.code-15 bad) = absurd (bad adds.grown)
  run-no-longer i j c room (Err why) (cut.code-19 g short) = (refl, short)
  run-no-longer i j c room (Err why) (cut.code-18 g fits none) = absurd (none i j (convicts-still i j c))

  -- ---- the check of a report

  module _ (joins : Joins pile answers more said) where
    -- where no record was refused, none is,
    none-refused : Never (refused (judged pile answers)) (records_in pile)
        → Never (refused (judged (pile ++ more) (answers ++ said))) (records_in (pile ++ more))
    none-refused f k u t = split (records_in pile) k
        (λ l. T_not (valid (judged (pile ++ more) (answers ++ said) k)) (joins.all_valid k l u) t)
        (λ l. f k l (subst (λ (x : Result Window Refusal). T (not (valid x))) (verdict-kept adds k l) t))

    -- where no flag was missing, none is
    none-loose : Never (loose (joined pile)) (records_in pile)
        → Never (loose (joined (pile ++ more))) (records_in (pile ++ more))
    none-loose f k u t = split (records_in pile) k
        (λ l.
        T_not (joined (pile ++ more) k)
        (subst T (sym (joined-later (pile ++ more) k (omega (arith, adds.good.pile-whole.from)))) (joins.all-linked k l u))
        t)
        (λ l. f k l (subst (λ (x : Bool). T (not x)) (joined-kept adds k l) t))

    -- a pair that contradicts contradicts still
    pair-still : (i j : ℕ) → Contradiction (judged pile answers) (records_in pile) i j
        → Contradiction (judged (pile ++ more) (answers ++ said)) (records_in (pile ++ more)) i j
    pair-still i j h = record {
      order = h.order;
      inside = omega (arith, h.inside, no-fewer adds);
      holds = rw (verdict-kept adds i (omega (arith, h.order, h.inside)), verdict-kept adds j h.inside) h.holds;
    }

    -- so a report is accepted still, and the pair that it names is no further apart
    pub still-accepted : (i j : ℕ) → Reports pile answers (Ok (i, j)) → (x : Result (ℕ × ℕ) (Refusal × ℕ))
        → Reports (pile ++ more) (answers ++ said) x → NoFurther i j x
    still-accepted i j s (Ok (a, b)) t = t.1.2.shortest i j (pair-still i j s.1.2.holds)
    still-accepted i j s (Err (why, k)) (code-15 bad) = bad adds.grown
    still-accepted i j s (Err (why, k)) (of-records g (of-record f e)) =
        none-refused s.1.0 k f.inside f.holds
    still-accepted i j s (Err (why, k)) (of-records g (code-17 f h)) =
        none-loose s.1.1 k h.inside h.holds
    still-accepted i j s (Err (why, k)) (of-records g (code-18 f h none)) =
        none i j (pair-still i j s.1.2.holds)

-- ---- of one record, as the request has it

module _ {pile answers r said : List ℕ} (one : OneMore pile answers r said) where
  -- where it is valid and linked, so is each record that was added
  one-joins : T (valid (judged (pile ++ r) (answers ++ said) (records_in pile))) → T (linked_of (pile ++ r) (records_in pile))
      → Joins pile answers r said
  one-joins v l = record {
    all_valid = λ k u m.
        let e : records_in pile ≡ k = omega (arith, count-more one) in
        subst (λ (x : ℕ). T (valid (judged (pile ++ r) (answers ++ said) x))) e v;
    all-linked = λ k u m.
        let e : records_in pile ≡ k = omega (arith, count-more one) in
        subst (λ (x : ℕ). T (linked_of (pile ++ r) x)) e l;
  }

  -- a report with one valid, linked record more is accepted, and its pair no further apart;
  pub one-accepted : T (valid (judged (pile ++ r) (answers ++ said) (records_in pile)))
      → T (linked_of (pile ++ r) (records_in pile)) → (i j : ℕ) → Reports pile answers (Ok (i, j)) → (x : Result (ℕ × ℕ) (Refusal × ℕ))
      → Reports (pile ++ r) (answers ++ said) x → NoFurther i j x
  one-accepted v l = still-accepted (one-adds one) (one-joins v l)

  -- and with any record more, the cutter's run is no longer than before, whether the pile is a report or not
  pub one-no-longer : (room i j : ℕ) → Takes pile answers room (Ok (i, j)) → (again : ℕ) (x : Result (ℕ × ℕ) Refusal)
      → Takes (pile ++ r) (answers ++ said) again x → NoLonger i j (pile ++ r) again x
  one-no-longer room i j t = run-no-longer (one-adds one) i j t.2.holds
