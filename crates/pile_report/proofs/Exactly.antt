-- The check accepts exactly the piles that document 01 calls reports.
use Rattle.check_response.specs.declared.Window.{Window}
use Rattle.refusal.specs.declared.Refusal.{Refusal}
use Rattle.std.specs.Prelude.{Err, Ok, Result}
use mathlib.Core.Path.{◌≡◌, refl, sym, subst, ap, ◌∙◌}
use mathlib.Core.Bool.{Bool, true, false, true≢false}
use mathlib.Core.List.{List}
use mathlib.Core.Logic.{◌↔◌}
use Prim.Native.Nat.{ℕ, zero, suc, ◌-◌, ◌<◌}
use native.Mathlib.Omega.{arith}
use lib.Dec.{T}
use mir.Facts.{T_not}
use Rattle.laws.specs.Pairs.{IsLeast}
use Rattle.pile.specs.Pile.{records_in, record_at}
use Rattle.pile.specs.Links.{linked_of, first_rand_zero}
use Rattle.pile.specs.Valid.{window_at}
use Rattle.pile.specs.Meaning.{ValidRecord, IsLinked, ZeroRand}
use Rattle.laws.specs.Bytes.{Bytes}
use Rattle.pile.proofs.Exactly.{valid-judged, valid-exactly, window-of-its-own, valid-link-exactly, rand-exactly}
use Rattle.pile_runs.specs.Clash.{windows_clash, valid, contradicting}
use Rattle.pile_runs.specs.Convict.{Contradiction}
use Rattle.pile_report.specs.Report.{judged, joined, refused, loose, Reports}
use Rattle.pile_report.specs.Report.{of-record, code-17, code-18, code-15, of-records}
use Rattle.pile_report.specs.Meaning.{IsReport, Accepts}
use Rattle.pile_report.proofs.Says.{not-not}
use Rattle.pile_report.proofs.Runs.{joined-later}

-- ---- the tests of a record are document 01's sentences

pub is_set : (b : Bool) → T b ↔ b ≡ true
is_set true = (λ t. refl, λ e. tt)
is_set false = (λ t. absurd t, λ e. absurd (true≢false (sym e)))

module _ (pile answers : List ℕ) where
  -- a record that is not refused has its response's window
  pub windowed : (k : ℕ) → T (valid (judged pile answers k)) → judged pile answers k ≡ Ok (window_at pile k)
  windowed k t = go (judged pile answers k) refl
    where
      go : (x : Result Window Refusal) → judged pile answers k ≡ x → judged pile answers k ≡ Ok (window_at pile k)
      go (Ok w) e = e ∙ ap Ok (window-of-its-own pile answers k w e)
      go (Err why) e = absurd (subst (λ (y : Result Window Refusal). T (valid y)) e t)

  -- a valid record is judged valid, and one of a pile of bytes that is judged valid is valid,
  pub valid-yes : (k : ℕ) → ValidRecord pile answers k → T (valid (judged pile answers k))
  valid-yes k v = rw (valid-judged pile answers k v) tt

  pub yes-valid : (k : ℕ) → Bytes pile → T (valid (judged pile answers k)) → ValidRecord pile answers k
  yes-valid k bytes t = (valid-exactly pile answers k bytes).0 (windowed k t)

  -- two valid records contradict as their windows do,
  pub clash-tested : (i j : ℕ) → ValidRecord pile answers i → ValidRecord pile answers j
      → contradicting (judged pile answers i) (judged pile answers j) ≡ windows_clash (window_at pile i) (window_at pile j)
  clash-tested i j u w = rw (valid-judged pile answers i u, valid-judged pile answers j w)

  -- and the second of two is linked exactly where document 01 calls it so
  pub linked-tested : (k : ℕ) → 0 < k → ValidRecord pile answers (k - 1) → ValidRecord pile answers k
      → T (linked_of pile k) ↔ IsLinked (record_at pile (k - 1)) (record_at pile k)
  linked-tested k z b r = (
    λ t. (valid-link-exactly pile answers k z b r).0 ((is_set (linked_of pile k)).0 t),
    λ l. (is_set (linked_of pile k)).1 ((valid-link-exactly pile answers k z b r).1 l),
  )

rand-tested : (pile : List ℕ) → T (first_rand_zero pile) ↔ ZeroRand pile
rand-tested pile = (
  λ t. (rand-exactly pile).0 ((is_set (first_rand_zero pile)).0 t),
  λ z. (is_set (first_rand_zero pile)).1 ((rand-exactly pile).1 z),
)

pub joined-first : (pile : List ℕ) → joined pile 0 ≡ first_rand_zero pile
unfolding joined
joined-first pile = refl

-- ---- and so is the answer on a pile

module _ (pile answers : List ℕ) where
  accepted : Bytes pile → (i j : ℕ) → Reports pile answers (Ok (i, j)) → IsReport pile answers
  accepted bytes i j r =
      let s = r.1 in
      let c = s.2.holds in
      let whole = r.0.pile-whole in
      let at : (k : ℕ) → k < records_in pile → ValidRecord pile answers k =
      λ k l. yes-valid pile answers k bytes (not-not (valid (judged pile answers k)) (s.0 k l)) in
      let set : (k : ℕ) → k < records_in pile → T (joined pile k) = λ k l. not-not (joined pile k) (s.1 k l) in
      record {
        all_valid = at;
        all-linked = λ k z l.
            (linked-tested pile answers k z (at (k - 1) (omega arith)) (at k l)).0
            (rw (joined-later pile k z) at (set k l));
        rand = (rand-tested pile).0 (rw (joined-first pile) at (set 0 (omega (arith, whole.from))));
        i = i;
        j = j;
        order = c.order;
        inside = c.inside;
        contradict =
            rw (clash-tested pile answers i j (at i (omega (arith, c.order, c.inside))) (at j c.inside))
            at c.holds;
      }

  module _ (d : IsReport pile answers) where
    none-refused : (k : ℕ) → k < records_in pile → T (refused (judged pile answers) k) → ⊥
    none-refused k l = T_not (valid (judged pile answers k)) (valid-yes pile answers k (d.all_valid k l))

    none-loose : (k : ℕ) → k < records_in pile → T (loose (joined pile) k) → ⊥
    none-loose zero l = T_not (joined pile 0) (rw (joined-first pile) ((rand-tested pile).1 d.rand))
    none-loose (suc k) l =
        T_not (joined pile (suc k))
        (rw (joined-later pile (suc k) (omega arith))
        ((linked-tested pile answers (suc k) (omega arith) (d.all_valid (suc k - 1) (omega arith))
        (d.all_valid (suc k) l)
        ).1 (d.all-linked (suc k) (omega arith) l)))

    pair-in : Contradiction (judged pile answers) (records_in pile) d.i d.j
    pair-in = record {
      order = d.order;
      inside = d.inside;
      holds =
          rw
          (clash-tested pile answers d.i d.j (d.all_valid d.i (omega (arith, d.order, d.inside)))
          (d.all_valid d.j d.inside))
          d.contradict;
    }

    accepts : (r : Result (ℕ × ℕ) (Refusal × ℕ)) → Reports pile answers r → Accepts r
    accepts (Ok (i, j)) s = tt
    accepts (Err (why, k)) (code-15 bad) = bad (d.all_valid d.j d.inside).pile-good
    accepts (Err (why, k)) (of-records g (of-record f e)) = none-refused k f.inside f.holds
    accepts (Err (why, k)) (of-records g (code-17 f h)) = none-loose k h.inside h.holds
    accepts (Err (why, k)) (of-records g (code-18 f h none)) = none d.i d.j pair-in

    -- a report names the least of its pairs
    pub names : (i j : ℕ) → IsLeast (Contradiction (judged pile answers) (records_in pile)) i j
        → Reports pile answers (Ok (i, j))
    names i j m = ((d.all_valid d.j d.inside).pile-good, (none-refused, none-loose, m))

  named : Bytes pile → (r : Result (ℕ × ℕ) (Refusal × ℕ)) → Reports pile answers r → Accepts r → IsReport pile answers
  named bytes (Ok (i, j)) s t = accepted bytes i j s
  named bytes (Err (why, k)) s t = absurd t

  -- the answer names a pair exactly where the pile is a report
  pub report-exactly : Bytes pile → (r : Result (ℕ × ℕ) (Refusal × ℕ)) → Reports pile answers r → Accepts r ↔ IsReport pile answers
  report-exactly bytes r s = (named bytes r s, λ d. accepts d r s)
