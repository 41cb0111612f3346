-- Laws for the loops that gather the verdicts on n records, one after the other, whoever judges.
use Rattle.check_response.specs.declared.Window.{Window}
use Rattle.refusal.specs.declared.Refusal.{Refusal}
use Rattle.std.specs.Prelude.{Err, Ok, Result}
use mathlib.Core.Path.{◌≡◌, sym, subst}
use mathlib.Core.Bool.{not}
use mathlib.Core.List.{List, []}
use Prim.Native.Nat.{ℕ, ◌+◌, ◌≤◌, ◌<◌}
use native.Mathlib.Omega.{arith}
use borrow.Author.Count.{below_more}
use lib.Dec.{T}
use lib.ListN.{length, set, length-set}
use lib.Seq.{get_or-set_same, get_or-set_other}
use Rattle.laws.specs.Least.{IsFirst, Never}
use Rattle.laws.proofs.Fill.{fill-next}
use Rattle.pile_runs.specs.Clash.{valid}
use Rattle.pile_runs.specs.Convict.{verdict_in}
use Rattle.pile_report.specs.Promises.{Judges}
use Rattle.pile_report.specs.Report.{refused}

-- the verdicts on the first k of n records are known, and are what a judge whose results are as in `post` says
pub record Gathering (post : ℕ → Result Window Refusal → Type 0) (n k : ℕ) (vs : List (Result Window Refusal)) : Type 0 where
  pub most : k ≤ n
  pub long : length vs ≡ 16
  pub known : (v : ℕ → Result Window Refusal) → Judges post v n → (i : ℕ) → i < k → verdict_in vs i ≡ v i

-- and so far all are valid
pub record Passing (post : ℕ → Result Window Refusal → Type 0) (n k : ℕ) (vs : List (Result Window Refusal)) : Type 0 where
  pub gathered : Gathering post n k vs
  pub all_valid : (i : ℕ) → i < k → T (valid (verdict_in vs i))

opposite : (y : Result Window Refusal) → T (valid y) → T (not (valid y)) → ⊥
opposite (Ok w) p q = q
opposite (Err why) p q = p

module _ {post : ℕ → Result Window Refusal → Type 0} {n : ℕ} where
  pub gathering-none : {vs : List (Result Window Refusal)} → length vs ≡ 16 → Gathering post n 0 vs
  gathering-none l = record { most = omega arith; long = l; known = λ v j i h. absurd (omega arith) }

  pub passing-none : {vs : List (Result Window Refusal)} → length vs ≡ 16 → Passing post n 0 vs
  passing-none l = record { gathered = gathering-none l; all_valid = λ i h. absurd (omega arith) }

  -- with the verdict on record k at its place, one more is
  pub gathering-next : {k : ℕ} {vs : List (Result Window Refusal)} {x : Result Window Refusal}
      → Gathering post n k vs → k < n → n ≤ 16 → post k x → Gathering post n (k + 1) (set vs k x)
  gathering-next {k} {vs} {x} g h m p =
      record {
        most = omega arith;
        long = simp length-set g.long;
        known = λ v j.
            fill-next v (verdict_in [] 0) vs k x (omega (arith, g.long)) (g.known v j) (j k h x p);
      }

  module _ {k : ℕ} {vs : List (Result Window Refusal)} (s : Passing post n k vs) (h : k < n) where
    pub passing-next : {w : Window} → n ≤ 16 → post k (Ok w) → Passing post n (k + 1) (set vs k (Ok w))
    passing-next {w} m p = record {
      gathered = gathering-next s.gathered h m p;
      all_valid =
          below_more (λ (i : ℕ). T (valid (verdict_in (set vs k (Ok w)) i))) k
          (λ i l.
          subst (λ (y : Result Window Refusal). T (valid y))
          (sym (get_or-set_other vs k i (Ok w) (verdict_in [] 0) (λ e. omega (arith, e)))) (s.all_valid i l))
          (subst (λ (y : Result Window Refusal). T (valid y))
          (sym (get_or-set_same vs k (Ok w) (verdict_in [] 0) (omega (arith, m, s.gathered.long)))) tt);
    }

    -- where record k is refused, it is the first that is
    pub stopped : {why : Refusal} (v : ℕ → Result Window Refusal) → Judges post v n → post k (Err why)
        → IsFirst (refused v) n k × (v k ≡ Err why)
    stopped {why} v j p =
        let e = j k h (Err why) p in (
          record {
            inside = h;
            holds = subst (λ (y : Result Window Refusal). T (not (valid y))) e tt;
            earlier = λ i l t.
                opposite (verdict_in vs i) (s.all_valid i l)
                (subst (λ (y : Result Window Refusal). T (not (valid y))) (sym (s.gathered.known v j i l)) t);
          },
          sym e,
        )

-- in the end no record is refused
pub passed-all : {post : ℕ → Result Window Refusal → Type 0} {n k : ℕ} {vs : List (Result Window Refusal)}
    → Passing post n k vs → n ≤ k → Never (refused (verdict_in vs)) n
passed-all {vs = vs} s h i l t = opposite (verdict_in vs i) (s.all_valid i (omega arith)) t
