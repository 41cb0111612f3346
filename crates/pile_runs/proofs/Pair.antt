-- Where all n records are valid and linked, the first and the last record of the run that is found are the report's
-- pair, least in j - i and then in i: one search serves both.
use Rattle.check_response.specs.declared.Window.{Window}
use Rattle.refusal.specs.declared.Refusal.{Refusal}
use Rattle.std.specs.Prelude.{None, Option, Result, Some}
use mathlib.Core.Bool.{Bool}
use Prim.Native.Nat.{ℕ, ◌<◌}
use native.Mathlib.Omega.{arith}
use lib.Dec.{T}
use Rattle.pile_runs.specs.Clash.{valid, contradicting}
use Rattle.pile_runs.specs.Spans.{Answers}
use Rattle.pile_runs.specs.Convict.{Convicts, Contradiction}
use Rattle.pile_runs.proofs.ByEnds.{least-ends}
use Rattle.pile_runs.proofs.Find.{least_of, least-says}

module _ (v : ℕ → Result Window Refusal) (l : ℕ → Bool) (n : ℕ)
    (all_valid : (k : ℕ) → k < n → T (valid (v k))) (all-linked : (k : ℕ) → 0 < k → k < n → T (l k)) where
  -- records that contradict are the ends of a run that convicts
  to-run : (i j : ℕ) → Contradiction v n i j → Convicts v l n i j
  to-run i j h = record {
    inside = h.inside;
    clean = record {
      all_valid = λ k p q. all_valid k (omega (arith, h.inside));
      all-linked = λ k p q. all-linked k (omega arith) (omega (arith, h.inside));
    };
    i = i;
    j = j;
    from = omega arith;
    order = h.order;
    to = omega arith;
    clash = h.holds;
  }

  -- and the ends of the least run that convicts are the least pair
  pub pair-of-run : (r : Option (ℕ × ℕ)) → Answers (Convicts v l n) r → Answers (Contradiction v n) r
  pair-of-run (Some (a, b)) m =
      let h = (least-ends m).holds in
      record {
        holds = record { order = h.order; inside = h.inside; holds = h.holds.clash };
        shortest = λ i j h. m.shortest i j (to-run i j h);
        first = λ i j h. m.first i j (to-run i j h);
      }
  pair-of-run None m = λ i j h. m i j (to-run i j h)

-- The report's pair, computed: there is one answer and no other.
abbrev pub pair_of : (ℕ → Result Window Refusal) → ℕ → Option (ℕ × ℕ)
pair_of v n = least_of (λ i j. contradicting (v i) (v j)) n

module _ (v : ℕ → Result Window Refusal) (n : ℕ) where
  pub pair-exists : Answers (Contradiction v n) (pair_of v n)
  pair-exists =
      least-says (λ i j. T (contradicting (v i) (v j))) (λ i j. contradicting (v i) (v j)) n
      (λ i j o t. t) (λ i j o t. t)
