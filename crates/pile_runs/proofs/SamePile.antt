-- An answer moved to another relation that holds of the same pairs, and so from the arrays that hold verdicts and flags
-- to the pile that they are of.
use Rattle.std.specs.Prelude.{Err, None, Ok, Option, Result, Some}
use mathlib.Core.Path.{◌≡◌, refl, sym, subst, ap, ◌∙◌}
use mathlib.Core.Bool.{Bool}
use mathlib.Core.Logic.{◌↔◌}
use Prim.Native.Nat.{ℕ, ◌-◌, ◌<◌}
use native.Mathlib.Omega.{arith}
use lib.Dec.{T}
use Rattle.laws.specs.Pairs.{IsLeast}
use Rattle.refusal.specs.declared.Refusal.{Refusal}
use Rattle.check_response.specs.declared.Window.{Window}
use Rattle.pile_runs.specs.Alike.{Alike}
use Rattle.pile_runs.specs.Clash.{valid, contradicting}
use Rattle.pile_runs.specs.Spans.{Answers}
use Rattle.pile_runs.specs.Convict.{Convicts}
use Rattle.pile_runs.proofs.Find.{run_settled}

-- relations that hold of the same pairs have the same least pair,
pub same-least : {P Q : ℕ → ℕ → Type 0} {a b : ℕ} → ((i j : ℕ) → P i j ↔ Q i j) → IsLeast P a b → IsLeast Q a b
same-least {P} {Q} {a} {b} f m = record {
  holds = (f a b).0 m.holds;
  shortest = λ i j q. m.shortest i j ((f i j).1 q);
  first = λ i j q. m.first i j ((f i j).1 q);
}

-- and the same answer
pub same_span : (P Q : ℕ → ℕ → Type 0) → ((i j : ℕ) → P i j ↔ Q i j) → (r : Option (ℕ × ℕ)) → Answers P r → Answers Q r
same_span P Q f (Some (a, b)) m = same-least f m
same_span P Q f None m = λ i j q. m i j ((f i j).1 q)

-- ---- verdicts that differ in MINT and MAXT at the most

pub alike_refl : (v : Result Window Refusal) → Alike v v
alike_refl (Ok a) = (refl, refl)
alike_refl (Err x) = refl

pub alike_same : {v w : Result Window Refusal} → v ≡ w → Alike v w
alike_same {v} {w} e = subst (λ (x : Result Window Refusal). Alike v x) e (alike_refl v)

pub alike-sym : (v w : Result Window Refusal) → Alike v w → Alike w v
alike-sym (Ok a) (Ok b) e = (sym e.0, sym e.1)
alike-sym (Err x) (Err y) e = sym e
alike-sym (Ok a) (Err y) e = e
alike-sym (Err x) (Ok b) e = e

-- a window is no refusal
valid-no-refusal : {a : Window} {x : Refusal} → Ok a ≡ Err x → ⊥
valid-no-refusal {a} {x} e = subst (λ (v : Result Window Refusal). T (valid v)) e tt

-- both are valid, or none is; a refusal is the same one;
pub alike-valid : (v w : Result Window Refusal) → Alike v w → valid v ≡ valid w
alike-valid (Ok a) (Ok b) e = refl
alike-valid (Err x) (Err y) e = refl
alike-valid (Ok a) (Err y) e = absurd e
alike-valid (Err x) (Ok b) e = absurd e

pub alike-refused : (v w : Result Window Refusal) (x : Refusal) → Alike v w → v ≡ Err x → w ≡ Err x
alike-refused (Ok a) (Ok b) x e f = absurd (valid-no-refusal f)
alike-refused (Err y) (Err z) x e f = sym (ap Err e) ∙ f
alike-refused (Ok a) (Err z) x e f = absurd e
alike-refused (Err y) (Ok b) x e f = absurd e

-- and they contradict the same ones
pub alike-contradicting : (v w x y : Result Window Refusal) → Alike v w → Alike x y → contradicting v x ≡ contradicting w y
alike-contradicting (Ok a) (Ok b) (Ok c) (Ok d) e f = rw (e.0, e.1, f.0, f.1)
alike-contradicting (Ok a) (Ok b) (Err c) (Err d) e f = refl
alike-contradicting (Err a) (Err b) x y e f = refl
alike-contradicting (Ok a) (Ok b) (Ok c) (Err d) e f = absurd f
alike-contradicting (Ok a) (Ok b) (Err c) (Ok d) e f = absurd f
alike-contradicting (Ok a) (Err b) x y e f = absurd e
alike-contradicting (Err a) (Ok b) x y e f = absurd e

-- Two piles of n records with such verdicts. The flag of record 0 plays no part: no run asks whether its first record
-- is linked.
module _ (v w : ℕ → Result Window Refusal) (l k : ℕ → Bool) (n : ℕ) where
  -- a run that convicts in the one convicts in the other,
  pub still : ((i : ℕ) → i < n → Alike (v i) (w i)) → ((i : ℕ) → 0 < i → i < n → l i ≡ k i) → (a b : ℕ)
      → Convicts v l n a b → Convicts w k n a b
  still e f a b c = record {
    inside = c.inside;
    clean = record {
      all_valid = λ i p q.
          subst T (alike-valid (v i) (w i) (e i (omega (arith, c.inside)))) (c.clean.all_valid i p q);
      all-linked = λ i p q. subst T (f i (omega arith) (omega (arith, c.inside))) (c.clean.all-linked i p q);
    };
    i = c.i;
    j = c.j;
    from = c.from;
    order = c.order;
    to = c.to;
    clash =
        subst T
        (alike-contradicting (v c.i) (w c.i) (v c.j) (w c.j)
        (e c.i (omega (arith, c.inside, c.order, c.to))) (e c.j (omega (arith, c.inside, c.to))))
        c.clash;
  }

-- and so both have the same answer,
pub alike-answer : (v w : ℕ → Result Window Refusal) (l k : ℕ → Bool) (n : ℕ) → ((i : ℕ) → i < n → Alike (v i) (w i))
    → ((i : ℕ) → 0 < i → i < n → l i ≡ k i) → (r : Option (ℕ × ℕ)) → Answers (Convicts v l n) r → Answers (Convicts w k n) r
alike-answer v w l k n e f =
    same_span (Convicts v l n) (Convicts w k n)
    (λ a b. (
      still v w l k n e f a b,
      still w v k l n (λ i u. alike-sym (v i) (w i) (e i u)) (λ i z u. sym (f i z u)) a b,
    ))

-- as they have where the verdicts are the same
pub same_answer : (v w : ℕ → Result Window Refusal) (l k : ℕ → Bool) (n : ℕ) → ((i : ℕ) → i < n → v i ≡ w i)
    → ((i : ℕ) → 0 < i → i < n → l i ≡ k i) → (r : Option (ℕ × ℕ)) → Answers (Convicts v l n) r → Answers (Convicts w k n) r
same_answer v w l k n e f = alike-answer v w l k n (λ i u. alike_same (e i u)) f

-- No run asks whether a record is linked where that record or the one before it is refused: flags that agree on the
-- others give the same runs,
still-linked : (v : ℕ → Result Window Refusal) (l k : ℕ → Bool) (n : ℕ)
    → ((i : ℕ) → 0 < i → i < n → T (valid (v (i - 1))) → T (valid (v i)) → l i ≡ k i) → (a b : ℕ)
    → Convicts v l n a b → Convicts v k n a b
still-linked v l k n f a b c =
    let valid-at = c.clean.all_valid in
    record {
      inside = c.inside;
      clean = record {
        all_valid = valid-at;
        all-linked = λ i p q.
            subst T
            (f i (omega arith) (omega (arith, c.inside)) (valid-at (i - 1) (omega arith) (omega arith))
            (valid-at i (omega arith) q))
            (c.clean.all-linked i p q);
      };
      i = c.i;
      j = c.j;
      from = c.from;
      order = c.order;
      to = c.to;
      clash = c.clash;
    }

-- and the same answer
pub linked-answer : (v : ℕ → Result Window Refusal) (l k : ℕ → Bool) (n : ℕ)
    → ((i : ℕ) → 0 < i → i < n → T (valid (v (i - 1))) → T (valid (v i)) → l i ≡ k i) → (r : Option (ℕ × ℕ))
    → Answers (Convicts v l n) r → Answers (Convicts v k n) r
linked-answer v l k n f =
    same_span (Convicts v l n) (Convicts v k n)
    (λ a b. (still-linked v l k n f a b, still-linked v k l n (λ i z u p q. sym (f i z u p q)) a b))

-- Demand 3 does not read MINT and MAXT (request P9): of two piles of which the verdicts differ in these at the most,
-- and the links in nothing, the run is the same. The key stands in no verdict.
pub same-run : (v w : ℕ → Result Window Refusal) (l k : ℕ → Bool) (n : ℕ) → ((i : ℕ) → i < n → Alike (v i) (w i))
    → ((i : ℕ) → 0 < i → i < n → l i ≡ k i)
    → (r s : Option (ℕ × ℕ)) → Answers (Convicts v l n) r → Answers (Convicts w k n) s → r ≡ s
same-run v w l k n e f r s p q = run_settled w k n r s (alike-answer v w l k n e f r p) q
