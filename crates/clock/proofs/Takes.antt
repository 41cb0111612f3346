-- What is refused and what is not, of a start and of a window. Code has the refusal as r.
use Rattle.std.specs.Prelude.{Err, Ok, Result}
use mathlib.Core.Path.{◌≡◌, refl, ap, ◌∙◌}
use mathlib.Core.Bool.{Bool, true, false, cond}
use mathlib.Core.List.{[], ◌∷◌}
use Prim.Native.Nat.{ℕ, ◌≤◌, ◌<◌}
use native.Mathlib.Omega.{arith}
use lib.Dec.{T, eqb, ltb, ltb→lt}
use borrow.Author.Tests.{eq-eqb, ne_eqb, ltb-false}
use Rattle.laws.proofs.First.{row-quiet, test-quiet}
use Rattle.refusal.specs.Refusal.{refusal, refusals, when, passes, passed}
use Rattle.refusal.specs.declared.Refusal.{Refusal}
use Rattle.refusal.proofs.Passing.{refuses, quiet-passes}
use Rattle.clock_spans.specs.declared.Kept.{Kept}
use Rattle.clock.specs.State.{newest, take_code, keeping, taken_of, next_of}
use Rattle.clock.specs.declared.Clock.{Clock}

-- an answer that is the state g where the refusal a has the number 0
module _ {r a : Refusal} (g : Clock) (f : r ≡ a) where
  number : r.code ≡ a.code
  number = ap (λ (x : Refusal). x.code) f

  pub refused : (r.code ≡ 0 → ⊥) → ◌≡◌ {A = Result Clock Refusal} (Err r) (cond (eqb a.code 0) (Ok g) (Err a))
  refused n = simp (ne_eqb a.code 0 (λ q. n (number ∙ q))) (ap Err f)

pub given : (a : Refusal) {g k : Clock} → a.code ≡ 0 → k ≡ g
    → ◌≡◌ {A = Result Clock Refusal} (Ok k) (cond (eqb a.code 0) (Ok g) (Err a))
given a z e = simp (eq-eqb a.code 0 z) (ap Ok e)

-- of a row of checks, whose first refusal is a: code has it as x, or comes to the end of the row
pub refused-as : {x : Refusal} (a : Refusal) {n : ℕ} → x ≡ refusal n → T (ltb 0 n) → x ≡ a → Err x ≡ passes a
refused-as {x} a {n} e p f = refuses (λ z. go (ltb→lt 0 n p) (ap (λ (r : Refusal). r.code) e) z) ∙ ap passes f
  where
    go : 0 < n → x.code ≡ n → x.code ≡ 0 → ⊥
    go h c z = omega arith

pub passed-as : (a : Refusal) → passed ≡ a → Ok tt ≡ passes a
passed-as a f = quiet-passes passed refl ∙ ap passes f

-- a window that is taken: it is a server's, and its receipt is not before its request or the last receipt
pub record Takeable (c : Clock) (s : ℕ) (w : Kept) : Type 0 where
  pub one : s < 8
  pub after-sent : w.sent ≤ w.received
  pub after_last : (newest c s).received ≤ w.received

pub takeable : (c : Clock) (s : ℕ) (w : Kept) → (take_code c s w).code ≡ 0 → Takeable c s w
unfolding take_code
takeable c s w z =
    let a = when (ltb 7 s) 32 in
    let b = when (ltb w.received w.sent) 26 in
    let d = when (ltb w.received (newest c s).received) 26 in
    let p = row-quiet refusals a (b ∷ d ∷ []) z in
    let q = row-quiet refusals b (d ∷ []) p.1 in
    let r = row-quiet refusals d [] q.1 in
    record {
      one = omega (arith, ltb-false 7 s (test-quiet refusals (ltb 7 s) (refusal 32) tt p.0));
      after-sent =
          ltb-false w.received w.sent
          (test-quiet refusals (ltb w.received w.sent) (refusal 26) tt q.0);
      after_last =
          ltb-false w.received (newest c s).received
          (test-quiet refusals (ltb w.received (newest c s).received) (refusal 26) tt r.0);
    }

-- the drift that a state allows stays
pub taken-drift : (c : Clock) (s : ℕ) (w : Kept) → (next_of c (taken_of c s w)).drift ≡ c.drift
unfolding keeping taken_of
taken-drift c s w = by (eqb (take_code c s w).code 0)
  where
    by : (b : Bool) → (next_of c (cond b (Ok (keeping c s w)) (Err (take_code c s w)))).drift ≡ c.drift
    by true = refl
    by false = refl
