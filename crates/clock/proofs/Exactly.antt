-- What is answered, as sentences: when each refusal is, and what the time is. They hold of every state.
use Rattle.clock_agreement.specs.declared.Agreed.{Agreed}
use Rattle.refusal.specs.declared.Refusal.{Refusal}
use Rattle.std.specs.Prelude.{Err, Ok, Result}
use mathlib.Core.Path.{◌≡◌, refl, sym, ap, ◌∙◌}
use mathlib.Core.Bool.{Bool, true, false, cond}
use mathlib.Core.Logic.{◌↔◌}
use Prim.Native.Nat.{ℕ, ◌-◌}
use native.Mathlib.Omega.{arith}
use Rattle.refusal.specs.Refusal.{refusal}
use Rattle.clock_agreement.specs.Agreement as agreement
use Rattle.clock_agreement.proofs.Exactly as exactly
use Rattle.clock.specs.Meaning.{spans_then, IsTime, TooFew, NoAgreement}
use Rattle.clock.specs.Used.{too_early, counting_at}
use Rattle.clock.specs.Answer.{later, answer_of, number}
use Rattle.clock.specs.declared.Clock.{Clock}
use Rattle.clock.specs.declared.Time.{Time}

-- what has gone on has the number that it had
same_number : (drift d : ℕ) (a : Result Agreed Refusal) → number (later drift d a) ≡ agreement.number a
same_number drift d (Err why) = refl
same_number drift d (Ok a) = refl

module _ (c : Clock) (t f : ℕ) where
  abbrev found : Result Agreed Refusal
  found = agreement.agreement_of (spans_then c t) f

  abbrev gone : Result Agreed Refusal → Result Time Refusal
  gone a = later c.drift (t - counting_at c t) a

  abbrev said : Bool → Result Time Refusal
  said b = cond b (Err (refusal 26)) (gone found)

  -- in time, it has the number of what the servers agree on
  pub number_is : too_early c t ≡ false → number (answer_of c t f) ≡ agreement.number found
  unfolding answer_of
  number_is n = rw n (same_number c.drift (t - counting_at c t) found)

  -- 26 is answered exactly where the moment is before a receipt that is kept
  pub early-exactly : number (answer_of c t f) ≡ 26 ↔ too_early c t ≡ true
  unfolding answer_of
  early-exactly = (to (too_early c t), λ h. rw h refl)
    where
      to : (b : Bool) → number (said b) ≡ 26 → b ≡ true
      to true e = refl
      to false e =
          absurd
          (exactly.not-26 (spans_then c t) f (sym (same_number c.drift (t - counting_at c t) found) ∙ e))

  -- any other number is that of what the servers agree on
  otherwise : (n : ℕ) → (26 ≡ n → ⊥) → number (answer_of c t f) ≡ n
      → (too_early c t ≡ false) × (agreement.number found ≡ n)
  unfolding answer_of
  otherwise n h e = by (too_early c t) refl e
    where
      by : (b : Bool) → too_early c t ≡ b → number (said b) ≡ n
          → (too_early c t ≡ false) × (agreement.number found ≡ n)
      by true q g = absurd (h g)
      by false q g = (q, sym (same_number c.drift (t - counting_at c t) found) ∙ g)

  -- 33 exactly where it is not, and no more servers are counted than may lie
  pub few-exactly : number (answer_of c t f) ≡ 33 ↔ TooFew c t f
  few-exactly = (
    λ e.
        let o = otherwise 33 (λ q. omega (arith, q)) e in
        record { in-time = o.0; few = (exactly.few-exactly (spans_then c t) f).0 o.1 },
    λ h. number_is h.in-time ∙ (exactly.few-exactly (spans_then c t) f).1 h.few,
  )

  -- 34 exactly where more are, and no point lies in the spans of all but f of them
  pub none-exactly : number (answer_of c t f) ≡ 34 ↔ NoAgreement c t f
  none-exactly = (
    λ e.
        let o = otherwise 34 (λ q. omega (arith, q)) e in
        record { in-time = o.0; disagrees = (exactly.none-exactly (spans_then c t) f).0 o.1 },
    λ h. number_is h.in-time ∙ (exactly.none-exactly (spans_then c t) f).1 h.disagrees,
  )

  -- where a time is told, it is the one
  pub given-exactly : (a : Time) → answer_of c t f ≡ Ok a → IsTime c t f a
  unfolding answer_of
  given-exactly a e = by (too_early c t) found refl refl e
    where
      by : (b : Bool) (g : Result Agreed Refusal) → too_early c t ≡ b → found ≡ g
          → cond b (Err (refusal 26)) (gone g) ≡ Ok a → IsTime c t f a
      by true g q h r = absurd (omega (arith, ap number r))
      by false (Err why) q h r = let z : ◌≡◌ {A = ℕ} 0 1 = cc in absurd (omega (arith, z))
      by false (Ok b) q h r =
          record { in-time = q; agreed = b; agrees = exactly.found-exactly (spans_then c t) f b h; is = cc }
