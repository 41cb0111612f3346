-- What is answered, as code finds out.
use Rattle.clock.specs.declared.Time.{Time}
use Rattle.clock_agreement.specs.declared.Agreed.{Agreed}
use Rattle.std.specs.Prelude.{Err, Result}
use mathlib.Core.Path.{◌≡◌, sym, ap, ◌∙◌}
use mathlib.Core.Bool.{Bool, true, false}
use mathlib.Core.List.{List}
use Prim.Native.Nat.{ℕ, ◌-◌}
use Rattle.refusal.specs.Refusal.{refusal}
use Rattle.refusal.specs.declared.Refusal.{Refusal}
use Rattle.clock_spans.specs.declared.Span.{Span}
use Rattle.clock_agreement.specs.Agreement.{agreement_of}
use Rattle.clock.specs.Used.{too_early, counting_at, spans_of}
use Rattle.clock.specs.Answer.{later, answer_of}
use Rattle.clock.specs.declared.Clock.{Clock}

module _ (c : Clock) (t f : ℕ) {b : Bool} (e : b ≡ too_early c t) where
  pub early : {r : Refusal} → b ≡ true → r ≡ refusal 26 → Err r ≡ answer_of c t f
  unfolding answer_of
  early y q = simp (sym e ∙ y) (ap Err q)

  pub in-time : {counting d : ℕ} {rs : List Span} {a : Result Agreed Refusal} {r : Result Time Refusal} → b ≡ false
      → counting ≡ counting_at c t → rs ≡ spans_of c t counting → a ≡ agreement_of rs f → d ≡ t - counting
      → r ≡ later c.drift d a → r ≡ answer_of c t f
  unfolding answer_of
  in-time n p q s u w = simp (sym e ∙ n, sym p, sym q, sym s, sym u) w
