-- What the clock claims of any state, as it may have come about; and the bits of what it tells.
use Rattle.std.specs.Prelude.{Ok}
use mathlib.Core.Path.{◌≡◌, refl, sym, ap, ap₂, ◌∙◌}
use mathlib.Core.Bool.{Bool, true, false, cond, ◌&&◌}
use Prim.Native.Nat.{ℕ, ◌+◌, ◌/◌, ◌%◌, ◌^◌, ◌≤◌, ◌<◌, min, max}
use native.Mathlib.Omega.{arith}
use lib.Dec.{leb, ltb}
use borrow.Author.Tests.{lt-ltb, le-ltb, leb-true, leb-false}
use Rattle.clock_spans.specs.declared.Span.{Span}
use Rattle.clock_agreement.specs.Count.{span_in, meets, misses, agreeing, suspect}
use Rattle.clock_agreement.specs.Agreement.{agreement_of}
use Rattle.clock_agreement.specs.Agreement as agreement
use Rattle.clock_agreement.specs.declared.Agreed.{Agreed}
use Rattle.clock_agreement.proofs.Exactly as agreed
use Rattle.clock_agreement.proofs.Sets.{set-bit}
use Rattle.clock.specs.Used.{too_early}
use Rattle.clock.specs.Answer.{answer_of, number}
use Rattle.clock.specs.Meaning.{spans_then, count_then, IsTime}
use Rattle.clock.specs.declared.Clock.{Clock}
use Rattle.clock.specs.declared.Time.{Time}
use Rattle.clock.proofs.Exactly.{number_is, none-exactly, given-exactly}
use Rattle.clock_laws.specs.Truth.{Story, liars}
use Rattle.clock_laws.specs.Meaning.{Right, Unstretched}
use Rattle.clock_laws.proofs.Sound.{sound, none-lies, suspect-lies, backed}

-- ---- the bits, of any state

abbrev pub bit : ℕ → ℕ → ℕ
bit set j = set / 2 ^ j % 2

-- one number is at most another, or the other is less
either : (b : Bool) (x y : ℕ) → ◌≡◌ {A = ℕ} (cond (b && leb x y) 1 0 + cond (b && ltb y x) 1 0) (cond b 1 0)
either false x y = refl
either true x y = by (leb x y) refl
  where
    by : (e : Bool) → leb x y ≡ e → ◌≡◌ {A = ℕ} (cond e 1 0 + cond (ltb y x) 1 0) 1
    by true q = rw (le-ltb y x (leb-true x y q)) refl
    by false q = rw (lt-ltb y x (leb-false x y q)) refl

one : (b : Bool) → ◌≡◌ {A = ℕ} (cond b 1 0) 1 → b ≡ true
one true e = refl
one false e = absurd (omega arith)

module _ (c : Clock) (t f : ℕ) (a : Time) (g : IsTime c t f a) where
  abbrev rs : ℕ → Span
  rs s = span_in (spans_then c t) s

  abbrev from : ℕ
  from = g.agreed.from

  abbrev to : ℕ
  to = g.agreed.to

  agrees-bit : (j : ℕ) → j < 8 → bit a.agree j ≡ cond (meets from to (rs j)) 1 0
  agrees-bit j l =
      ap (λ (x : Time). bit x.agree j) g.is
      ∙ ap (λ (x : Agreed). bit x.agree j) g.agrees.is
      ∙ set-bit (agreeing (spans_then c t) from to) 8 j l

  suspect-bit : (j : ℕ) → j < 8 → bit a.suspects j ≡ cond (misses from to (rs j)) 1 0
  suspect-bit j l =
      ap (λ (x : Time). bit x.suspects j) g.is
      ∙ ap (λ (x : Agreed). bit x.suspects j) g.agrees.is
      ∙ set-bit (suspect (spans_then c t) from to) 8 j l

  -- each server that is counted agrees or is suspect, and none is both; no other is either
  pub each-in-one : (j : ℕ) → j < 8 → bit a.agree j + bit a.suspects j ≡ cond (rs j).counted 1 0
  each-in-one j l =
      ap₂ (λ (x y : ℕ). x + y) (agrees-bit j l) (suspect-bit j l)
      ∙ either (rs j).counted (max from (rs j).low) (min to (rs j).high)

  -- as many are as is said
  pub counted_is : a.counted ≡ count_then c t
  counted_is = ap (λ (x : Time). x.counted) g.is ∙ ap (λ (x : Agreed). x.counted) g.agrees.is

-- ---- of any state, as it may have come about

module _ {c : Clock} {T : ℕ → ℕ} {lies : ℕ → Bool} (y : Story c T lies) (t f : ℕ) where
  -- where the servers do not agree, more than f of them lie
  pub story-no-agreement : number (answer_of c t f) ≡ 34 → f < liars c t lies
  story-no-agreement e = none-lies c t f T lies y ((none-exactly c t f).0 e).disagrees

  module _ (few : liars c t lies ≤ f) where
    -- where no more lie, and more than f are counted, there is no refusal but for a moment that is before a receipt
    pub story-never-refused : too_early c t ≡ false → f < count_then c t → number (answer_of c t f) ≡ 0
    story-never-refused i more =
        let n = number_is c t f i in
        n
        ∙ agreed.other-number (spans_then c t) f (agreement.number (agreement_of (spans_then c t) f)) refl
        (λ e. omega (arith, more, (agreed.few-exactly (spans_then c t) f).0 e))
        (λ e. omega (arith, few, story-no-agreement (n ∙ e)))

    module _ (a : Time) (e : answer_of c t f ≡ Ok a) where
      g : IsTime c t f a
      g = given-exactly c t f a e

      -- the time that is told is right
      pub story-right : Right (T t) a
      story-right = sound c t f T lies y few a g

      -- every suspect lies
      pub story-suspects-lie : (j : ℕ) → j < 8 → bit a.suspects j ≡ 1 → lies j ≡ true
      story-suspects-lie j l b =
          suspect-lies c t f T lies y few g.agreed g.agrees j l (one _ (sym (suspect-bit c t f a g j l) ∙ b))

      -- where f is below half of the servers that are counted, each end was in the span of a server that does not lie
      pub story-unstretched : f + f < a.counted → Unstretched c t T lies a
      story-unstretched half =
          let h : f + f < count_then c t = omega (arith, half, counted_is c t f a g) in
          record {
            from = g.agreed.from;
            to = g.agreed.to;
            low-from = ap (λ (x : Time). x.low) g.is;
            high-from = ap (λ (x : Time). x.high) g.is;
            low-backed = backed c t f T lies y few h g.agreed.from g.agrees.from_in;
            high-backed = backed c t f T lies y few h g.agreed.to g.agrees.to_in;
          }
