-- Waiting changes nothing but the two ends: what is refused stays so, and so does who agrees and who is suspect, until
-- a window more is taken or one passes its MAXT. For the servers are counted at a receipt, and not when it is asked.
use Rattle.clock_agreement.specs.declared.Agreed.{Agreed}
use Rattle.refusal.specs.declared.Refusal.{Refusal}
use Rattle.std.specs.Prelude.{Err, Ok, Result}
use mathlib.Core.Path.{◌≡◌, refl, sym, ap, ap₂, ◌∙◌, subst}
use mathlib.Core.Bool.{Bool, true, false, cond}
use mathlib.Core.List.{List}
use Prim.Native.Nat.{ℕ, zero, suc, ◌+◌, ◌*◌, ◌-◌, ◌/◌, ◌≤◌, ◌<◌, max}
use native.Mathlib.Nat.{mul-le-mul_right}
use native.Mathlib.Omega.{arith}
use lib.Dec.{leb, ltb}
use lib.ListN.{get_or}
use borrow.Author.Tests.{leb-true, le-leb, ltb-false, le-ltb}
use Rattle.laws.proofs.Holds.{both}
use Rattle.laws.proofs.Least.{nowhere, nowhere-at}
use Rattle.clock_spans.specs.Drift.{million, most_passed, high_later}
use Rattle.clock_spans.specs.Spans.{low_at, high_at, used_at, unknown, span_at, meet, server_span}
use Rattle.clock_spans.specs.declared.Kept.{Kept}
use Rattle.clock_spans.specs.declared.Span.{Span}
use Rattle.clock_agreement.specs.Agreement.{agreement_of}
use Rattle.clock.specs.State.{kept_in}
use Rattle.clock.specs.Used.{too_early, used_in, newest_used, counting_at, span_of, spans_of}
use Rattle.clock.specs.Answer.{later, answer_of}
use Rattle.clock.specs.Meaning.{spans_then}
use Rattle.clock.specs.declared.Clock.{Clock}
use Rattle.laws.proofs.Upto.{upto-same}
use Rattle.clock_laws.specs.Meaning.{SameServers}

-- ---- a window that is used later was used before

module _ (drift : ℕ) (w : Kept) (a b : ℕ) (h : a ≤ b) where
  high-rises : high_at drift w a ≤ high_at drift w b
  unfolding high_at high_later most_passed
  high-rises =
      let m : (a - w.sent) * (million + drift) ≤ (b - w.sent) * (million + drift) =
      mul-le-mul_right (million + drift) (omega arith) in
      omega arith

  pub used-before : used_at drift w b ≡ true → used_at drift w a ≡ true
  unfolding used_at
  used-before u =
      let p = both (ltb 0 w.maxt) (leb (high_at drift w b / million) w.maxt) u in
      let l = leb-true (high_at drift w b / million) w.maxt p.1 in
      let k : high_at drift w a / million ≤ w.maxt = omega (arith, l, high-rises) in
      rw (p.0, le-leb (high_at drift w a / million) w.maxt k) refl

-- ---- the same windows are used

module _ (c : Clock) (a b : ℕ) (same : (i : ℕ) → i < 16 → used_in c a i ≡ used_in c b i) where
  newest-same : (n : ℕ) → n ≤ 16 → newest_used c a n ≡ newest_used c b n
  unfolding newest_used
  newest-same zero l = refl
  newest-same (suc n) l =
      ap₂ (λ (u : Bool) (m : ℕ). cond u (max m (kept_in c n).received) m) (same n l) (newest-same n (omega arith))

  window_same : (counting i : ℕ) → i < 16
      → span_at c.drift a counting (kept_in c i) ≡ span_at c.drift b counting (kept_in c i)
  unfolding span_at
  window_same counting i l =
      let w = kept_in c i in
      ap
      (λ (u : Bool).
      cond u
      (record { counted = true; low = low_at c.drift w counting; high = high_at c.drift w counting }) unknown)
      (same i l)

  server-same : (counting s : ℕ) → s < 8 → span_of c a counting s ≡ span_of c b counting s
  unfolding span_of server_span
  server-same counting s l =
      ap₂ meet (window_same counting (2 * s) (omega arith)) (window_same counting (2 * s + 1) (omega arith))

  at_same : (counting : ℕ) → spans_of c a counting ≡ spans_of c b counting
  unfolding spans_of
  at_same counting =
      upto-same (span_of c a counting) (span_of c b counting) 8 (server-same counting)

  spans-same : spans_then c a ≡ spans_then c b
  spans-same = at_same (counting_at c a) ∙ ap (spans_of c b) (newest-same 16 (omega arith))

-- ---- so the answer is the same, but for its ends

servers-same : (drift d e : ℕ) (x : Result Agreed Refusal) → SameServers (later drift d x) (later drift e x)
servers-same drift d e (Err why) = refl
servers-same drift d e (Ok a) = (refl, refl, refl)

-- a moment after one that is not before a receipt is not either
in-time-later : (c : Clock) (a b : ℕ) → a ≤ b → too_early c a ≡ false → too_early c b ≡ false
unfolding too_early
in-time-later c a b h e =
    nowhere (λ i. ltb b ((kept_in c i).received)) 16
    (λ i l.
    let k = ltb-false a ((kept_in c i).received) (nowhere-at (λ j. ltb a ((kept_in c j).received)) 16 i e l) in
    le-ltb b ((kept_in c i).received) (omega (arith, k)))

-- two tests of which each holds where the other does
same_test : (x y : Bool) → (x ≡ true → y ≡ true) → (y ≡ true → x ≡ true) → x ≡ y
same_test true y f g = sym (f refl)
same_test false true f g = g refl
same_test false false f g = refl

-- asked later, where no window that was used has passed its MAXT
pub stays : (c : Clock) (a b f : ℕ) → a ≤ b → too_early c a ≡ false
    → ((i : ℕ) → i < 16 → used_in c a i ≡ true → used_in c b i ≡ true)
    → SameServers (answer_of c a f) (answer_of c b f)
unfolding answer_of
stays c a b f h e used =
    let same =
    spans-same c a b
    (λ i l. same_test (used_in c a i) (used_in c b i) (used i l) (used-before c.drift (kept_in c i) a b h)) in
    rw (e, in-time-later c a b h e)
    (subst
    (λ (rs : List Span).
    SameServers (later c.drift (a - counting_at c a) (agreement_of (spans_then c a) f))
    (later c.drift (b - counting_at c b) (agreement_of rs f)))
    same
    (servers-same c.drift (a - counting_at c a) (b - counting_at c b) (agreement_of (spans_then c a) f)))
