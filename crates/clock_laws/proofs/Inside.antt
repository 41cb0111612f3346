-- The true time at the moment of counting lies in the span of every honest server.
use mathlib.Core.Path.{◌≡◌, refl, sym, subst}
use mathlib.Core.Bool.{Bool, true, false, cond}
use Prim.Native.Nat.{ℕ, zero, suc, ◌+◌, ◌*◌, ◌-◌, ◌/◌, ◌≤◌, ◌<◌, min, max}
use native.Mathlib.Nat.{eq-or-lt_of_le, le_of_suc-le-suc}
use mathlib.Core.Logic.{⊎_elim}
use native.Mathlib.Omega.{arith}
use lib.Dec.{leb, ltb}
use borrow.Author.Tests.{ltb-true, ltb-false}
use lib.ListN.{get_or}
use Rattle.laws.proofs.Holds.{both}
use Rattle.laws.proofs.Least.{nowhere-at}
use Rattle.clock_spans.specs.Drift.{million, last, least_passed, most_passed, low_later, high_later}
use Rattle.clock_spans.specs.Spans.{low_at, high_at, used_at, unknown, span_at, server_span}
use Rattle.clock_spans.specs.declared.Kept.{Kept}
use Rattle.clock_spans.specs.declared.Span.{Span}
use Rattle.clock_agreement.specs.Count.{span_in, in_span}
use Rattle.clock_agreement.proofs.Inside.{lies_in}
use Rattle.clock.specs.State.{newest, older, kept_in}
use Rattle.clock.specs.Used.{too_early, used_in, newest_used, counting_at, span_of, spans_of}
use Rattle.clock.specs.Meaning.{spans_then}
use Rattle.clock.specs.declared.Clock.{Clock}
use Rattle.clock.proofs.Places.{at-server}
use Rattle.clock_laws.specs.Truth.{Within, IsTrue, Story}

-- what can be told of a time: it stops at the last microsecond
abbrev pub told : ℕ → ℕ
told now = min now (last * million)

-- a time, in millionths of a microsecond, between the ends of a span
pub record Between (now : ℕ) (r : Span) : Type 0 where
  pub from : r.low * million ≤ now
  pub to : now ≤ r.high * million

-- ---- an end goes on as the true time does

module _ {drift : ℕ} {T : ℕ → ℕ} (w : Within drift T) (a b : ℕ) (h : a ≤ b) where
  pub low-later : (x : ℕ) → x * million ≤ T a → low_later drift x (b - a) * million ≤ told (T b)
  unfolding low_later least_passed
  low-later x e = let l = w.least a b h in omega arith

  pub high-later : (x : ℕ) → told (T a) ≤ x * million → told (T b) ≤ high_later drift x (b - a) * million
  unfolding high_later most_passed
  high-later x e = let l = w.most a b h in omega arith

-- ---- a window that is true, at a moment t after it was received

module _ {drift : ℕ} {T : ℕ → ℕ} (w : Within drift T) (t : ℕ) (k : Kept) (y : IsTrue T k) (h : k.received ≤ t) where
  window-low : low_at drift k t * million ≤ told (T t)
  unfolding low_at
  window-low =
      let a = w.least y.moment k.received y.before-received in
      low-later w k.received t h (k.low * million) (omega (arith, a, y.from))

  window-high : told (T t) ≤ high_at drift k t * million
  unfolding high_at
  window-high =
      let a = w.least k.sent y.moment y.after-sent in
      high-later w k.sent t (omega (arith, y.after-sent, y.before-received)) (k.high * million)
      (omega (arith, a, y.to))

-- ---- a server

-- a window that is used is one, and what is not used says nothing
module _ {drift : ℕ} {T : ℕ → ℕ} (w : Within drift T) (t counting : ℕ) where
  window-in : (k : Kept) → (0 < k.maxt → IsTrue T k)
      → (used_at drift k t ≡ true → k.received ≤ counting) → Between (told (T counting)) (span_at drift t counting k)
  unfolding span_at used_at
  window-in k y h = by (used_at drift k t) refl
    where
      by : (b : Bool) → used_at drift k t ≡ b
          → Between (told (T counting))
          (cond b (record { counted = true; low = low_at drift k counting; high = high_at drift k counting }) unknown)
      by true u =
          let p = both (ltb 0 k.maxt) (leb (high_at drift k t / million) k.maxt) u in
          let z = y (ltb-true 0 k.maxt p.0) in
          record { from = window-low w counting k z (h u); to = window-high w counting k z (h u) }
      by false u = record { from = omega arith; to = omega arith }

  server-in : (a b : Kept) → (0 < a.maxt → IsTrue T a) → (0 < b.maxt → IsTrue T b)
      → (used_at drift a t ≡ true → a.received ≤ counting) → (used_at drift b t ≡ true → b.received ≤ counting)
      → Between (told (T counting)) (server_span drift t counting a b)
  unfolding server_span
  server-in a b p q u v =
      let x = window-in a p u in
      let y = window-in b q v in
      record { from = omega (arith, x.from, y.from); to = omega (arith, x.to, y.to) }

-- ---- the moment of counting is not before the receipt of a window that is used, nor after the moment that is asked
-- about

module _ (c : Clock) (t : ℕ) where
  newest-most : (n i : ℕ) → i < n → used_in c t i ≡ true → (kept_in c i).received ≤ newest_used c t n
  unfolding newest_used
  newest-most zero i l u = absurd (omega arith)
  newest-most (suc n) i l u =
      ⊎_elim (λ e. rw (← e, u) (omega arith)) (λ m. further (used_in c t n) (newest-most n i m u))
      (eq-or-lt_of_le (le_of_suc-le-suc l))
    where
      further : (b : Bool) → (kept_in c i).received ≤ newest_used c t n
          → (kept_in c i).received ≤ cond b (max (newest_used c t n) (kept_in c n).received) (newest_used c t n)
      further true h = omega arith
      further false h = h

  module _ (in-time : too_early c t ≡ false) where
    pub received-by : (i : ℕ) → i < 16 → (kept_in c i).received ≤ t
    unfolding too_early
    received-by i l = ltb-false t _ (nowhere-at (λ k. ltb t ((kept_in c k).received)) 16 i in-time l)

    newest-by : (n : ℕ) → n ≤ 16 → newest_used c t n ≤ t
    unfolding newest_used
    newest-by zero l = omega arith
    newest-by (suc n) l = by (used_in c t n) (newest-by n (omega arith)) (received-by n l)
      where
        by : (b : Bool) → newest_used c t n ≤ t → (kept_in c n).received ≤ t
            → cond b (max (newest_used c t n) (kept_in c n).received) (newest_used c t n) ≤ t
        by true h k = omega arith
        by false h k = h

    pub counted-by : counting_at c t ≤ t
    counted-by = newest-by 16 (omega arith)

-- ---- of the state

-- the true time lies in the span of each honest server
pub honest-in : {c : Clock} {T : ℕ → ℕ} {lies : ℕ → Bool} → Story c T lies → (t s : ℕ) → s < 8 → lies s ≡ false
    → Between (told (T (counting_at c t))) (span_in (spans_then c t) s)
unfolding span_of
honest-in {c} {T} y t s h n =
    let g = y.honest s h n in
    subst (λ (r : Span). Between (told (T (counting_at c t))) r) (sym (at-server c t (counting_at c t) s h))
    (server-in y.drift t (counting_at c t) (newest c s) (older c s) g.now g.then
    (newest-most c t 16 (2 * s) (omega arith)) (newest-most c t 16 (2 * s + 1) (omega arith)))

-- ---- points

-- the whole microsecond at or before a time, and the one at or after it
abbrev pub before : ℕ → ℕ
before now = now / million

abbrev pub behind : ℕ → ℕ
behind now = (now + (million - 1)) / million

-- both lie in a span that the time lies in
module _ {now : ℕ} {r : Span} (h : r.counted ≡ true) (b : Between now r) where
  pub before-in : in_span (before now) r ≡ true
  before-in =
      lies_in {x = before now} {r = r}
      (record { counted = h; from = omega (arith, b.from); to = omega (arith, b.to) })

  pub behind-in : in_span (behind now) r ≡ true
  behind-in =
      lies_in {x = behind now} {r = r}
      (record { counted = h; from = omega (arith, b.from); to = omega (arith, b.to) })
