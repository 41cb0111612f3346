-- The theorems are not empty: a clock can go wrong by all of its drift, either way; and no end of a window's span could
-- be moved by a whole microsecond, since a true time, with the window true, comes within one of it.
use mathlib.Core.Path.{◌≡◌, ap, ◌∙◌}
use Prim.Native.Nat.{ℕ, ◌+◌, ◌*◌, ◌-◌, ◌≤◌, ◌<◌}
use native.Mathlib.Nat.{add-mul, mul-le-mul_left}
use native.Mathlib.Omega.{arith}
use Rattle.clock_spans.specs.Drift.{million, last, least_passed, most_passed, low_later, high_later}
use Rattle.clock_spans.specs.Spans.{low_at, high_at}
use Rattle.clock_spans.specs.declared.Kept.{Kept}
use Rattle.clock_laws.specs.Truth.{Within, IsTrue}

-- a true time that goes on by `rate` millionths of a microsecond in each microsecond of the host's clock
abbrev pub steady : ℕ → ℕ → ℕ → ℕ
steady k rate a = k + a * rate

-- what it goes on by from a to b
steps : (a b rate : ℕ) → a ≤ b → b * rate ≡ a * rate + (b - a) * rate
steps a b rate h = ap (λ (x : ℕ). x * rate) (omega arith) ∙ add-mul a (b - a) rate

pub steady-within : (k rate drift : ℕ) → million - drift ≤ rate → rate ≤ million + drift
    → Within drift (steady k rate)
steady-within k rate drift l u = record {
  least = λ a b h.
      let m : (b - a) * (million - drift) ≤ (b - a) * rate = mul-le-mul_left (b - a) l in
      omega (arith, steps a b rate h, m);
  most = λ a b h.
      let m : (b - a) * rate ≤ (b - a) * (million + drift) = mul-le-mul_left (b - a) u in
      omega (arith, steps a b rate h, m);
}

-- Of a window that was true as it was received, at its low end, on a host whose clock was started after 1970 by it: the
-- slowest true time is less than a microsecond above the low end of its span.
module _ (drift t : ℕ) (w : Kept) (order : w.sent ≤ w.received) (ends : w.low ≤ w.high) (h : w.received ≤ t) where
  module _ (booted : w.received * (million - drift) ≤ w.low * (million * million)) where
    abbrev slow : ℕ → ℕ
    slow = steady (w.low * (million * million) - w.received * (million - drift)) (million - drift)

    slow-true : IsTrue slow w
    slow-true = record {
      moment = w.received;
      after-sent = order;
      before-received = omega arith;
      from = omega arith;
      to = omega arith;
    }

    slow-near : w.low * million + least_passed drift (t - w.received) < last
        → slow t < (low_at drift w t + 1) * million
    unfolding low_at low_later least_passed
    slow-near l = omega (arith, steps w.received t (million - drift) h)

    pub low-possible : w.low * million + least_passed drift (t - w.received) < last
        → Within drift slow × IsTrue slow w × (slow t < (low_at drift w t + 1) * million)
    low-possible l =
        (steady-within _ (million - drift) drift (omega arith) (omega arith), slow-true, slow-near l)

  -- and the fastest, of one that was true as it was asked for, at its high end, less than a microsecond below the high
  -- end
  module _ (booted : w.sent * (million + drift) ≤ w.high * (million * million)) where
    abbrev fast : ℕ → ℕ
    fast = steady (w.high * (million * million) - w.sent * (million + drift)) (million + drift)

    fast-true : IsTrue fast w
    fast-true = record {
      moment = w.sent;
      after-sent = omega arith;
      before-received = order;
      from = omega arith;
      to = omega arith;
    }

    fast-near : high_at drift w t * million < fast t + million
    unfolding high_at high_later most_passed
    fast-near = omega (arith, steps w.sent t (million + drift) (omega arith))

    pub high-possible : Within drift fast × IsTrue fast w × (high_at drift w t * million < fast t + million)
    high-possible =
        (steady-within _ (million + drift) drift (omega arith) (omega arith), fast-true, fast-near)

-- Why the true time is not counted in whole microseconds: a clock whose every microsecond is between 1 - drift and 1 +
-- drift of them, the drift below a million parts, could not drift at all.
pub whole-stuck : (drift before after : ℕ) → drift < million → million * before + (million - drift) ≤ million * after
    → million * after ≤ million * before + (million + drift) → after ≡ before + 1
whole-stuck drift before after h l u = omega arith
