-- The windows of a state one after the other, and the spans of the eight servers.
use mathlib.Core.Path.{◌≡◌, refl, sym, ap, subst, ◌∙◌}
use mathlib.Core.Bool.{Bool, true, false, cond}
use mathlib.Core.List.{List, [], ◌∷◌}
use Prim.Native.Nat.{ℕ, zero, suc, ◌+◌, ◌≤◌, ◌<◌, max}
use native.Mathlib.Omega.{arith}
use Rattle.std.proofs.Common.{length, take, map}
use Rattle.std.proofs.Math.Seq.{take-length}
use Rattle.std.specs.List.{fold}
use Rattle.std.proofs.lemmas.List.Sums.{fold_more}
use Rattle.laws.proofs.Upto.{upto-at}
use Rattle.clock_spans.specs.Spans.{used_at}
use Rattle.clock_spans.specs.declared.Kept.{Kept}
use Rattle.clock_agreement.specs.Count.{span_in}
use Rattle.clock.specs.State.{no_window, kept_in}
use Rattle.clock.specs.Used.{newest_used, span_of, spans_of}
use Rattle.clock.specs.declared.Clock.{Clock}

-- the span in the list is that of the server
pub at-server : (c : Clock) (t counting s : ℕ) → s < 8 → span_in (spans_of c t counting) s ≡ span_of c t counting s
unfolding spans_of
at-server c t counting s h = upto-at (span_of c t counting) 8 s (record { counted = false; low = 0; high = 0 }) h

-- ---- the newest receipt: what is found along the windows is what is found place by place

module _ (c : Clock) (t : ℕ) where
  abbrev used : Kept → Bool
  used w = used_at c.drift w t

  abbrev turn : ℕ → Kept → ℕ
  turn a w = cond (used w) (max a w.received) a

  abbrev receipts : List Kept → List ℕ
  receipts ws = map (λ w. cond (used w) w.received 0) ws

  same_turn : (a : ℕ) (w : Kept) → max a (cond (used w) w.received 0) ≡ turn a w
  same_turn a w = by (used w)
    where
      by : (u : Bool) → max a (cond u w.received 0) ≡ cond u (max a w.received) a
      by true = refl
      by false = omega arith

  mapped : (a : ℕ) (ws : List Kept) → fold (λ n x. max n x) a (receipts ws) ≡ fold turn a ws
  mapped a [] = refl
  mapped a (w ∷ ws) =
      ap (λ (b : ℕ). fold (λ n x. max n x) b (receipts ws)) (same_turn a w) ∙ mapped (turn a w) ws

  front : (k : ℕ) → k ≤ length c.kept → newest_used c t k ≡ fold turn 0 (take k c.kept)
  unfolding newest_used
  front zero h = refl
  front (suc k) h =
      let one : k + 1 ≡ suc k = omega arith in
      ap (λ (a : ℕ). turn a (kept_in c k)) (front k (omega arith))
      ∙ subst
      (λ (j : ℕ). turn (fold turn 0 (take k c.kept)) (kept_in c k) ≡ fold turn 0 (take j c.kept)) one
      (sym (fold_more turn 0 c.kept k no_window (omega arith)))

  pub newest-along : {r : ℕ} → length c.kept ≡ 16
      → r ≡ fold (λ n x. max n x) 0 (receipts c.kept) → r ≡ newest_used c t 16
  newest-along long e =
      e ∙ mapped 0 c.kept ∙ ap (fold turn 0) (sym (take-length c.kept)) ∙ sym (front (length c.kept) (omega arith))
      ∙ ap (newest_used c t) long
