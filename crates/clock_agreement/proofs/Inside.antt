-- When a point lies in a span.
use mathlib.Core.Path.{◌≡◌, sym, ◌∙◌}
use mathlib.Core.Bool.{true, false, true≢false}
use Prim.Native.Nat.{ℕ, suc, ◌≤◌, ◌<◌}
use native.Mathlib.Omega.{arith, by_contra}
use lib.Dec.{leb}
use borrow.Author.Tests.{le-leb, leb-true}
use Rattle.laws.proofs.Holds.{both}
use Rattle.clock_spans.specs.declared.Span.{Span}
use Rattle.clock_agreement.specs.Count.{in_span}

pub record Inside (x : ℕ) (r : Span) : Type 0 where
  pub counted : r.counted ≡ true
  pub from : r.low ≤ x
  pub to : x ≤ r.high

pub inside : (x : ℕ) (r : Span) → in_span x r ≡ true → Inside x r
inside x r e =
    let h = both r.counted _ e in
    let k = both (leb r.low x) (leb x r.high) h.1 in
    record { counted = h.0; from = leb-true _ _ k.0; to = leb-true _ _ k.1 }

pub lies_in : {x : ℕ} {r : Span} → Inside x r → in_span x r ≡ true
lies_in {x} {r} i = simp (i.counted, le-leb r.low x i.from, le-leb x r.high i.to)

-- a span that holds x, and not the point before it, starts at x
pub starts : (j : ℕ) (r : Span) → in_span (suc j) r ≡ true → in_span j r ≡ false → r.low ≡ suc j
starts j r e n =
    let i = inside (suc j) r e in
    let k : j < r.low =
    by_contra (suc j) r.low (λ l.
    let h : Inside j r = record { counted = i.counted; from = omega arith; to = omega (arith, i.to) } in
    true≢false (sym (lies_in h) ∙ n)) in
    omega (arith, i.from)

-- one that holds x, and not the point behind it, ends at x
pub ends : (x : ℕ) (r : Span) → in_span x r ≡ true → in_span (suc x) r ≡ false → r.high ≡ x
ends x r e n =
    let i = inside x r e in
    let k : r.high ≤ x =
    by_contra r.high x (λ l.
    let h : Inside (suc x) r = record { counted = i.counted; from = omega (arith, i.from); to = l } in
    true≢false (sym (lies_in h) ∙ n)) in
    omega (arith, i.to)
