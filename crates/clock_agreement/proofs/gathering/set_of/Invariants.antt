-- `clock_agreement::gathering::set_of` meets its contract.
use Rattle.std.proofs.Common.{◌≡◌, Bool, ◌≤◌, ◌<◌, ◌^◌}
use Rattle.clock_spans.specs.declared.Span.{Span}
use Rattle.clock_agreement.specs.Count.{span_in}
use Rattle.clock_agreement.specs.Many.{set_of}
use Rattle.clock_agreement.proofs.gathering.set_of.Given as goal

abbrev pub invariant-loop-s : goal.invariant-loop-s
invariant-loop-s g l = record {
  within : l.s ≤ 8;
  below : l.set < 2 ^ l.s;
  is : (p : Span → Bool) → ((r : Span) (b : Bool) → goal.F-post g l.test r b → b ≡ p r)
      → l.set ≡ set_of (λ k. p (span_in l.fn.spans k)) l.s;
}
