-- What servers agree on, in sentences.
use Rattle.std.specs.Prelude.{◌≡◌, List, ℕ, ◌-◌, ◌≤◌, ◌<◌}
use Rattle.clock_spans.specs.Drift.{last}
use Rattle.clock_spans.specs.declared.Span.{Span}
use Rattle.clock_agreement.specs.Count.{count_of, depth_of}
use Rattle.clock_agreement.specs.Agreement.{agreed_on}
use Rattle.clock_agreement.specs.declared.Agreed.{Agreed}

-- there are more servers than may lie; the two ends lie in the spans of all but f of them, and no point below the one
-- or above the other does
pub record Agrees (spans : List Span) (f : ℕ) (a : Agreed) : Type 0 where
  pub more : f < count_of spans
  pub from_in : count_of spans - f ≤ depth_of spans a.from
  pub to_in : count_of spans - f ≤ depth_of spans a.to
  pub none_below : (x : ℕ) → x < a.from → depth_of spans x < count_of spans - f
  pub none_above : (x : ℕ) → a.to < x → x ≤ last → depth_of spans x < count_of spans - f
  pub is : a ≡ agreed_on spans a.from a.to

-- there are more servers than may lie, and no point at all lies in the spans of all but f of them
pub record Disagrees (spans : List Span) (f : ℕ) : Type 0 where
  pub more : f < count_of spans
  pub no-point : (x : ℕ) → x ≤ last → depth_of spans x < count_of spans - f
