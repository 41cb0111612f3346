-- What all but f of the servers that are counted agree on.
use Rattle.refusal.specs.declared.Refusal.{Refusal}
use Rattle.std.specs.Prelude.{cond, List, ℕ, ◌-◌, leb, Err, Ok, Result}
use Rattle.laws.specs.Least.{somewhere}
use Rattle.refusal.specs.Refusal.{refusal}
use Rattle.clock_spans.specs.declared.Span.{Span}
use Rattle.clock_agreement.specs.Many.{set_of}
use Rattle.clock_agreement.specs.Count.{points, count_of, enough, lowest_of, highest_of, agreeing, suspect}
use Rattle.clock_agreement.specs.declared.Agreed.{Agreed}

-- who agrees with the time from one point to another, and who is suspect
abbrev pub agreed_on : List Span → ℕ → ℕ → Agreed
agreed_on spans from to =
    record {
      from = from;
      to = to;
      counted = count_of spans;
      agree = set_of (agreeing spans from to) 8;
      suspects = set_of (suspect spans from to) 8;
    }

-- from the least to the greatest point that lies in n spans
abbrev pub agreed_by : List Span → ℕ → Agreed
agreed_by spans n = agreed_on spans (lowest_of spans n) (highest_of spans n)

-- 33: no more servers are counted than may lie; 34: no point lies in the spans of all but f of them
unfoldable pub agreement_of : List Span → ℕ → Result Agreed Refusal
agreement_of spans f =
    cond (leb (count_of spans) f) (Err (refusal 33))
    (cond (somewhere (enough spans (count_of spans - f)) points) (Ok (agreed_by spans (count_of spans - f)))
    (Err (refusal 34)))

-- its number: 0 where they agree
abbrev pub number : Result Agreed Refusal → ℕ
number (Err why) = why.code
number (Ok a) = 0
