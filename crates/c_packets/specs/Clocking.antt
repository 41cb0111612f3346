-- The windows of a clock, which cross to C as five arrays, and the time at a moment as a struct for C.
use Rattle.clock.specs.declared.Time.{Time}
use Rattle.refusal.specs.declared.Refusal.{Refusal}
use Rattle.std.specs.Prelude.{ℕ, List, get_or, map, Err, Ok, Result}
use Rattle.laws.specs.Upto.{upto}
use Rattle.clock_spans.specs.declared.Kept.{Kept}
use Rattle.clock.specs.Answer.{number}
use Rattle.c_packets.specs.Reading.{flag_of}
use Rattle.c_packets.specs.declared.clocking.Columns.{Columns}
use Rattle.c_packets.specs.declared.TbTime.{TbTime}

-- window i of the five
abbrev pub row_of : Columns → ℕ → Kept
row_of k i =
    record {
      low = get_or k.low i 0;
      high = get_or k.high i 0;
      maxt = get_or k.maxt i 0;
      sent = get_or k.sent i 0;
      received = get_or k.received i 0;
    }

-- all of them
abbrev pub rows_of : Columns → List Kept
rows_of k = upto (row_of k) 16

-- and the five of windows
abbrev pub columns_of : List Kept → Columns
columns_of ws =
    record {
      low = map (λ w. w.low) ws;
      high = map (λ w. w.high) ws;
      maxt = map (λ w. w.maxt) ws;
      sent = map (λ w. w.sent) ws;
      received = map (λ w. w.received) ws;
    }

abbrev pub tb_time : Result Time Refusal → TbTime
tb_time (Ok t) =
    record {
      code = number (Ok t);
      stopped = flag_of t.stopped;
      low = t.low;
      high = t.high;
      counted = t.counted;
      agree = t.agree;
      suspects = t.suspects;
    }
tb_time (Err why) =
    record {
      code = number (Err why);
      stopped = 0;
      low = 0;
      high = 0;
      counted = 0;
      agree = 0;
      suspects = 0;
    }
