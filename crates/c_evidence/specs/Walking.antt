-- What the measuring walk answers, as structs for C.
use Rattle.refusal.specs.declared.Refusal.{Refusal}
use Rattle.std.specs.Prelude.{cond, ℕ, eqb, Err, Ok, Result}
use Rattle.check_response.specs.declared.Window.{Window}
use Rattle.walk.specs.Taking.{said_number, said_at}
use Rattle.wire_packet.specs.Blank.{zeros32}
use Rattle.walk.specs.declared.Asked.{Asked}
use Rattle.walk.specs.declared.Said.{Said}
use Rattle.walk.specs.declared.Said.TheVariants.{Next, Ended}
use Rattle.c_evidence.specs.declared.TbAsked.{TbAsked}
use Rattle.c_evidence.specs.declared.TbTook.{TbTook}

-- what is asked next; beside a refusal stand zeros
abbrev pub tb_asked : Result Asked Refusal → TbAsked
tb_asked (Ok a) = record { code = 0; server = a.server; nonce = a.nonce }
tb_asked (Err why) = record { code = why.code; server = 0; nonce = zeros32 }

-- an accepted response: how the walk stands, the two records that are named, or zeros, and the response's window. How
-- the walk stands: 0 nothing is said, which stands beside a refusal alone (`nothing_said`); 1 it goes on, 2 consistent,
-- 3 malfeasance, 4 the pile is not what the walk wrote.
abbrev pub stands_at : ℕ → Window → ℕ → ℕ → TbTook
stands_at outcome v first second =
    record {
      code = 0;
      outcome = outcome;
      at = 0;
      first = first;
      second = second;
      midp = v.midp;
      low = v.low;
      high = v.high;
      mint = v.mint;
      maxt = v.maxt;
      radi = v.radi;
    }

-- the last one, by what the report check says of the pile: a pair, 18, or another refusal
abbrev pub end_told : Window → Result (ℕ × ℕ) (Refusal × ℕ) → TbTook
end_told v (Ok (i, j)) = stands_at 3 v i j
end_told v (Err (why, k)) = stands_at (cond (eqb why.code 18) 2 4) v 0 0

-- the answer on a response; beside a refusal stand zeros
abbrev pub tb_took : Result Said Refusal → TbTook
tb_took (Ok (Next v)) = stands_at 1 v 0 0
tb_took (Ok (Ended v r)) = end_told v r
tb_took (Err why) =
    record {
      code = said_number (Err why);
      outcome = 0;
      at = said_at (Err why);
      first = 0;
      second = 0;
      midp = 0;
      low = 0;
      high = 0;
      mint = 0;
      maxt = 0;
      radi = 0;
    }
