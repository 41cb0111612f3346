-- What the response check answers, as a struct for C.
use Rattle.check_response.specs.declared.Window.{Window}
use Rattle.refusal.specs.declared.Refusal.{Refusal}
use Rattle.std.specs.Prelude.{ℕ, List, Err, Ok, Result}
use Rattle.check_response.specs.Check.{verdict_number, verdict_at}
use Rattle.check_response.specs.declared.Checked.{Checked}
use Rattle.c_packets.specs.declared.TbVerdict.{TbVerdict}

-- a verdict, and the key beside it as it is: the check hands out zeros beside a refusal (`key-hidden`)
abbrev pub verdict_with : Result Window Refusal → List ℕ → TbVerdict
verdict_with (Ok w) key =
    record {
      code = verdict_number (Ok w);
      radi = w.radi;
      at = verdict_at (Ok w);
      midp = w.midp;
      low = w.low;
      high = w.high;
      mint = w.mint;
      maxt = w.maxt;
      pubk = key;
    }
verdict_with (Err why) key =
    record {
      code = verdict_number (Err why);
      radi = 0;
      at = verdict_at (Err why);
      midp = 0;
      low = 0;
      high = 0;
      mint = 0;
      maxt = 0;
      pubk = key;
    }

abbrev pub tb_verdict : Checked → TbVerdict
tb_verdict c = verdict_with c.verdict c.pubk
