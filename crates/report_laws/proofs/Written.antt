-- What is written is a report in 8.4.1's words, of 1 to 16 entries and with no packet above 2,000 bytes: the text of a
-- pile that the check accepts, and the text that is cut from a text.
use Rattle.std.specs.Prelude.{Ok}
use Prim.Native.Nat.{ℕ, ◌+◌, ◌*◌, ◌-◌, ◌≤◌}
use mathlib.Core.List.{List, ◌++◌}
use native.Mathlib.Omega.{arith}
use lib.ListN.{length, take, drop, replicate}
use Rattle.laws.specs.Bytes.{Bytes}
use Rattle.laws.specs.Pasted.{part, pasted}
use Rattle.laws.proofs.Bytes.{bytes_take, bytes_drop}
use Rattle.pile.specs.Pile.{records_in}
use Rattle.pile_report.specs.Report.{Reports}
use Rattle.pile_report.specs.Taking.{run_bytes}
use Rattle.pile_report.proofs.CutBytes.{length_run, count-run}
use Rattle.pile_report.proofs.CutStands.{taken-run, cut-names}
use Rattle.report_write.specs.Entries.{text_of}
use Rattle.report_write.proofs.RoundTrip.{report-back}
use Rattle.report_text.specs.Forwarded.{Forwards, pile_of, forwarded_bytes}
use Rattle.report_laws.specs.Reported.{Readable}
use Rattle.report_laws.proofs.Bytes.{append-bytes, zero-bytes, text-bytes}
use Rattle.report_laws.proofs.Codes.{read-exactly}
use Rattle.report_laws.proofs.CutText.{run-text, text-was-cut}

-- of a pile,
pub written-is-report : (pile answers : List ℕ) (i j room : ℕ) → Bytes pile → Reports pile answers (Ok (i, j))
    → length pile ≤ room → Readable (text_of pile) room (records_in pile)
written-is-report pile answers i j room bytes r fits =
    (read-exactly (text_of pile) room (records_in pile)).0 (report-back pile answers i j room bytes r fits).0

zeroed-bytes : (l : List ℕ) → Bytes l → Bytes (pasted l 32 (replicate 32 0))
unfolding pasted
zeroed-bytes l b =
    append-bytes (take 32 l) (replicate 32 0 ++ drop 64 l) (bytes_take l b 32)
    (append-bytes (replicate 32 0) (drop 64 l) (zero-bytes 32) (bytes_drop l b 64))

pub run-bytes : (i j : ℕ) (pile : List ℕ) → Bytes pile → Bytes (run_bytes i j pile)
unfolding run_bytes
run-bytes i j pile b =
    zeroed-bytes (part (4096 * i) (4096 * j + 4096) pile)
    (bytes_take (drop (4096 * i) pile) (bytes_drop pile b (4096 * i)) (4096 * j + 4096 - 4096 * i))

-- and of a text: as many entries as the run has records
pub cut-is-report-text : (text answers : List ℕ) (room i j n : ℕ) → Forwards text answers room (Ok (i, j, n))
    → Readable (forwarded_bytes (Ok (i, j, n)) (pile_of text)) 65536 (j - i + 1)
cut-is-report-text text answers room i j n f =
    let t = (text-was-cut text answers room i j n f).0 in
    let b = text-bytes text in
    let run = taken-run (pile_of text) answers b _ i j t in
    let l = length_run run in
    let c = count-run run in
    let w =
    written-is-report (run_bytes i j (pile_of text)) _ 0 (j - i) 65536 (run-bytes i j (pile_of text) b)
    (cut-names (pile_of text) answers b _ i j t)
    (omega (arith, l, run.inside, run.good.pile-whole.to)) in
    rw (c, run-text (pile_of text) answers b i j t) at w
