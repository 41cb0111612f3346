-- What the program says of a pile (document 01, "Examples"), as the bytes of its lines.
use Rattle.check_response.specs.declared.Window.{Window}
use Rattle.refusal.specs.declared.Refusal.{Refusal}
use Rattle.std.specs.Prelude.{cond, List, [], ◌++◌, ℕ, zero, suc, eqb, Err, Ok, Result}
use Rattle.laws.specs.Ascii.{ascii}
use Rattle.pile.specs.Pile.{records_in}
use Rattle.pile_report.specs.Report.{judged}
use Rattle.console_lines.specs.Line.{count_line, refused_line, record_line, run_line}

-- the first n records, which have the verdicts v
unfoldable pub record_lines : (ℕ → Result Window Refusal) → ℕ → List ℕ
record_lines v zero = []
record_lines v (suc n) = record_lines v n ++ record_line n (v n)

-- the count and a line for each record
abbrev pub records_text : List ℕ → List ℕ → List ℕ
records_text pile answers = count_line (records_in pile) ++ record_lines (judged pile answers) (records_in pile)

-- all of it, where the cutter answers this: without a run, 18, or a refusal. 19 it never answers, as the program lends
-- it room for sixteen records and 15 comes before
abbrev pub verdict_text : List ℕ → List ℕ → Result (ℕ × ℕ) Refusal → List ℕ
verdict_text pile answers (Ok (i, j)) = records_text pile answers ++ run_line i j
verdict_text pile answers (Err why) =
    cond (eqb why.code 18) (records_text pile answers ++ ascii "run none\n") (refused_line why.code)
