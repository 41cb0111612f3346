-- A run that is cut out of a good pile is a good pile with its own answers, and its first rand is zero. Each of its
-- records is valid exactly where it was valid in the pile, and each after the first is linked exactly where it was
-- linked there.
use mathlib.Core.Path.{◌≡◌, sym, subst, ap, ◌∙◌}
use mathlib.Core.List.{List}
use mathlib.Core.Logic.{◌↔◌}
use Prim.Native.Nat.{ℕ, ◌+◌, ◌-◌, ◌*◌, ◌≤◌, ◌<◌}
use native.Mathlib.Omega.{arith}
use lib.ListN.{length, drop, get_or}
use lib.Seq.{get_or-take, get_or-drop}
use Rattle.laws.proofs.Pasted.{length_part}
use Rattle.pile.specs.Pile.{records_in, record_at, said_yes}
use Rattle.pile.specs.Valid.{window_at}
use Rattle.pile.specs.Meaning.{GoodPile, ValidRecord, IsLinked, ZeroRand}
use Rattle.pile_report.specs.Taking.{run_bytes, run_answers}
use Rattle.pile_report.proofs.Behind.{Alike, alike-back, same-response, valid-alike}
use Rattle.pile_report.proofs.CutBytes.{RunIn, length_run, count-run, record-later, record-alike, rand-run}

module _ {pile answers : List ℕ} {i j : ℕ} (run : RunIn pile answers i j) where
  answers-fit : 2 * j + 2 ≤ length answers
  answers-fit = omega (arith, run.inside, run.good.two)

  -- answer byte m of the run
  answer_at_lem : (m : ℕ) → m < 2 * j + 2 - 2 * i → get_or (run_answers i j answers) m 0 ≡ get_or answers (2 * i + m) 0
  answer_at_lem m h = get_or-take (2 * j + 2 - 2 * i) (drop (2 * i) answers) m 0 h ∙ get_or-drop (2 * i) answers m 0

  answer-kept : (m n : ℕ) → m < 2 * j + 2 - 2 * i → n ≡ 2 * i + m
      → said_yes (run_answers i j answers) m ≡ said_yes answers n
  unfolding said_yes
  answer-kept m n h e = rw (answer_at_lem m h, e)

  length-answers : length (run_answers i j answers) ≡ 2 * j + 2 - 2 * i
  length-answers = length_part answers (2 * i) (2 * j + 2) (omega (arith, run.order)) answers-fit

  good-run : GoodPile (run_bytes i j pile) (run_answers i j answers)
  good-run =
      let n = length_run run in
      record {
        pile-whole = record {
          exact = omega arith;
          from = omega arith;
          to = omega (arith, run.inside, run.good.pile-whole.to);
        };
        two = omega (arith, run.order, length-answers);
        one_at_most = λ m h.
            rw (answer_at_lem m (omega (arith, length-answers)))
            (run.good.one_at_most (2 * i + m) (omega (arith, length-answers, answers-fit)));
      }

  pub first-rand-run : ZeroRand (run_bytes i j pile)
  first-rand-run = record { pile-whole = good-run.pile-whole; rand = rand-run run }

  -- record k of the run, which was record m of the pile,
  module _ (k m : ℕ) (place : i + k ≡ m) (there : m ≤ j) where
    alike : Alike (record_at (run_bytes i j pile) k) (record_at pile m)
    alike =
        subst (λ (x : ℕ). Alike (record_at (run_bytes i j pile) k) (record_at pile x)) place
        (record-alike run k (omega arith))

    here : k < records_in (run_bytes i j pile)
    here = omega (arith, count-run run)

    delegation-kept : said_yes (run_answers i j answers) (2 * k) ≡ said_yes answers (2 * m)
    delegation-kept = answer-kept (2 * k) (2 * m) (omega arith) (omega arith)

    signature-kept : said_yes (run_answers i j answers) (2 * k + 1) ≡ said_yes answers (2 * m + 1)
    signature-kept = answer-kept (2 * k + 1) (2 * m + 1) (omega arith) (omega arith)

    -- has the same window,
    pub same-window : window_at (run_bytes i j pile) k ≡ window_at pile m
    same-window = rw (same-response alike)

    -- is valid exactly where that is,
    pub same-valid : ValidRecord (run_bytes i j pile) (run_answers i j answers) k ↔ ValidRecord pile answers m
    same-valid = (
      valid-alike alike delegation-kept signature-kept run.good (omega (arith, run.inside)),
      valid-alike (alike-back alike) (sym delegation-kept) (sym signature-kept) good-run here,
    )

  -- and, unless it is the first, is linked exactly where that is
  pub same-linked : (k m : ℕ) → i + k ≡ m → m ≤ j → 0 < k
      → IsLinked (record_at (run_bytes i j pile) (k - 1)) (record_at (run_bytes i j pile) k)
      ↔ IsLinked (record_at pile (m - 1)) (record_at pile m)
  same-linked k m place there z =
      let before = same-response (alike (k - 1) (m - 1) (omega arith) (omega arith)) in
      let same : record_at (run_bytes i j pile) k ≡ record_at pile m =
      record-later run k (omega arith) z ∙ ap (record_at pile) place in
      (λ l. rw (before, same) at l, λ l. rw (before, same) l)
