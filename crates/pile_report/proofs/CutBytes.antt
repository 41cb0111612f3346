-- The records of a run that is cut out: record k of it is record i + k of the pile, but that the first one's rand is
-- zero.
use mathlib.Core.Path.{◌≡◌, sym, ap, ◌∙◌}
use mathlib.Core.List.{List}
use Prim.Native.Nat.{ℕ, zero, suc, ◌+◌, ◌-◌, ◌*◌, ◌≤◌, ◌<◌}
use native.Mathlib.Nat.{add-zero}
use native.Mathlib.Omega.{arith}
use lib.ListN.{length, take, drop, get_or, replicate, length-take, length-drop, get_or-replicate}
use lib.Seq.{take-take, take_all, drop-drop}
use Rattle.laws.specs.Pasted.{part, pasted}
use Rattle.laws.proofs.Pasted.{length_part, length-pasted}
use Rattle.pile.specs.Pile.{records_in, record_at}
use Rattle.pile.specs.Meaning.{GoodPile}
use Rattle.pile_report.specs.Taking.{run_bytes}
use Rattle.pile_report.proofs.Behind.{Alike}
use Rattle.laws.proofs.Pieces.{drop-take, pasted-within, pasted-behind, take-of-pasted, pasted-again}

-- the records i to j as they stand in the pile
abbrev pub standing : ℕ → ℕ → List ℕ → List ℕ
standing i j pile = part (4096 * i) (4096 * j + 4096) pile

-- the run is that of records i to j of a good pile
pub record RunIn (pile answers : List ℕ) (i j : ℕ) : Type 0 where
  pub good : GoodPile pile answers
  pub order : i ≤ j
  pub inside : j < records_in pile

module _ {pile answers : List ℕ} {i j : ℕ} (run : RunIn pile answers i j) where
  fits : 4096 * j + 4096 ≤ length pile
  fits = omega (arith, run.inside, run.good.pile-whole.exact)

  length-standing : length (standing i j pile) ≡ 4096 * (j - i + 1)
  length-standing =
      length_part pile (4096 * i) (4096 * j + 4096) (omega (arith, run.order)) fits ∙ omega (arith, run.order)

  holds-rand : 32 ≤ length (standing i j pile)
  holds-rand = omega (arith, length-standing)

  -- it has j - i + 1 records
  pub length_run : length (run_bytes i j pile) ≡ 4096 * (j - i + 1)
  unfolding run_bytes
  length_run = length-pasted (standing i j pile) (replicate 32 0) 32 (omega (arith, length-standing)) ∙ length-standing

  pub count-run : records_in (run_bytes i j pile) ≡ j - i + 1
  count-run = omega (arith, length_run)

  -- record k of the records as they stand
  record-standing : (k : ℕ) → k ≤ j - i → record_at (standing i j pile) k ≡ record_at pile (i + k)
  unfolding record_at
  record-standing k there =
      let long : ℕ = 4096 * j + 4096 - 4096 * i in
      let e : long ≡ 4096 * k + (long - 4096 * k) = omega arith in
      let f : 4096 * i + 4096 * k ≡ 4096 * (i + k) = omega arith in
      ap (λ (x : ℕ). take 4096 (drop (4096 * k) (take x (drop (4096 * i) pile)))) e
      ∙ ap (take 4096) (drop-take (4096 * k) (long - 4096 * k) (drop (4096 * i) pile))
      ∙ take-take 4096 (long - 4096 * k) (drop (4096 * k) (drop (4096 * i) pile)) (omega arith)
      ∙ ap (take 4096) (drop-drop (4096 * k) (4096 * i) pile ∙ ap (λ (x : ℕ). drop x pile) f)

  -- the first record of the run is record i with its rand set to zero,
  pub record-first : record_at (run_bytes i j pile) 0 ≡ pasted (record_at pile i) 32 (replicate 32 0)
  unfolding record_at run_bytes
  record-first =
      take-of-pasted (standing i j pile) (replicate 32 0) 32 holds-rand 4096 (omega arith)
      ∙ ap (λ (r : List ℕ). pasted r 32 (replicate 32 0))
      (record-standing 0 (omega arith) ∙ ap (record_at pile) (add-zero i))

  -- and every later one is the pile's
  pub record-later : (k : ℕ) → k ≤ j - i → 0 < k → record_at (run_bytes i j pile) k ≡ record_at pile (i + k)
  unfolding record_at run_bytes
  record-later k there z =
      ap (take 4096) (pasted-behind (standing i j pile) (replicate 32 0) 32 holds-rand (4096 * k) (omega arith))
      ∙ record-standing k there

  record-holds-rand : 32 ≤ length (record_at pile i)
  unfolding record_at
  record-holds-rand = simp (length-take, length-drop) (omega arith)

  -- so that each is alike behind the rand,
  pub record-alike : (k : ℕ) → k ≤ j - i → Alike (record_at (run_bytes i j pile) k) (record_at pile (i + k))
  record-alike zero there = record {
    behind =
        ap (drop 64) record-first
        ∙ pasted-behind (record_at pile i) (replicate 32 0) 32 record-holds-rand 64 (omega arith)
        ∙ ap (λ (x : ℕ). drop 64 (record_at pile x)) (sym (add-zero i));
  }
  record-alike (suc k) there = record { behind = ap (drop 64) (record-later (suc k) there (omega arith)) }

  -- the first rand is zero,
  pub rand-run : (m : ℕ) → 32 ≤ m → m < 64 → get_or (record_at (run_bytes i j pile) 0) m 0 ≡ 0
  rand-run m h l =
      let e : m ≡ 32 + (m - 32) = omega arith in
      ap (λ (r : List ℕ). get_or r m 0) record-first
      ∙ ap (λ (x : ℕ). get_or (pasted (record_at pile i) 32 (replicate 32 0)) x 0) e
      ∙ pasted-within (record_at pile i) (replicate 32 0) 32 record-holds-rand (m - 32) (omega arith)
      ∙ get_or-replicate 32 (m - 32) 0 0 (omega arith)

  -- and the whole run, cut out again, has the same bytes
  pub same_bytes : run_bytes 0 (j - i) (run_bytes i j pile) ≡ run_bytes i j pile
  unfolding run_bytes
  same_bytes =
      ap (λ (l : List ℕ). pasted l 32 (replicate 32 0))
      (take_all (4096 * (j - i) + 4096 - 0) (run_bytes i j pile) (omega (arith, length_run)))
      ∙ pasted-again (standing i j pile) (replicate 32 0) 32 holds-rand
