-- Document 01's examples 1 to 7, as far as they are about windows, through both checks: every pair, and the one pass,
-- in whole numbers and as the state goes.
use Rattle.std.specs.Prelude.{◌≡◌, Bool, true, false, List, [], ◌∷◌, ℕ, ◌-◌, ◌^◌, length, Err, Ok, Result}
use Rattle.refusal.specs.declared.Refusal.{Refusal}
use Rattle.check_response.specs.Window.{window_of}
use Rattle.check_response.specs.declared.Window.{Window}
use Rattle.pile_runs.specs.Convict.{verdict_in}
use Rattle.pile_tally.specs.EveryPair.{said_in, every_pair, every_pair_in}
use Rattle.pile_tally.specs.Kept.{goes}
use Rattle.pile_tally.specs.Whole.{one_pass_in}

-- two of these windows contradict, the earlier the later: yes or no; and the same of records, some of them refused
pub data Row : Type 0 where
  windows : List Window → Bool → Row
  records : List (Result Window Refusal) → Bool → Row

abbrev pub Claim : Row → Type 0
Claim (windows ws answer) =
    (every_pair_in ws ≡ answer) × (one_pass_in ws ≡ answer) × (goes (said_in ws) (length ws) ≡ answer)
Claim (records vs answer) =
    (every_pair (verdict_in vs) (length vs) ≡ answer) × (goes (verdict_in vs) (length vs) ≡ answer)

abbrev pub Each : List Row → Type 0
Each [] = Unit {0}
Each (r ∷ rs) = Claim r × Each rs

-- MINT and MAXT are whatever they are, and `why` is the refusal of record 1 of example 7, whichever it is
module _ (mint maxt : ℕ) (why : Refusal) where
  infix 80 ◌±◌
  abbrev ◌±◌ : ℕ → ℕ → Window
  midp ± radi = window_of midp radi mint maxt

  abbrev pub table : List Row
  table =
      -- 1. 995 is not above 995
      windows (1000 ± 5 ∷ 990 ± 5 ∷ []) false
      -- 2. 995 > 994
      ∷ windows (1000 ± 5 ∷ 990 ± 4 ∷ []) true
      -- 3. -7 is not above 1 (request P4), nor above 0
      ∷ windows (3 ± 10 ∷ 0 ± 1 ∷ []) false
      ∷ windows (3 ± 10 ∷ 0 ± 0 ∷ []) false
      -- 4. the largest MIDP: nothing wraps at 2^64, neither in the later window nor in the earlier
      ∷ windows ((2 ^ 64 - 1) ± 1 ∷ (2 ^ 64 - 1) ± 1 ∷ []) false
      ∷ windows ((2 ^ 64 - 1) ± 1 ∷ (2 ^ 64 - 4) ± 1 ∷ []) true
      -- 5. records 2 and 3, and others
      ∷ windows (1000 ± 10 ∷ 1500 ± 10 ∷ 1495 ± 1 ∷ 1400 ± 10 ∷ []) true
      -- 6.
      ∷ windows (100 ± 1 ∷ 90 ± 1 ∷ 80 ± 1 ∷ []) true
      -- 7. no neighbours contradict, but the first and the last do; with record 1 refused they do as well, though no
      -- run convicts by itself then
      ∷ windows (100 ± 1 ∷ 95 ± 20 ∷ 80 ± 1 ∷ []) true
      ∷ records (Ok (100 ± 1) ∷ Err why ∷ Ok (80 ± 1) ∷ []) true
      ∷ []
