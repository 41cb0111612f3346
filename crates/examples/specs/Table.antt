-- Document 01's starred examples, by its numbers and in its order.
use Rattle.std.specs.Prelude.{true, false, List, [], ◌∷◌, ◌-◌, ◌^◌, replicate, Err, Ok}
use Rattle.refusal.specs.declared.Refusal.{Refusal}
use Rattle.examples.specs.Claims.{◌±◌, Row, low_end, high_end, contradicts, run, no_run, depth, path, indx}
use Rattle.examples.specs.Claims.{at-maxt, above-maxt, message, equal-tags, ◌and◌, Claim}

-- `why` is the refusal of record 1 of example 7, whichever it is
abbrev pub table : Refusal → List Row
table why =
    -- 1. 1000±5 then 990±5: no contradiction
    contradicts (1000 ± 5) (990 ± 5) false
    -- 2. 1000±5 then 990±4: contradiction
    ∷ contradicts (1000 ± 5) (990 ± 4) true
    -- 3. 3±10 has low end 0; then 0±1: no contradiction (request P4)
    ∷ low_end (3 ± 10) 0 and contradicts (3 ± 10) (0 ± 1) false
    -- 4. MIDP 2^64-1, RADI 1: high end 2^64-1
    ∷ high_end ((2 ^ 64 - 1) ± 1) (2 ^ 64 - 1)
    -- 5. run 2..3
    ∷ run (Ok (1000 ± 10) ∷ Ok (1500 ± 10) ∷ Ok (1495 ± 1) ∷ Ok (1400 ± 10) ∷ []) 2 3
    -- 6. run 0..1, not 1..2
    ∷ run (Ok (100 ± 1) ∷ Ok (90 ± 1) ∷ Ok (80 ± 1) ∷ []) 0 1
    -- 7. run 0..2; with record 1 refused: 18
    ∷ run (Ok (100 ± 1) ∷ Ok (95 ± 20) ∷ Ok (80 ± 1) ∷ []) 0 2
    and no_run (Ok (100 ± 1) ∷ Err why ∷ Ok (80 ± 1) ∷ []) 18
    -- 8. one leaf: d 0, INDX 0, empty path
    ∷ depth 1 0 and path 1 0 0 0
    -- 9. three leaves: d 2; places 0 and 2 have INDX 0 and 2 (and two siblings each; request P2)
    ∷ depth 3 2 and path 3 0 0 2 and path 3 2 2 2
    -- 10. INDX 1 with no siblings: 10; INDX 2 with one: 10
    ∷ indx 1 0 10 and indx 2 1 10
    -- 11. MIDP = MAXT passes; MIDP = MAXT + 1: 11
    ∷ at-maxt and above-maxt 1 11
    -- 12. message of 4 zero bytes: 4; two equal tags: 5
    ∷ message (replicate 4 0) 4 and equal-tags 5
    ∷ []

-- every row of a table holds
abbrev pub Each : List Row → Type 0
Each [] = Unit {0}
Each (r ∷ rs) = Claim r × Each rs
