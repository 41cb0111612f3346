-- A record from the writer's side (document 01, "Piles and reports"): its 4,096 bytes, of a key and a rand of 32 bytes
-- and two packets of at most 2,000. What is laid so reads back (`key_reads` and what follows it).
use Rattle.std.specs.Prelude.{List, ◌++◌, ℕ, ◌-◌, length, replicate}
use Rattle.laws.specs.Numbers.{le_bytes}
use Rattle.pile.specs.Layout.{ZEROS, REQUEST, AREA}

-- key 0-31, rand 32-63, request length u32 at 64, response length u32 at 68, zeros 72-95
unfoldable pub head_bytes : List ℕ → List ℕ → ℕ → ℕ → List ℕ
head_bytes key rand n m = key ++ rand ++ le_bytes 4 n ++ le_bytes 4 m ++ replicate (REQUEST - ZEROS) 0

-- bytes in an area of n, and zeros behind them
unfoldable pub padded : ℕ → List ℕ → List ℕ
padded n x = x ++ replicate (n - length x) 0

-- the area of a packet, of 2,000 bytes
abbrev pub area_bytes : List ℕ → List ℕ
area_bytes packet = padded AREA packet

-- request area 96-2,095, response area 2,096-4,095
unfoldable pub record_bytes : List ℕ → List ℕ → List ℕ → List ℕ → List ℕ
record_bytes key rand request response =
    head_bytes key rand (length request) (length response) ++ area_bytes request ++ area_bytes response
