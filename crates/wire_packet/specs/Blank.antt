-- What stands in the place of bytes that are not there.
use Rattle.std.specs.Prelude.{ℕ, List, replicate}

-- what a refusal, or an absent SRV, hands out in the place of 32 bytes
abbrev pub zeros32 : List ℕ
zeros32 = replicate 32 0

-- what a refusal hands out in the place of 64 bytes
abbrev pub zeros64 : List ℕ
zeros64 = replicate 64 0
