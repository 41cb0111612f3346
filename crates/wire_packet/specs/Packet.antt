-- A packet (draft 19, section 5): the eight bytes ROUGHTIM, a u32 length, and a message of that length. House: 12 to
-- 2,000 bytes in all.
use Rattle.std.specs.Prelude.{ℕ, ◌-◌, List, [], ◌∷◌, ◌++◌, Bool, not, length, take, drop, ltb, eqb}
use Rattle.laws.specs.Ascii.{ascii}
use Rattle.laws.specs.Numbers.{le, le_bytes}
use Rattle.laws.specs.Same.{same}
use Rattle.refusal.specs.Refusal.{first, when}
use Rattle.refusal.specs.declared.Refusal.{Refusal}

abbrev pub mark : List ℕ
mark = ascii "ROUGHTIM"

-- the first eight bytes are not the mark
unfoldable pub mark_wrong : List ℕ → Bool
mark_wrong p = not (same (take 8 p) mark)

-- the length field is not the number of the bytes after it
unfoldable pub length_wrong : List ℕ → Bool
length_wrong p = not (eqb (le 4 p 8) (length p - 12))

-- codes 1 to 3 of a packet
unfoldable pub packet_code : List ℕ → Refusal
packet_code p =
    first
    (when (ltb (length p) 12) 1
    ∷ when (ltb 2000 (length p)) 1
    ∷ when (mark_wrong p) 2
    ∷ when (length_wrong p) 3
    ∷ [])

-- the packet of a message: the writer's side
unfoldable pub packet_of : List ℕ → List ℕ
packet_of m = mark ++ (le_bytes 4 (length m) ++ m)

-- where the message of a packet starts: behind the eight bytes and the length
abbrev pub body_start : ℕ
body_start = 12

-- the message of a packet
abbrev pub body : List ℕ → List ℕ
body p = drop body_start p
