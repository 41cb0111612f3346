-- Where the parts of a record start (document 01, "Piles and reports"). Each part ends where the next starts. The code
-- has the same names.
use Rattle.std.specs.Prelude.{ℕ}

-- key 0-31
abbrev pub KEY : ℕ
KEY = 0

-- rand 32-63
abbrev pub RAND : ℕ
RAND = 32

-- request length u32 at 64
abbrev pub REQUEST-LENGTH : ℕ
REQUEST-LENGTH = 64

-- response length u32 at 68
abbrev pub RESPONSE-LENGTH : ℕ
RESPONSE-LENGTH = 68

-- zeros 72-95
abbrev pub ZEROS : ℕ
ZEROS = 72

-- request area 96-2,095
abbrev pub REQUEST : ℕ
REQUEST = 96

-- response area 2,096-4,095
abbrev pub RESPONSE : ℕ
RESPONSE = 2096

-- the length of a record
abbrev pub RECORD : ℕ
RECORD = 4096

-- the length of an area, and so the most that a packet has
abbrev pub AREA : ℕ
AREA = 2000
