-- What stands at the place of a refusal (request P8), as sentences over the bytes of the message. The place is counted
-- from the message's first byte. proofs/Places shows that each of the codes 4 to 7 is told with such a place.
use Rattle.std.specs.Prelude.{ℕ, ◌+◌, ◌-◌, ◌*◌, ◌%◌, ◌≤◌, ◌<◌, ◌≡◌, true, List, length, take, drop}
use Rattle.laws.specs.Numbers.{le}
use Rattle.refusal.specs.declared.Refusal.{Refusal}
use Rattle.wire_message.specs.Frame.{count, offset, tag_at, section}
use Rattle.wire_message.specs.Rules.{row}
use Rattle.wire_message.specs.declared.rules.TagRule.{TagRule}
use Rattle.wire_message.specs.Sentences.{LengthGood, CountGood, Good, KeepsRule}
use Rattle.wire_message.specs.Values.{has, value_of, value_start}

-- of n things, thing k is the first that is not right
pub record FirstWrong (Right : ℕ → Type 0) (n k : ℕ) : Type 0 where
  pub inside : k < n
  pub wrong : Right k → ⊥
  pub earlier : (i : ℕ) → i < k → Right i

-- ---- code 4

-- offset[i] is a multiple of 4, is not below the one before it, and stays within the value section
pub record OffsetRight (m : List ℕ) (i : ℕ) : Type 0 where
  pub four : offset m i % 4 ≡ 0
  pub order : offset m (i - 1) ≤ offset m i
  pub inside : offset m i ≤ section m

-- the length is wrong: the start of the message
pub record WrongLength (m : List ℕ) (at : ℕ) : Type 0 where
  pub wrong : LengthGood m → ⊥
  pub is : at ≡ 0

-- N is out of range, or the header is too long: N's word
pub record WrongCount (m : List ℕ) (at : ℕ) : Type 0 where
  pub size : LengthGood m
  pub wrong : CountGood m → ⊥
  pub is : at ≡ 0
  pub word : le 4 m at ≡ count m

-- an offset is wrong: the word of the first such offset
pub record WrongOffset (m : List ℕ) (at : ℕ) : Type 0 where
  pub size : LengthGood m
  pub head : CountGood m
  pub place : ℕ
  pub first : FirstWrong (OffsetRight m) (count m) place
  pub is : at ≡ 4 * place
  pub word : le 4 m at ≡ offset m place

-- one of the three
pub data Wrong4 (m : List ℕ) (at : ℕ) : Type 0 where
  by_length : WrongLength m at → Wrong4 m at
  by_count : WrongCount m at → Wrong4 m at
  by-offset : WrongOffset m at → Wrong4 m at

-- ---- code 5

-- tag k + 1 is above tag k
abbrev pub TagAbove : List ℕ → ℕ → Type 0
TagAbove m k = tag_at m k < tag_at m (k + 1)

-- N and the offsets are right: the word of the first tag that is not above the one before it
pub record Wrong5 (m : List ℕ) (at : ℕ) : Type 0 where
  pub good : Good m
  pub place : ℕ
  pub first : FirstWrong (TagAbove m) (count m - 1) place
  pub is : at ≡ 4 * count m + 4 * (place + 1)
  pub word : le 4 m at ≡ tag_at m (place + 1)

-- ---- code 6

-- the start of a message that lacks a needed tag: no tag of the message is that one
pub record Wrong6 (m : List ℕ) (rows : List TagRule) (at : ℕ) : Type 0 where
  pub is : at ≡ 0
  pub place : ℕ
  pub inside : place < length rows
  pub needed : (row rows place).needed ≡ true
  pub missing : (i : ℕ) → i < count m → tag_at m i ≡ (row rows place).tag → ⊥

-- ---- code 7

-- the rows of a table stand in the order of their tags
abbrev pub RowsRise : List TagRule → Type 0
RowsRise rows = (k : ℕ) → k + 1 < length rows → (row rows k).tag < (row rows (k + 1)).tag

-- the start of a value that breaks its rule, where no value of a smaller tag breaks its own
pub record Wrong7 (m : List ℕ) (rows : List TagRule) (at : ℕ) : Type 0 where
  pub place : ℕ
  pub inside : place < length rows
  pub there : has m (row rows place).tag ≡ true
  pub wrong : KeepsRule (row rows place).rule (value_of m (row rows place).tag) → ⊥
  pub smaller : (k : ℕ) → k < length rows → (row rows k).tag < (row rows place).tag → has m (row rows k).tag ≡ true
      → KeepsRule (row rows k).rule (value_of m (row rows k).tag)
  pub is : at ≡ value_start m (row rows place).tag
  pub value : take (length (value_of m (row rows place).tag)) (drop at m) ≡ value_of m (row rows place).tag

-- ---- all four

-- what stands at the place of the refusal r of a message, which the table judges
pub record WrongAt (m : List ℕ) (rows : List TagRule) (r : Refusal) : Type 0 where
  pub by_4 : r.code ≡ 4 → Wrong4 m r.at
  pub by-5 : r.code ≡ 5 → Wrong5 m r.at
  pub by-6 : r.code ≡ 6 → Wrong6 m rows r.at
  pub by-7 : r.code ≡ 7 → Wrong7 m rows r.at
