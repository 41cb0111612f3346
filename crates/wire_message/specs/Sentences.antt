-- The rules of a message as sentences (document 01, "Bytes of a message"; draft 19, section 4). proofs/Codes tells each
-- of the codes 4 to 7 by them: a code is given exactly where all rules before it hold and its own do not. The last ones
-- say what the fields of a message hold; wire tells a good request and a good response by them.
use Rattle.std.specs.Prelude.{ℕ, ◌+◌, ◌*◌, ◌/◌, ◌%◌, ◌≤◌, ◌<◌, ◌≡◌, true, List, length}
use Rattle.laws.specs.Numbers.{le}
use Rattle.wire_message.specs.Encode.{Field, Fields, encode, among, value_among}
use Rattle.wire_message.specs.Frame.{word, count, offset, tag_at, section}
use Rattle.wire_message.specs.Rules.{row}
use Rattle.wire_message.specs.declared.rules.Rule.TheVariants.{Length, Nonzero, Versions, Siblings, Message}
use Rattle.wire_message.specs.declared.rules.Rule.{Rule}
use Rattle.wire_message.specs.declared.rules.TagRule.{TagRule}
use Rattle.wire_message.specs.Values.{has, value_of}

-- ---- code 4

-- its length is at least 4 bytes, and a multiple of 4
pub record LengthGood (m : List ℕ) : Type 0 where
  pub four : 4 ≤ length m
  pub whole : length m % 4 ≡ 0

-- N is 1 to 32 (house), and the header is no longer than the message
pub record CountGood (m : List ℕ) : Type 0 where
  pub one : 1 ≤ count m
  pub few : count m ≤ 32
  pub fits : 8 * count m ≤ length m

-- the offsets are multiples of 4, never fall, and stay within the value section
pub record OffsetsGood (m : List ℕ) : Type 0 where
  pub four : (i : ℕ) → i < count m → offset m i % 4 ≡ 0
  pub order : (i : ℕ) → i + 1 < count m → offset m i ≤ offset m (i + 1)
  pub inside : (i : ℕ) → i < count m → offset m i ≤ section m

-- all of these; it is also what the functions that look up a tag ask of their callers
pub record Good (m : List ℕ) : Type 0 where
  pub size : LengthGood m
  pub head : CountGood m
  pub offsets : OffsetsGood m

-- ---- code 5

-- the tags rise strictly
abbrev pub TagsRise : List ℕ → Type 0
TagsRise m = (k : ℕ) → k + 1 < count m → tag_at m k < tag_at m (k + 1)

-- ---- code 6

-- each tag that the table needs is there
abbrev pub TagsThere : List ℕ → List TagRule → Type 0
TagsThere m rows = (k : ℕ) → k < length rows → (row rows k).needed ≡ true → has m (row rows k).tag ≡ true

-- ---- code 7

-- a u32 that is not 0
pub record NonzeroNumber (v : List ℕ) : Type 0 where
  pub four : length v ≡ 4
  pub more : 0 < le 4 v 0

-- 1 to 32 versions of 4 bytes, strictly rising
pub record VersionList (v : List ℕ) : Type 0 where
  pub whole : length v % 4 ≡ 0
  pub one : 1 ≤ length v / 4
  pub few : length v / 4 ≤ 32
  pub rise : (k : ℕ) → k + 1 < length v / 4 → word v 0 k < word v 0 (k + 1)

-- 0 to 32 siblings of 32 bytes
pub record SiblingList (v : List ℕ) : Type 0 where
  pub whole : length v % 32 ≡ 0
  pub few : length v / 32 ≤ 32

-- a value keeps its rule; of a message, its own sentences say more
abbrev pub KeepsRule : Rule → List ℕ → Type 0
KeepsRule (Length n) v = length v ≡ n
KeepsRule Nonzero v = NonzeroNumber v
KeepsRule Versions v = VersionList v
KeepsRule Siblings v = SiblingList v
KeepsRule Message v = record {}

-- the value of each tag of the table that is there keeps its rule
abbrev pub ValuesRight : List ℕ → List TagRule → Type 0
ValuesRight m rows =
    (k : ℕ) → k < length rows → has m (row rows k).tag ≡ true
    → KeepsRule (row rows k).rule (value_of m (row rows k).tag)

-- ---- what the fields of a message hold

-- a tag is among the fields, and its value there keeps the rule
pub record Holds (fs : List Field) (tag : ℕ) (rule : Rule) : Type 0 where
  pub there : among tag fs ≡ true
  pub right : KeepsRule rule (value_among tag fs)

-- a tag may be absent; its value, if it is among the fields, keeps the rule
abbrev pub MayHold : List Field → ℕ → Rule → Type 0
MayHold fs tag rule = among tag fs ≡ true → KeepsRule rule (value_among tag fs)

-- a tag is among the fields, and its value there is a message with fields of its own
pub record HoldsMessage (fs : List Field) (tag : ℕ) : Type 0 where
  pub there : among tag fs ≡ true
  pub fields : List Field
  pub kept : Fields fields
  pub is : value_among tag fs ≡ encode fields
