-- Which tags a message needs, and which values they may have (document 01, "Bytes of a message"): codes 6 and 7.
use Rattle.std.specs.Prelude.{ℕ, ◌-◌, ◌/◌, ◌%◌, List, [], ◌∷◌, Bool, true, false, not, ◌&&◌, length, get_or, ltb, eqb}
use Rattle.laws.specs.Any.{any}
use Rattle.laws.specs.Least.{least, somewhere}
use Rattle.laws.specs.Numbers.{le}
use Rattle.refusal.specs.Refusal.{first, when_at}
use Rattle.refusal.specs.declared.Refusal.{Refusal}
use Rattle.wire_message.specs.Frame.{not_above, message_start, frame_code}
use Rattle.wire_message.specs.Values.{has, value_of, value_start}
use Rattle.wire_message.specs.declared.rules.Rule.{Rule}
use Rattle.wire_message.specs.declared.rules.Rule.TheVariants.{Length, Nonzero, Versions, Siblings, Message}
use Rattle.wire_message.specs.declared.rules.TagRule.{TagRule}

-- the rules of a value in few words: that it has so many bytes, is a number that is not 0, is a list of versions, is a
-- list of siblings, or is a message
abbrev pub bytes : ℕ → Rule
bytes n = Length n

abbrev pub nonzero : Rule
nonzero = Nonzero

abbrev pub versions : Rule
versions = Versions

abbrev pub siblings : Rule
siblings = Siblings

abbrev pub message : Rule
message = Message

-- A row of a table is a tag, whether it must be there, and the rule of its value; a table is a list of rows.

-- a row whose tag must be there, and one whose tag may be absent
abbrev pub must : ℕ → Rule → TagRule
must tag rule = record { tag = tag; needed = true; rule = rule }

abbrev pub may : ℕ → Rule → TagRule
may tag rule = record { tag = tag; needed = false; rule = rule }

-- not a u32, or 0 (draft 19, 5.2.5, of RADI; request P4)
unfoldable pub nonzero_bad : List ℕ → Bool
nonzero_bad v = any (not (eqb (length v) 4) ∷ eqb (le 4 v 0) 0 ∷ [])

-- not 1 to 32 versions of 4 bytes, strictly rising (draft 19, 5.1.1; of VERS 5.2.5 says sorted, and document 01 that it
-- rises as VER in a request)
unfoldable pub versions_bad : List ℕ → Bool
versions_bad v =
    any
    (ltb (length v) 4
    ∷ ltb 128 (length v)
    ∷ not (eqb (length v % 4) 0)
    ∷ somewhere (not_above v 0) (length v / 4 - 1)
    ∷ [])

-- not 0 to 32 siblings of 32 bytes (draft 19, 5.2.4)
unfoldable pub siblings_bad : List ℕ → Bool
siblings_bad v = any (ltb 1024 (length v) ∷ not (eqb (length v % 32) 0) ∷ [])

-- a value breaks its rule; a message may have any length here, since its own codes are told after this one's
unfoldable pub value_bad : Rule → List ℕ → Bool
value_bad (Length n) v = not (eqb (length v) n)
value_bad Nonzero v = nonzero_bad v
value_bad Versions v = versions_bad v
value_bad Siblings v = siblings_bad v
value_bad Message v = false

-- a needed tag is absent
unfoldable pub absent : List ℕ → ℕ → Bool → Bool
absent m tag needed = needed && not (has m tag)

-- a tag is there, and its value breaks the rule
unfoldable pub broken : List ℕ → ℕ → Rule → Bool
broken m tag rule = has m tag && value_bad rule (value_of m tag)

-- row k of a table
abbrev pub row : List TagRule → ℕ → TagRule
row rows k = get_or rows k (may 0 message)

-- the same of row k
abbrev pub row_absent : List ℕ → List TagRule → ℕ → Bool
row_absent m rows k = absent m (row rows k).tag (row rows k).needed

abbrev pub row_broken : List ℕ → List TagRule → ℕ → Bool
row_broken m rows k = broken m (row rows k).tag (row rows k).rule

-- some needed tag is absent, and some value breaks its rule
abbrev pub some_absent : List ℕ → List TagRule → Bool
some_absent m rows = somewhere (row_absent m rows) (length rows)

abbrev pub some_broken : List ℕ → List TagRule → Bool
some_broken m rows = somewhere (row_broken m rows) (length rows)

-- the first row whose value breaks its rule; the number of rows where there is none. Rows stand in the order of their
-- tags, so that of several wrong values this is the one with the smallest tag (request P8).
abbrev pub first_broken : List ℕ → List TagRule → ℕ
first_broken m rows = least (row_broken m rows) (length rows)

-- the start of the value that breaks its rule and has the smallest tag
abbrev pub broken_place : List ℕ → List TagRule → ℕ
broken_place m rows = value_start m (row rows (first_broken m rows)).tag

-- codes 4 to 7 of the message m by a table: 6 at the start of the message that lacks the tag, 7 at the start of that
-- value
unfoldable pub message_code : List ℕ → List TagRule → Refusal
message_code m rows =
    first
    (frame_code m
    ∷ when_at (some_absent m rows) 6 message_start
    ∷ when_at (some_broken m rows) 7 (broken_place m rows)
    ∷ [])
