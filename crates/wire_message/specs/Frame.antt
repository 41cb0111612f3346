-- Reading a message (draft 19, section 4; document 01, "Bytes of a message"): codes 4 and 5. All of its header is words
-- of four bytes. The place of a refusal (request P8) is counted from the message's first byte here; wire counts on from
-- the packet's.
use Rattle.std.specs.Prelude.{ℕ, zero, suc, ◌+◌, ◌-◌, ◌*◌, ◌%◌, List, [], ◌∷◌, Bool, not, cond, length, ltb, leb, eqb}
use Rattle.laws.specs.Any.{any}
use Rattle.laws.specs.Least.{least, somewhere}
use Rattle.laws.specs.Numbers.{le}
use Rattle.refusal.specs.Refusal.{first, when_at}
use Rattle.refusal.specs.declared.Refusal.{Refusal}

-- word i of those that stand from `at`
abbrev pub word : List ℕ → ℕ → ℕ → ℕ
word s at i = le 4 s (at + 4 * i)

-- word i + 1 is not above word i
abbrev pub not_above : List ℕ → ℕ → ℕ → Bool
not_above s at i = leb (word s at (i + 1)) (word s at i)

-- ---- the header (4.2), by its own i: tags and values are counted from 0

-- "the first four bytes of the header is the uint32 number of tags N"
abbrev pub count : List ℕ → ℕ
count m = le 4 m 0

-- offset[i]: "The offsets array is considered to have an implicitly encoded value of 0 as its zeroth entry"; the others
-- stand behind N, so that offset[i] is word i of the message
unfoldable pub offset : List ℕ → ℕ → ℕ
offset m zero = 0
offset m (suc i) = le 4 m (4 * suc i)

-- "and the last 4*N bytes in the header are tags": tag i
abbrev pub tag_at : List ℕ → ℕ → ℕ
tag_at m i = word m (4 * count m) i

-- how many bytes the value section has; it stands behind the 8 N bytes of the header
abbrev pub section : List ℕ → ℕ
section m = length m - 8 * count m

-- where value i begins in the value section; and of i = N, where the last one ends. "The value associated with the ith
-- tag begins at offset[i] and ends at offset[i+1]-1, with the exception of the last value which ends at the end of the
-- message."
unfoldable pub edge : List ℕ → ℕ → ℕ
edge m i = cond (ltb i (count m)) (offset m i) (section m)

-- ---- the tests of codes 4 and 5

-- the length is under 4 bytes or no multiple of 4
unfoldable pub length_bad : List ℕ → Bool
length_bad m = any (ltb (length m) 4 ∷ not (eqb (length m % 4) 0) ∷ [])

-- N is not 1 to 32 (house), or the header is too long
unfoldable pub count_bad : List ℕ → Bool
count_bad m = any (eqb (count m) 0 ∷ ltb 32 (count m) ∷ ltb (length m) (8 * count m) ∷ [])

-- offset[i] is no multiple of 4, is below the one before it, or leaves the value section. offset[0] is never wrong: it
-- is 0, and is compared with itself, since a difference stops at 0.
abbrev pub offset_bad : List ℕ → ℕ → Bool
offset_bad m i =
    any
    (not (eqb (offset m i % 4) 0)
    ∷ ltb (offset m i) (offset m (i - 1))
    ∷ ltb (section m) (offset m i)
    ∷ [])

-- some offset is wrong
abbrev pub offsets_bad : List ℕ → Bool
offsets_bad m = somewhere (offset_bad m) (count m)

-- some tag is not above the one before it
abbrev pub tags_bad : List ℕ → Bool
tags_bad m = somewhere (not_above m (4 * count m)) (count m - 1)

-- ---- the places of codes 4 and 5 (request P8)

-- the start of the message, at which N's word stands
abbrev pub message_start : ℕ
message_start = 0

abbrev pub count_place : ℕ
count_place = 0

-- the first i at which offset[i] is wrong; N where there is none
abbrev pub first_bad_offset : List ℕ → ℕ
first_bad_offset m = least (offset_bad m) (count m)

-- the first i at which tag i + 1 is not above tag i; N - 1 where there is none
abbrev pub first_low_tag : List ℕ → ℕ
first_low_tag m = least (not_above m (4 * count m)) (count m - 1)

-- the word of the first wrong offset: offset[i] is word i
abbrev pub bad_offset_place : List ℕ → ℕ
bad_offset_place m = 4 * first_bad_offset m

-- the word of the first tag that is not above the one before it: N words stand before the tags
abbrev pub low_tag_place : List ℕ → ℕ
low_tag_place m = 4 * count m + 4 * (first_low_tag m + 1)

-- codes 4 and 5 of the message m: by its length at its start, by N or a header that is too long at N's word, by an
-- offset or a tag at the word of the first wrong one
unfoldable pub frame_code : List ℕ → Refusal
frame_code m =
    first
    (when_at (length_bad m) 4 message_start
    ∷ when_at (count_bad m) 4 count_place
    ∷ when_at (offsets_bad m) 4 (bad_offset_place m)
    ∷ when_at (tags_bad m) 5 (low_tag_place m)
    ∷ [])
