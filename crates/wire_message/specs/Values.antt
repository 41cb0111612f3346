-- The value of a tag in a message whose frame is good (draft 19, 4.2).
use Rattle.std.specs.Prelude.{ℕ, ◌+◌, ◌-◌, ◌*◌, List, [], Bool, cond, take, drop, ltb, eqb}
use Rattle.laws.specs.Least.{least}
use Rattle.wire_message.specs.Frame.{count, tag_at, edge}

-- tag i is this tag
abbrev pub is_tag : List ℕ → ℕ → ℕ → Bool
is_tag m tag i = eqb (tag_at m i) tag

-- the place of a tag among the tags, and their number where it is absent
unfoldable pub index_of : List ℕ → ℕ → ℕ
index_of m tag = least (is_tag m tag) (count m)

-- the tag is there
unfoldable pub has : List ℕ → ℕ → Bool
has m tag = ltb (index_of m tag) (count m)

-- the bytes of value i
unfoldable pub value_at : List ℕ → ℕ → List ℕ
value_at m i = take (edge m (i + 1) - edge m i) (drop (8 * count m + edge m i) m)

-- the value of a tag, empty where the tag is absent
unfoldable pub value_of : List ℕ → ℕ → List ℕ
value_of m tag = cond (has m tag) (value_at m (index_of m tag)) []

-- where the value of a tag starts in the message, an empty one too; the message's end where the tag is absent
unfoldable pub value_start : List ℕ → ℕ → ℕ
value_start m tag = 8 * count m + edge m (index_of m tag)
