-- Where the values of a message begin and end, and that each value of a good one stands in the value section.
use Prim.Native.Nat.{ℕ, zero, suc, zero-le, suc-le-suc, ◌+◌, ◌-◌, ◌*◌, ◌≤◌, ◌<◌}
use mathlib.Core.Path.{◌≡◌, refl, ◌∙◌}
use native.Mathlib.Nat.{le_refl, eq-or-lt_of_le}
use native.Mathlib.Numerals.{add-one}
use mathlib.Core.Logic.{⊎_elim}
use native.Mathlib.Omega.{arith}
use borrow.Author.Tests.{lt-ltb, le-ltb}
use mathlib.Core.List.{List, [], ◌∷◌}
use mathlib.Core.Bool.{Bool, true, false, cond}
use lib.ListN.{length, take, drop, length-drop}
use lib.Dec.{ltb}
use Rattle.laws.specs.Bytes.{Bytes}
use Rattle.laws.specs.Numbers.{le}
use Rattle.laws.proofs.Bytes.{bytes_drop, bytes_take}
use Rattle.laws.proofs.Least.{least-le}
use Rattle.wire_message.specs.Frame.{count, offset, section, edge}
use Rattle.wire_message.specs.Sentences.{Good}
use Rattle.wire_message.specs.Values.{is_tag, index_of, has, value_at, value_of, value_start}

module _ (m : List ℕ) where
  -- offset[0] is 0, and the others are words of the message
  pub offset-first : offset m 0 ≡ 0
  unfolding offset
  offset-first = refl

  pub offset_word : (i : ℕ) → 0 < i → offset m i ≡ le 4 m (4 * i)
  unfolding offset
  offset_word zero h = absurd (omega arith)
  offset_word (suc i) h = refl

  -- value i begins at offset[i], and the last one ends with the message
  pub edge-inner : (i : ℕ) → i < count m → edge m i ≡ offset m i
  unfolding edge
  edge-inner i h = simp (lt-ltb i (count m) h)

  pub edge-last : edge m (count m) ≡ section m
  unfolding edge
  edge-last = simp (le-ltb (count m) (count m) (le_refl (count m)))

  pub edge-first : 0 < count m → edge m 0 ≡ 0
  edge-first h = edge-inner 0 h ∙ offset-first

-- value i stands in the value section
abbrev pub Inside : List ℕ → ℕ → Type 0
Inside m i = (edge m i ≤ edge m (i + 1)) × (edge m (i + 1) ≤ section m)

-- the place of a tag is at most the number of tags
pub index_in : (m : List ℕ) (tag : ℕ) → index_of m tag ≤ count m
unfolding index_of
index_in m tag = least-le (is_tag m tag) (count m)

module _ (m : List ℕ) (g : Good m) where
  -- each value stands in the value section
  pub value_in : (i : ℕ) → i < count m → Inside m i
  value_in i h = rw (edge-inner m i h) (⊎_elim at_last inner (eq-or-lt_of_le h))
    where
      at_last : suc i ≡ count m → (offset m i ≤ edge m (i + 1)) × (edge m (i + 1) ≤ section m)
      at_last e = rw (add-one i, e, edge-last m) (g.offsets.inside i h, le_refl (section m))

      inner : suc i < count m → (offset m i ≤ edge m (i + 1)) × (edge m (i + 1) ≤ section m)
      inner l =
          rw (edge-inner m (i + 1) (omega arith))
          (g.offsets.order i (omega arith), g.offsets.inside (i + 1) (omega arith))

  -- so does each start, the end of the last one too,
  pub edge-within : (i : ℕ) → i ≤ count m → edge m i ≤ section m
  edge-within i h =
      ⊎_elim (λ (e : i ≡ count m). rw (e, edge-last m) (le_refl (section m)))
      (λ (l : i < count m). rw (edge-inner m i l) (g.offsets.inside i l)) (eq-or-lt_of_le h)

  -- and so the value of a tag starts in the message, or at its end
  pub start-in : (tag : ℕ) → value_start m tag ≤ length m
  unfolding value_start
  start-in tag = omega (arith, edge-within (index_of m tag) (index_in m tag), g.head.fits)

-- what is taken of bytes is no longer than they are
pub take_in : (n : ℕ) (xs : List ℕ) → length (take n xs) ≤ length xs
take_in zero xs = zero-le
take_in (suc n) [] = zero-le
take_in (suc n) (x ∷ xs) = suc-le-suc (take_in n xs)

-- the value of a tag ends in the message
pub value-ends : (m : List ℕ) → Good m → (tag : ℕ) → value_start m tag + length (value_of m tag) ≤ length m
unfolding value_at value_of value_start
value-ends m g tag = by (has m tag)
  where
    at : ℕ
    at = 8 * count m + edge m (index_of m tag)

    by : (t : Bool) → at + length (cond t (value_at m (index_of m tag)) []) ≤ length m
    by true =
        let k : ℕ = index_of m tag in
        omega (arith, start-in m g tag, take_in (edge m (k + 1) - edge m k) (drop at m), length-drop at m)
    by false = omega (arith, start-in m g tag)

-- the value of a tag that is there, as code finds it: there are n tags, the tag's place is k, and the value runs from x
-- to y
pub value_found : (m : List ℕ) (tag n k x y : ℕ) → n ≡ count m → k ≡ index_of m tag → k < n
    → x ≡ edge m k → y ≡ edge m (k + 1)
    → take (8 * n + y - (8 * n + x)) (drop (8 * n + x) m) ≡ value_of m tag
unfolding has value_at value_of
value_found m tag n k x y en ek h ex ey =
    let t : ltb (index_of m tag) (count m) ≡ true = lt-ltb (index_of m tag) (count m) (omega arith) in
    let l : 8 * n + y - (8 * n + x) ≡ y - x = omega arith in
    rw (t, l, ex, ey, en, ek) refl

pub value-absent : (m : List ℕ) (tag n k : ℕ) → n ≡ count m → k ≡ index_of m tag → n ≤ k → [] ≡ value_of m tag
unfolding has value_of
value-absent m tag n k en ek h = rw (le-ltb (index_of m tag) (count m) (omega arith)) refl

-- the values of bytes are bytes
value-at-bytes : (m : List ℕ) → Bytes m → (k : ℕ) → Bytes (value_at m k)
unfolding value_at
value-at-bytes m bytes k =
    let at : ℕ = 8 * count m + edge m k in
    bytes_take (drop at m) (bytes_drop m bytes at) (edge m (k + 1) - edge m k)

pub value-bytes : (m : List ℕ) → Bytes m → (tag : ℕ) → Bytes (value_of m tag)
unfolding value_of
value-bytes m bytes tag = by (has m tag)
  where
    by : (t : Bool) → Bytes (cond t (value_at m (index_of m tag)) [])
    by true = value-at-bytes m bytes (index_of m tag)
    by false = λ k. omega arith
