-- What a reader finds in an encoded message: its frame is good, and its fields are those that were written.
use Prim.Native.Nat.{ℕ, zero, suc, zero-le, ◌+◌, ◌*◌, ◌%◌, ◌^◌, ◌≤◌, ◌<◌}
use mathlib.Core.Path.{◌≡◌, refl, sym, ap, ◌∙◌}
use mathlib.Core.Bool.{Bool, true, false, cond, ◌||◌}
use mathlib.Core.List.{List, [], ◌∷◌, ◌++◌}
use mathlib.Core.Logic.{⊎_elim}
use native.Mathlib.Nat.{le_refl, eq-or-lt_of_le, mul-add}
use native.Mathlib.Numerals.{add-one}
use native.Mathlib.Omega.{arith}
use borrow.Author.Tests.{lt-ltb, le-ltb, ltb-true, ltb-false}
use lib.Dec.{ltb, eqb, leb-suc-suc}
use lib.ListN.{length, get_or, length-append, get_or-append, get_or-eq_default}
use lib.Seq.{get_or-append-add, drop-append-add}
use Rattle.laws.specs.Least.{least}
use Rattle.laws.specs.Numbers.{le}
use Rattle.laws.proofs.Least.{least-same, least-front}
use Rattle.refusal.specs.Refusal.{passed}
use Rattle.wire_message.specs.Encode.{Field, Fields, words, offsets, tags, values, encode, field, among, value_among}
use Rattle.wire_message.specs.Frame.{count, tag_at, section, edge, offset, frame_code}
use Rattle.wire_message.specs.Sentences.{Good}
use Rattle.wire_message.specs.Values.{is_tag, index_of, has, value_at, value_of}
use Rattle.wire_message.proofs.Codes.{frame-0, frame-passed}
use Rattle.wire_message.proofs.Edges.{offset-first, offset_word, edge-inner, edge-last}
use Rattle.wire_message.proofs.Positions.{blank, reach, length-words, word_at, length-tags, tag_of, length-offsets}
use Rattle.wire_message.proofs.Positions.{offset-of, reach-next, reach-in, reach-all, value-of-field}

-- ---- an encoded message, as it is read

module _ (fs : List Field) (ok : Fields fs) where
  -- the words of its header
  abbrev header : List ℕ
  header = length fs ∷ (offsets fs ++ tags fs)

  -- two for each field
  length-header : length header ≡ 2 * length fs
  length-header = rw (length-append, length-offsets fs, length-tags) (omega (arith, ok.one))

  -- word k of the header is read as it was written
  header-word : (k x : ℕ) → k < 2 * length fs → get_or header k 0 ≡ x → x < 2 ^ 32 → le 4 (encode fs) (4 * k) ≡ x
  unfolding encode
  header-word k x h e b = word_at header (values fs) k (rw length-header h) (rw e b) ∙ e

  -- so N is the number of fields,
  pub count-encoded : count (encode fs) ≡ length fs
  count-encoded = header-word 0 (length fs) (omega (arith, ok.one)) refl (omega (arith, ok.few))

  -- offset[i] is where value i starts,
  pub offset-encoded : (i : ℕ) → i < length fs → offset (encode fs) i ≡ reach fs i
  unfolding values
  offset-encoded zero h = offset-first (encode fs)
  offset-encoded (suc k) h =
      let i : k < length (offsets fs) = rw (length-offsets fs) (omega arith) in
      let e : get_or (offsets fs) k 0 ≡ reach fs (suc k) = offset-of fs k h in
      offset_word (encode fs) (suc k) (omega arith)
      ∙ header-word (suc k) (reach fs (suc k)) (omega arith) (get_or-append (offsets fs) (tags fs) 0 k i ∙ e)
      (rw (← e) (ok.near k i))

  -- and tag k is the tag of field k
  pub tag-encoded : (k : ℕ) → k < length fs → tag_at (encode fs) k ≡ (field fs k).tag
  tag-encoded k h =
      let l : length fs ≡ suc (length (offsets fs)) = omega (arith, length-offsets fs, ok.one) in
      let e : get_or header (length fs + k) 0 ≡ (field fs k).tag =
      ap (λ (n : ℕ). get_or header (n + k) 0) l ∙ get_or-append-add (length fs ∷ offsets fs) (tags fs) k 0 ∙ tag_of fs k in
      rw (count-encoded, ← mul-add 4 (length fs) k)
      (header-word (length fs + k) (field fs k).tag (omega arith) e (ok.word k h))

  -- the header's bytes and the values'
  pub length-encoded : length (encode fs) ≡ 8 * length fs + length (values fs)
  unfolding encode
  length-encoded = rw (length-append, length-words, length-header) (omega arith)

  -- the value section is the values,
  pub section-encoded : section (encode fs) ≡ length (values fs)
  section-encoded = rw (length-encoded, count-encoded) (omega arith)

  -- each edge is where a value starts or the last one ends,
  pub edge-encoded : (k : ℕ) → k ≤ length fs → edge (encode fs) k ≡ reach fs k
  edge-encoded k h = ⊎_elim last inner (eq-or-lt_of_le h)
    where
      last : k ≡ length fs → edge (encode fs) k ≡ reach fs k
      last e =
          rw e
          (ap (edge (encode fs)) (sym count-encoded) ∙ edge-last (encode fs) ∙ section-encoded ∙ sym (reach-all fs))

      inner : k < length fs → edge (encode fs) k ≡ reach fs k
      inner l = edge-inner (encode fs) k (rw count-encoded l) ∙ offset-encoded k l

  -- and value k is the value of field k
  pub value-at-encoded : (k : ℕ) → k < length fs → value_at (encode fs) k ≡ (field fs k).value
  unfolding value_at encode
  value-at-encoded k h =
      let l : 8 * length fs ≡ length (words header) = rw (length-words, length-header) (omega arith) in
      rw (edge-encoded (k + 1) (omega arith), edge-encoded k (omega arith), count-encoded, l, drop-append-add)
      (value-of-field fs k h)

  -- each value starts at a multiple of four
  pub reach-four : (k : ℕ) → k ≤ length fs → reach fs k % 4 ≡ 0
  unfolding values
  reach-four zero h = refl
  reach-four (suc k) h = omega (arith, (rw add-one at (reach-next fs k h)), reach-four k (omega arith), ok.fours k h)

  -- so its frame is good
  pub encode-good : frame_code (encode fs) ≡ passed
  encode-good =
      let l : length (encode fs) ≡ 8 * length fs + length (values fs) = length-encoded in
      let c : count (encode fs) ≡ length fs = count-encoded in
      let f : length (values fs) % 4 ≡ 0 = rw reach-all at (reach-four (length fs) (le_refl (length fs))) in
      let g : Good (encode fs) = record {
        size = record { four = omega (arith, ok.one); whole = omega arith };
        head = record { one = rw c ok.one; few = rw c ok.few; fits = omega arith };
        offsets = record {
          four = λ k h. four k (rw c at h);
          order = λ k h. order k (rw c at h);
          inside = λ k h. inside k (rw c at h);
        };
      } in
      frame-passed (encode fs) ((frame-0 (encode fs)).1 (g, λ k h. rise k (rw c at h)))
    where
      four : (k : ℕ) → k < length fs → offset (encode fs) k % 4 ≡ 0
      four k h = rw (offset-encoded k h) (reach-four k (omega arith))

      order : (k : ℕ) → k + 1 < length fs → offset (encode fs) k ≤ offset (encode fs) (k + 1)
      order k h =
          rw (offset-encoded k (omega arith), offset-encoded (k + 1) h) (omega (arith, reach-next fs k (omega arith)))

      inside : (k : ℕ) → k < length fs → offset (encode fs) k ≤ section (encode fs)
      inside k h = rw (offset-encoded k h, section-encoded) (reach-in fs k h)

      rise : (k : ℕ) → k + 1 < length fs → tag_at (encode fs) k < tag_at (encode fs) (k + 1)
      rise k h = rw (tag-encoded k (omega arith), tag-encoded (k + 1) h) (ok.rise k h)

-- ---- the value of a tag

-- the place of a tag among the fields, and their number where it is absent
place : ℕ → List Field → ℕ
place tag fs = least (λ k. eqb (field fs k).tag tag) (length fs)

-- the first field, or those behind it
place-cons : (tag : ℕ) (f : Field) (fs : List Field)
    → place tag (f ∷ fs) ≡ cond (eqb f.tag tag) 0 (suc (place tag fs))
unfolding place
place-cons tag f fs = least-front (λ k. eqb (field (f ∷ fs) k).tag tag) (length fs)

-- a tag is among the fields where its place is below their number,
among-place : (tag : ℕ) (fs : List Field) → ltb (place tag fs) (length fs) ≡ among tag fs
unfolding among
among-place tag [] = le-ltb (place tag []) 0 zero-le
among-place tag (f ∷ fs) = rw place-cons (by (eqb f.tag tag) (among-place tag fs))
  where
    by : (t : Bool) → ltb (place tag fs) (length fs) ≡ among tag fs
        → ltb (cond t 0 (suc (place tag fs))) (suc (length fs)) ≡ t || among tag fs
    by true e = lt-ltb 0 (suc (length fs)) (omega arith)
    by false e = leb-suc-suc (suc (place tag fs)) (length fs) ∙ e

-- and its value is that of the field in its place
value-place : (tag : ℕ) (fs : List Field) → (field fs (place tag fs)).value ≡ value_among tag fs
unfolding value_among
value-place tag [] = refl
value-place tag (f ∷ fs) = rw place-cons (by (eqb f.tag tag) (value-place tag fs))
  where
    by : (t : Bool) → (field fs (place tag fs)).value ≡ value_among tag fs
        → (field (f ∷ fs) (cond t 0 (suc (place tag fs)))).value ≡ cond t f.value (value_among tag fs)
    by true e = refl
    by false e = e

module _ (fs : List Field) (ok : Fields fs) (tag : ℕ) where
  -- a reader finds a tag in its place among the fields:
  index-encoded : index_of (encode fs) tag ≡ place tag fs
  unfolding index_of place
  index-encoded =
      rw (count-encoded fs ok)
      (least-same (is_tag (encode fs) tag) (λ k. eqb (field fs k).tag tag) (length fs)
      (λ k h. ap (λ (x : ℕ). eqb x tag) (tag-encoded fs ok k h)))

  -- it finds a tag exactly where it is among them,
  pub has-encoded : has (encode fs) tag ≡ among tag fs
  unfolding has
  has-encoded = rw (index-encoded, count-encoded fs ok) (among-place tag fs)

  -- with its value there
  pub value-encoded : value_of (encode fs) tag ≡ value_among tag fs
  unfolding value_of
  value-encoded = rw (has-encoded, index-encoded) (by (among tag fs) (among-place tag fs))
    where
      by : (t : Bool) → ltb (place tag fs) (length fs) ≡ t
          → cond t (value_at (encode fs) (place tag fs)) [] ≡ value_among tag fs
      by true e = value-at-encoded fs ok (place tag fs) (ltb-true _ _ e) ∙ value-place tag fs
      by false e =
          sym (ap (λ (f : Field). f.value) (get_or-eq_default fs blank (ltb-false _ _ e))) ∙ value-place tag fs
