-- A good frame is an encoding: the fields that a reader finds in it are ones that a message may hold, and they encode
-- to it.
use Prim.Native.Nat.{ℕ, zero, suc, ◌+◌, ◌-◌, ◌*◌, ◌%◌, ◌^◌, ◌≤◌, ◌<◌}
use mathlib.Core.Path.{◌≡◌, refl, sym, ap, ap₂, ◌∙◌}
use mathlib.Core.List.{List, ◌∷◌, ◌++◌, append-nil}
use mathlib.Core.Logic.{⊎_elim}
use native.Mathlib.Nat.{le_refl, le_of_eq, eq-or-lt_of_le, zero-add}
use native.Mathlib.Numerals.{add-one}
use native.Mathlib.Omega.{arith}
use lib.ListN.{length, get_or, take, drop, length-drop, take-append-drop}
use lib.Seq.{take-add, drop-drop, ext_get_or, get_or-drop, take_all, length-take-le}
use Rattle.laws.specs.Bytes.{Bytes}
use Rattle.laws.specs.Numbers.{le}
use Rattle.laws.specs.Upto.{upto}
use Rattle.laws.proofs.Numbers.{le_bytes-le, le-bound}
use Rattle.laws.proofs.Upto.{upto-length, upto-at}
use Rattle.wire_message.specs.Encode.{Field, Fields, Encoded, words, starts, offsets, tags, values, encode, field}
use Rattle.wire_message.specs.Frame.{word, count, tag_at, section, edge, frame_code}
use Rattle.wire_message.specs.Sentences.{Good, TagsRise}
use Rattle.wire_message.specs.Values.{value_at}
use Rattle.wire_message.proofs.Codes.{frame-0}
use Rattle.wire_message.proofs.Edges.{offset_word, edge-first, edge-inner, edge-last, value_in, edge-within}
use Rattle.wire_message.proofs.Positions.{blank, words_append, tags-append, values-append, length-starts, starts_more}
use Rattle.wire_message.proofs.Encoded.{count-encoded, tag-encoded, value-at-encoded}

-- field k, as a reader finds it
abbrev pub field_at : List ℕ → ℕ → Field
field_at m k = record { tag = tag_at m k; value = value_at m k }

-- all of them
unfoldable pub decode : List ℕ → List Field
decode m = upto (field_at m) (count m)

-- ---- what is written is read

-- the fields of an encoded message are those that were written
pub decode-encode : (fs : List Field) → Fields fs → decode (encode fs) ≡ fs
unfolding decode
decode-encode fs ok =
    let m : List ℕ = encode fs in
    let c : count m ≡ length fs = count-encoded fs ok in
    let l : length (upto (field_at m) (count m)) ≡ length fs = upto-length (field_at m) (count m) ∙ c in
    ext_get_or blank (upto (field_at m) (count m)) fs l
    (λ k h. upto-at (field_at m) (count m) k blank (omega arith) ∙ by k (omega arith))
  where
    by : (k : ℕ) → k < length fs → field_at (encode fs) k ≡ field fs k
    by k h =
        let t : tag_at (encode fs) k ≡ (field fs k).tag = tag-encoded fs ok k h in
        let v : value_at (encode fs) k ≡ (field fs k).value = value-at-encoded fs ok k h in
        ap₂ (λ (x : ℕ) (y : List ℕ). record { tag = x; value = y }) t v

-- so no two lists of fields have one encoding
pub encode-once : (fs gs : List Field) → Fields fs → Fields gs → encode fs ≡ encode gs → fs ≡ gs
encode-once fs gs f g e = sym (decode-encode fs f) ∙ ap decode e ∙ decode-encode gs g

-- ---- what is read is what is written

-- the tags of the first n fields
pub tags-upto : (m : List ℕ) (n : ℕ) → tags (upto (field_at m) n) ≡ upto (tag_at m) n
unfolding tags upto
tags-upto m zero = refl
tags-upto m (suc n) = rw (tags-append, tags-upto m n)

module _ (m : List ℕ) (bytes : Bytes m) where
  -- n words of m, written again
  pub words-upto : (at n : ℕ) → at + 4 * n ≤ length m → words (upto (word m at) n) ≡ take (4 * n) (drop at m)
  unfolding words upto
  words-upto at zero h = refl
  words-upto at (suc n) h =
      let e : 4 * suc n ≡ 4 * n + 4 = omega arith in
      rw (words_append, words-upto at n (omega arith), append-nil, e, take-add, drop-drop)
      (ap (λ (l : List ℕ). take (4 * n) (drop at m) ++ l) (le_bytes-le m bytes 4 (at + 4 * n) (omega arith)))

module _ (m : List ℕ) (g : Good m) where
  -- a value reaches from its edge to the next
  pub length-value : (k : ℕ) → k < count m → length (value_at m k) ≡ edge m (k + 1) - edge m k
  unfolding value_at
  length-value k h = length-take-le _ _ (rw length-drop (omega (arith, value_in m g k h, g.head)))

  -- the first k values are what stands before edge k
  pub values-upto : (k : ℕ) → k ≤ count m → values (upto (field_at m) k) ≡ take (edge m k) (drop (8 * count m) m)
  unfolding values upto value_at
  values-upto zero h = rw (edge-first m g.head.one)
  values-upto (suc k) h =
      let e : edge m (suc k) ≡ edge m k + (edge m (k + 1) - edge m k) =
      rw (← add-one k) (omega (arith, value_in m g k h)) in
      rw (values-append, values-upto k (omega arith), append-nil, e, take-add, drop-drop)

  -- they have that many bytes,
  pub length-upto : (k : ℕ) → k ≤ count m → length (values (upto (field_at m) k)) ≡ edge m k
  length-upto k h = rw (values-upto k h) (length-take-le _ _ (rw length-drop (edge-within m g k h)))

  -- so they start at the edges,
  pub starts-upto : (k : ℕ) → k ≤ count m → starts 0 (upto (field_at m) k) ≡ upto (edge m) k
  unfolding starts upto
  starts-upto zero h = refl
  starts-upto (suc k) h = rw (starts_more, starts-upto k (omega arith), zero-add, length-upto k (omega arith))

  -- their offsets are those of the message,
  pub offset_at : (k : ℕ) → suc k < count m → get_or (drop 1 (upto (edge m) (count m))) k 0 ≡ le 4 m (4 * suc k)
  offset_at k h =
      let one : 1 + k ≡ suc k = omega arith in
      get_or-drop 1 (upto (edge m) (count m)) k 0
      ∙ rw one
      (upto-at (edge m) (count m) (suc k) 0 h ∙ edge-inner m (suc k) h ∙ offset_word m (suc k) (omega arith))

  -- and with N in front they are its first N words
  pub front : ◌≡◌ {A = List ℕ} (count m ∷ drop 1 (upto (edge m) (count m))) (upto (word m 0) (count m))
  front =
      ext_get_or 0 (count m ∷ drop 1 (upto (edge m) (count m))) (upto (word m 0) (count m)) (rw (long, upto-length))
      (λ k h. at k (rw long at h))
    where
      long : suc (length (drop 1 (upto (edge m) (count m)))) ≡ count m
      long = rw (length-drop, upto-length) (omega (arith, g.head))

      at : (k : ℕ) → k < count m
          → get_or (count m ∷ drop 1 (upto (edge m) (count m))) k 0 ≡ get_or (upto (word m 0) (count m)) k 0
      at zero h = sym (upto-at (word m 0) (count m) 0 0 h)
      at (suc k) h = offset_at k h ∙ sym (upto-at (word m 0) (count m) (suc k) 0 h ∙ rw zero-add)

module _ (m : List ℕ) (bytes : Bytes m) (e : (frame_code m).code ≡ 0) where
  fine : Good m
  fine = ((frame-0 m).0 e).0

  rise : TagsRise m
  rise = ((frame-0 m).0 e).1

  -- the fields that a reader finds in a good frame encode to it,
  pub encode-decode : encode (decode m) ≡ m
  unfolding encode decode offsets
  encode-decode =
      let n : ℕ = count m in
      let h : 8 * n ≤ length m = fine.head.fits in
      let two : 4 * n + 4 * n ≡ 8 * n = omega arith in
      let header : words (n ∷ (drop 1 (upto (edge m) n) ++ upto (tag_at m) n)) ≡ take (8 * n) m =
      words_append (n ∷ drop 1 (upto (edge m) n)) (upto (tag_at m) n)
      ∙ ap₂ (λ (x y : List ℕ). x ++ y) (ap words (front m fine) ∙ words-upto m bytes 0 n (omega arith))
      (words-upto m bytes (4 * n) n (omega arith))
      ∙ sym (take-add (4 * n) (4 * n) m) ∙ ap (λ (k : ℕ). take k m) two in
      let rest : take (edge m n) (drop (8 * n) m) ≡ drop (8 * n) m =
      rw (edge-last m) (take_all (section m) (drop (8 * n) m) (le_of_eq (length-drop (8 * n) m))) in
      rw (upto-length, starts-upto m fine n (le_refl n), tags-upto m n, values-upto m fine n (le_refl n), header, rest)
      (take-append-drop (8 * n) m)

  -- the edges of a good frame are multiples of four
  edge-four : (k : ℕ) → k ≤ count m → edge m k % 4 ≡ 0
  edge-four k h =
      ⊎_elim (λ (q : k ≡ count m). rw (q, edge-last m) (omega (arith, fine.size, fine.head)))
      (λ (l : k < count m). rw (edge-inner m k l) (fine.offsets.four k l)) (eq-or-lt_of_le h)

  -- and are ones that a message may hold
  pub decode-fields : Fields (decode m)
  unfolding decode offsets
  decode-fields =
      let n : ℕ = count m in
      let l : length (upto (field_at m) n) ≡ n = upto-length (field_at m) n in
      record {
        one = rw l fine.head.one;
        few = rw l fine.head.few;
        word = λ k h. rw (upto-at (field_at m) n k blank (rw l at h)) (le-bound m bytes 4 (4 * n + 4 * k));
        rise = λ k h.
            rw (upto-at (field_at m) n k blank (omega arith), upto-at (field_at m) n (k + 1) blank (omega arith))
            (rise k (omega arith));
        fours = λ k h. rw (upto-at (field_at m) n k blank (rw l at h)) (four k (rw l at h));
        near = λ k h. rw (starts-upto m fine n (le_refl n)) (near k (rw (length-drop, length-starts, l) at h));
      }
    where
      four : (k : ℕ) → k < count m → length (value_at m k) % 4 ≡ 0
      four k h =
          rw (length-value m fine k h) (omega (arith, edge-four k (omega arith), edge-four (k + 1) (omega arith)))

      near : (k : ℕ) → k < count m - 1 → get_or (drop 1 (upto (edge m) (count m))) k 0 < 2 ^ 32
      near k h = rw (offset_at m fine k (omega arith)) (le-bound m bytes 4 (4 * suc k))

-- so every good frame of bytes is the encoding of some fields that a message may hold
pub good-encoded : (m : List ℕ) → Bytes m → (frame_code m).code ≡ 0 → Encoded m
good-encoded m bytes e =
    record { fields = decode m; kept = decode-fields m bytes e; is = sym (encode-decode m bytes e) }
