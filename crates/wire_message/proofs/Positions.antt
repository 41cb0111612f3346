-- Laws of the writer's side: words one after the other, and where tags and values stand.
use Prim.Native.Nat.{ℕ, zero, suc, ◌+◌, ◌-◌, ◌*◌, ◌^◌, ◌≤◌, ◌<◌}
use mathlib.Core.Path.{◌≡◌, refl, sym, ap, ◌∙◌}
use mathlib.Core.List.{List, [], ◌∷◌, ◌++◌, append_assoc, append-nil}
use native.Mathlib.Nat.{le_of_suc-le-suc, zero-add, add-zero, add_assoc}
use native.Mathlib.Numerals.{add-one}
use native.Mathlib.Omega.{arith}
use lib.ListN.{length, get_or, take, drop, length-append, length-drop}
use lib.Seq.{take_at, drop_at, take-suc, take-length, split_at, get_or-drop}
use Rattle.laws.specs.Numbers.{le, le_bytes}
use Rattle.laws.proofs.Numbers.{length-le_bytes, le-behind, le-le_bytes}
use Rattle.wire_message.specs.Encode.{Field, words, starts, offsets, tags, values, field}

-- ---- numbers as u32, one after the other

-- each takes four bytes
pub length-words : (xs : List ℕ) → length (words xs) ≡ 4 * length xs
unfolding words
length-words [] = refl
length-words (x ∷ xs) = rw (length-append, length-le_bytes, length-words xs) (omega arith)

-- word k is the k-th of them, whatever stands behind
pub word_at : (xs s : List ℕ) (k : ℕ) → k < length xs → get_or xs k 0 < 2 ^ 32
    → le 4 (words xs ++ s) (4 * k) ≡ get_or xs k 0
unfolding words
word_at (x ∷ xs) s zero h b = rw append_assoc (le-le_bytes 4 x (words xs ++ s) b)
word_at (x ∷ xs) s (suc k) h b =
    let e : 4 * suc k ≡ length (le_bytes 4 x) + 4 * k = rw length-le_bytes (omega arith) in
    rw (append_assoc, e, le-behind) (word_at xs s k (le_of_suc-le-suc h) b)
word_at [] s k h b = absurd (omega arith)

-- two rows, one behind the other; and so of tags and of values
pub words_append : (xs ys : List ℕ) → words (xs ++ ys) ≡ words xs ++ words ys
unfolding words
words_append [] ys = refl
words_append (x ∷ xs) ys = rw (words_append xs ys) (sym (append_assoc (le_bytes 4 x) (words xs) (words ys)))

-- ---- the tags, the values and where they start

-- what `field` is where there is none
abbrev pub blank : Field
blank = record { tag = 0; value = [] }

-- as many tags as fields,
pub length-tags : (fs : List Field) → length (tags fs) ≡ length fs
unfolding tags
length-tags [] = refl
length-tags (f ∷ fs) = ap suc (length-tags fs)

-- each in its place
pub tag_of : (fs : List Field) (k : ℕ) → get_or (tags fs) k 0 ≡ (field fs k).tag
unfolding tags
tag_of [] k = refl
tag_of (f ∷ fs) zero = refl
tag_of (f ∷ fs) (suc k) = tag_of fs k

pub tags-append : (fs gs : List Field) → tags (fs ++ gs) ≡ tags fs ++ tags gs
unfolding tags
tags-append [] gs = refl
tags-append (f ∷ fs) gs = ap (λ (l : List ℕ). f.tag ∷ l) (tags-append fs gs)

pub values-append : (fs gs : List Field) → values (fs ++ gs) ≡ values fs ++ values gs
unfolding values
values-append [] gs = refl
values-append (f ∷ fs) gs = rw (values-append fs gs) (sym (append_assoc f.value (values fs) (values gs)))

-- how many bytes the first k values have
abbrev pub reach : List Field → ℕ → ℕ
reach fs k = length (values (take k fs))

-- as many starts as fields,
pub length-starts : (fs : List Field) (at : ℕ) → length (starts at fs) ≡ length fs
unfolding starts
length-starts [] at = refl
length-starts (f ∷ fs) at = ap suc (length-starts fs (at + length f.value))

-- value k right behind the first k,
pub start_of : (fs : List Field) (at k : ℕ) → k < length fs → get_or (starts at fs) k 0 ≡ at + reach fs k
unfolding starts values
start_of (f ∷ fs) at zero h = omega arith
start_of (f ∷ fs) at (suc k) h =
    rw length-append (start_of fs (at + length f.value) k (le_of_suc-le-suc h) ∙ omega arith)
start_of [] at k h = absurd (omega arith)

-- one more right behind them all
pub starts_more : (fs : List Field) (f : Field) (at : ℕ)
    → starts at (fs ++ (f ∷ [])) ≡ starts at fs ++ ((at + length (values fs)) ∷ [])
unfolding starts values
starts_more [] f at = rw add-zero
starts_more (g ∷ fs) f at =
    let n : ℕ = length g.value in
    rw (starts_more fs f (at + n), add_assoc at n, ← length-append g.value (values fs))

module _ (fs : List Field) where
  -- one offset less than fields
  pub length-offsets : length (offsets fs) ≡ length fs - 1
  unfolding offsets
  length-offsets = rw (length-drop, length-starts)

  -- offset k is where value k + 1 starts
  pub offset-of : (k : ℕ) → suc k < length fs → get_or (offsets fs) k 0 ≡ reach fs (suc k)
  unfolding offsets
  offset-of k h =
      let one : 1 + k ≡ suc k = omega arith in
      get_or-drop 1 (starts 0 fs) k 0 ∙ rw one (start_of fs 0 (suc k) h ∙ zero-add _)

  -- all values, cut at value k
  pub values-split : (k : ℕ) → k < length fs
      → values fs ≡ values (take k fs) ++ ((field fs k).value ++ values (drop (suc k) fs))
  unfolding values
  values-split k h = ap values (split_at fs k blank h) ∙ values-append (take k fs) (field fs k ∷ drop (suc k) fs)

  -- one value more reaches further by its length,
  pub reach-next : (k : ℕ) → k < length fs → reach fs (k + 1) ≡ reach fs k + length (field fs k).value
  unfolding values
  reach-next k h = rw (add-one, take-suc fs k blank h, values-append, length-append, append-nil)

  -- none past the end,
  pub reach-in : (k : ℕ) → k < length fs → reach fs k ≤ length (values fs)
  reach-in k h =
      let rest : List ℕ = (field fs k).value ++ values (drop (suc k) fs) in
      omega (arith, ap length (values-split k h) ∙ length-append (values (take k fs)) rest)

  -- and all of them to the end
  pub reach-all : reach fs (length fs) ≡ length (values fs)
  reach-all = rw take-length

  -- value k is what stands from the reach of k values to that of k + 1
  pub value-of-field : (k : ℕ) → k < length fs
      → take (reach fs (k + 1) - reach fs k) (drop (reach fs k) (values fs)) ≡ (field fs k).value
  value-of-field k h =
      let e : reach fs (k + 1) - reach fs k ≡ length (field fs k).value = omega (arith, reach-next k h) in
      rw (e, values-split k h, drop_at (values (take k fs)) _ (reach fs k) refl) (take_at (field fs k).value _ _ refl)
