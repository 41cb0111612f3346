-- Laws about groups of characters in a string, and about the size of what they stand for.
use Rattle.std.specs.Prelude.{None, Option, Some}
use Prim.Native.Nat.{ℕ, ◌+◌}
use mathlib.Core.Path.{◌≡◌, refl, sym, ◌∙◌, ap}
use mathlib.Core.Bool.{Bool, true, false, ◌||◌, true≢false}
use mathlib.Core.List.{List, [], ◌∷◌}
use native.Mathlib.Omega.{arith}
use lib.ListN.{length, length-append}
use Rattle.json_strings.specs.Text.{content_at, latin_at}
use Rattle.json_strings.proofs.Content.{content-code, content-falls}
use Rattle.json_strings.proofs.TwoDigits.{latin-unit}
use Rattle.std.specs.Bool.{then_some}
use Rattle.base64_strict.specs.declared.Group.{Group}
use Rattle.base64_strict.specs.declared.Group.TheVariants.{Three, Two, One}
use Rattle.base64_strict.specs.Decode.{Decoded, bytes, none, onto, with_group, group_of, decode64}
use Rattle.base64_strict.proofs.Decodes.{decode-group}
use Rattle.json_base64.specs.declared.Quad.{Quad}
use Rattle.json_base64.specs.declared.Quad.TheVariants.{Four, End}
use Rattle.json_base64.specs.Sized.{size_of, empty, Reads, Grouped, QuadOf}

-- fewer than four characters stand for nothing
module _ {s : List ℕ} {k a i : ℕ} (r : Reads s k a i) where
  pub fewer-one : content_at s i ≡ [] → decode64 (content_at s k) ≡ none
  unfolding decode64
  fewer-one h = rw (r.text, h) refl

  pub fewer-two : {b j : ℕ} → Reads s i b j → content_at s j ≡ [] → decode64 (content_at s k) ≡ none
  unfolding decode64
  fewer-two q h = rw (r.text, q.text, h) refl

  pub fewer-three : {b j c m : ℕ} → Reads s i b j → Reads s j c m → content_at s m ≡ [] → decode64 (content_at s k) ≡ none
  unfolding decode64
  fewer-three q p h = rw (r.text, q.text, p.text, h) refl

  pub grouped : {b j c m d n : ℕ} {g : Option Group} → Reads s i b j → Reads s j c m → Reads s m d n → g ≡ group_of a b c d
      → Grouped s k g n
  grouped {b} {j} {c} {m} {d} q p o e = record {
    a = a;
    b = b;
    c = c;
    d = d;
    text = rw (r.text, q.text, p.text, o.text) refl;
    group = e;
    on = omega (arith, r.on, q.on, p.on, o.on);
  }

-- a character that is written as \u00 and two digits
pub reads-latin : {s : List ℕ} {k j c : ℕ} → j ≡ k + 6 → c ≡ latin_at s k → (c ≡ 256 → ⊥) → Reads s k c j
reads-latin {s} {k} q e n =
    let u = latin-unit s k e n in rw q (record { text = content-code s k refl u; on = content-falls s k refl u })

-- of two tests that fail at once, each by itself
pub neither : (a b : Bool) → a || b ≡ false → (a ≡ false) × (b ≡ false)
neither true b e = absurd (true≢false e)
neither false b e = (refl, e)

pub decode-at : {s : List ℕ} {k j : ℕ} {g : Option Group} (q : Grouped s k g j)
    → decode64 (content_at s k) ≡ with_group g (content_at s j) (decode64 (content_at s j))
decode-at {s} {k} {j} q = ap decode64 q.text ∙ decode-group q.a q.b q.c q.d (content_at s j) q.group

-- four characters that are no group stand for nothing
pub grouped-none : {s : List ℕ} {k j : ℕ} → Grouped s k None j → decode64 (content_at s k) ≡ none
grouped-none q = decode-at q

-- ---- The size. n bytes went before.
size-onto : (n : ℕ) (xs : List ℕ) (m : ℕ) (d : Decoded) → m ≡ n + length xs → size_of m d ≡ size_of n (onto xs d)
size-onto n xs m (bytes y) e = ap Some (omega (arith, length-append xs y))
size-onto n xs m none e = refl

module _ {s : List ℕ} {k j : ℕ} {g : Option Group} (n : ℕ) (q : Grouped s k g j) where
  pub size-three : {x y z : ℕ} → g ≡ Some (Three x y z)
      → size_of (n + 3) (decode64 (content_at s j)) ≡ size_of n (decode64 (content_at s k))
  size-three {x} {y} {z} e = rw (decode-at q, e) (size-onto n (x ∷ y ∷ z ∷ []) (n + 3) (decode64 (content_at s j)) refl)

  size-two : {x y : ℕ} {t : Bool} → g ≡ Some (Two x y) → t ≡ empty (content_at s j) → t ≡ true
      → Some (n + 2) ≡ size_of n (decode64 (content_at s k))
  size-two {x} {y} e f h = rw (decode-at q, e) (by (content_at s j) (sym f ∙ h))
    where
      by : (l : List ℕ) → empty l ≡ true → Some (n + 2) ≡ size_of n (with_group (Some (Two x y)) l (decode64 (content_at s j)))
      by [] u = refl
      by (z ∷ l) u = cc

  size-one : {x : ℕ} {t : Bool} → g ≡ Some (One x) → t ≡ empty (content_at s j) → t ≡ true
      → Some (n + 1) ≡ size_of n (decode64 (content_at s k))
  size-one {x} e f h = rw (decode-at q, e) (by (content_at s j) (sym f ∙ h))
    where
      by : (l : List ℕ) → empty l ≡ true → Some (n + 1) ≡ size_of n (with_group (Some (One x)) l (decode64 (content_at s j)))
      by [] u = refl
      by (z ∷ l) u = cc

  size-two-more : {x y : ℕ} {t : Bool} → g ≡ Some (Two x y) → t ≡ empty (content_at s j) → t ≡ false
      → None ≡ size_of n (decode64 (content_at s k))
  size-two-more {x} {y} e f h = rw (decode-at q, e) (by (content_at s j) (sym f ∙ h))
    where
      by : (l : List ℕ) → empty l ≡ false → None ≡ size_of n (with_group (Some (Two x y)) l (decode64 (content_at s j)))
      by [] u = cc
      by (z ∷ l) u = refl

  size-one-more : {x : ℕ} {t : Bool} → g ≡ Some (One x) → t ≡ empty (content_at s j) → t ≡ false
      → None ≡ size_of n (decode64 (content_at s k))
  size-one-more {x} e f h = rw (decode-at q, e) (by (content_at s j) (sym f ∙ h))
    where
      by : (l : List ℕ) → empty l ≡ false → None ≡ size_of n (with_group (Some (One x)) l (decode64 (content_at s j)))
      by [] u = cc
      by (z ∷ l) u = refl

  -- a group of two bytes or of one ends the string
  pub size-two-end : {x y : ℕ} {t : Bool} → g ≡ Some (Two x y) → t ≡ empty (content_at s j)
      → then_some t (n + 2) ≡ size_of n (decode64 (content_at s k))
  size-two-end {x} {y} {t} e f = by t f
    where
      by : (t : Bool) → t ≡ empty (content_at s j) → then_some t (n + 2) ≡ size_of n (decode64 (content_at s k))
      by true f = size-two e f refl
      by false f = size-two-more e f refl

  pub size-one-end : {x : ℕ} {t : Bool} → g ≡ Some (One x) → t ≡ empty (content_at s j)
      → then_some t (n + 1) ≡ size_of n (decode64 (content_at s k))
  size-one-end {x} {t} e f = by t f
    where
      by : (t : Bool) → t ≡ empty (content_at s j) → then_some t (n + 1) ≡ size_of n (decode64 (content_at s k))
      by true f = size-one e f refl
      by false f = size-one-more e f refl

pub size-end : (n : ℕ) (s : List ℕ) (k : ℕ) → content_at s k ≡ [] → Some n ≡ size_of n (decode64 (content_at s k))
unfolding decode64
size-end n s k e = rw e (ap Some (omega arith))

-- what is no group, and answered, is the end
pub quad-over : (s : List ℕ) (k : ℕ) (q : Quad) → QuadOf s k (Some q) → ((g : Group) (j : ℕ) → q ≡ Four g j → ⊥)
    → content_at s k ≡ []
quad-over s k (Four g j) e h = absurd (h g j refl)
quad-over s k End e h = e

pub size-fewer : (n : ℕ) (d : Decoded) → d ≡ none → None ≡ size_of n d
size-fewer n d e = rw e refl
