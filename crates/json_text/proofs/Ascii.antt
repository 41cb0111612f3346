-- A text of ASCII is its own octets (RFC 3629, section 1).
use Prim.Native.Nat.{ℕ, ◌<◌}
use mathlib.Core.Path.{◌≡◌, refl, ◌∙◌}
use mathlib.Core.Bool.{false}
use mathlib.Core.List.{List, [], ◌∷◌}
use native.Mathlib.Omega.{arith}
use borrow.Author.Tests.{lt-leb}
use Rattle.laws.specs.Pick.{both}
use Rattle.json_strings.proofs.Plain.{Each, none, one}
use Rattle.json_text.specs.Octets.{is_high, is_low, octets, text_of}
use Rattle.json_text.proofs.Joins.{text-one, text-end}
use Rattle.json_text.proofs.Sizes.{utf8-one}

pub data Ascii : List ℕ → Type 0 where
  empty : Ascii []
  more : {c : ℕ} {l : List ℕ} → c < 0x80 → Ascii l → Ascii (c ∷ l)

below-high : (c : ℕ) → c < 0xD800 → is_high c ≡ false
unfolding is_high both
below-high c h = rw (lt-leb 0xD800 c h) refl

below-low : (c : ℕ) → c < 0xDC00 → is_low c ≡ false
unfolding is_low both
below-low c h = rw (lt-leb 0xDC00 c h) refl

pub text-ascii : {l : List ℕ} → Ascii l → text_of l ≡ octets l
text-ascii empty = text-end
text-ascii (more {c} {l} h a) =
    text-one c l (below-high c (omega arith)) (below-low c (omega arith)) ∙ rw (text-ascii a, utf8-one c h) refl

-- characters that stand for themselves are such
pub ascii-each : {l : List ℕ} → Each l → Ascii l
ascii-each none = empty
ascii-each (one p e) = more p.high (ascii-each e)
