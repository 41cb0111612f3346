-- Laws about the characters of a string, with a variable for what code holds and an equation that ties it.
use Prim.Native.Nat.{ℕ}
use mathlib.Core.Path.{◌≡◌, ap}
use mathlib.Core.Bool.{true, false}
use mathlib.Core.List.{List, [], ◌∷◌}
use native.Mathlib.Nat.{le_refl}
use native.Mathlib.Omega.{arith}
use lib.ListN.{length}
use Rattle.json_strings.specs.declared.Unit.{Unit}
use Rattle.json_strings.specs.declared.Unit.TheVariants.{Code, Close, Ill}
use Rattle.json_strings.specs.Text.{unit_at, content_at}
use Rattle.json_strings.proofs.Content.{content-code, content-close, content-ill, content-falls}
use Rattle.json_text.specs.declared.Letter.{Letter}
use Rattle.json_text.specs.declared.Letter.TheVariants.{Is, Stop, Lone}
use Rattle.json_text.specs.Octets.{is_high, is_low, paired, octets, none, text_of}
use Rattle.json_text.specs.Facts.{Begins, BegunBy, LetterOf}
use Rattle.json_text.proofs.Joins.{high-from, low-from, paired-from, text-one, text-pair, text-alone, text-other}
use Rattle.json_text.proofs.Joins.{text-end}
use Rattle.json_text.proofs.Sizes.{utf8-four, least-two, takes-code}

pub begins-one : (s : List ℕ) (c j : ℕ) → is_high c ≡ false → is_low c ≡ false → Begins s c j c j
begins-one s c j h g = record { text = text-one c (content_at s j) h g; size = le_refl _; on = le_refl _ }

module _ (s : List ℕ) {u : Unit} (c j : ℕ) (e : u ≡ unit_at s j) (h : is_high c ≡ true) where
  pub begins-pair : {d m p : ℕ} → u ≡ Code d m → is_low d ≡ true → p ≡ paired c d → Begins s c j p m
  begins-pair {d} {m} {p} f g q =
      rw q (record {
        text = rw (content-code s j e f) (text-pair c d (content_at s m) h g);
        size =
            omega (
              arith,
              ap length (utf8-four (paired c d) (paired-from c d)),
              least-two c (omega (arith, high-from c h)),
              least-two d (omega (arith, low-from d g)),
              takes-code s j e f,
            );
        on = omega (arith, content-falls s j e f);
      })

  pub lone-other : {d m : ℕ} → u ≡ Code d m → is_low d ≡ false → text_of (c ∷ content_at s j) ≡ none
  lone-other {d} {m} f g = rw (content-code s j e f) (text-other c d (content_at s m) h g)

  pub lone-close : {m : ℕ} → u ≡ Close m → text_of (c ∷ content_at s j) ≡ none
  lone-close f = rw (content-close s j e f) (text-alone c h)

  pub lone-ill : u ≡ Ill → text_of (c ∷ content_at s j) ≡ none
  lone-ill f = rw (content-ill s j e f) (text-alone c h)

module _ (s : List ℕ) {u : Unit} (k : ℕ) (e : u ≡ unit_at s k) where
  pub letter-begun : {c j : ℕ} (r : Letter) → u ≡ Code c j → BegunBy s c j r → LetterOf s k r
  letter-begun {c} {j} (Is d m) f b = record {
    text = rw (content-code s k e f) b.text;
    size = omega (arith, b.size, takes-code s k e f);
    on = omega (arith, b.on, content-falls s k e f);
  }
  letter-begun Stop f b = absurd b
  letter-begun Lone f b = rw (content-code s k e f) b

  pub letter-close : {j : ℕ} → u ≡ Close j → text_of (content_at s k) ≡ octets []
  letter-close f = rw (content-close s k e f) text-end

  pub letter-ill : u ≡ Ill → text_of (content_at s k) ≡ octets []
  letter-ill f = rw (content-ill s k e f) text-end
