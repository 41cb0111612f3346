-- A character's octets are no more than the bytes that it takes in a string.
use Rattle.std.specs.Prelude.{None, Some}
use Prim.Native.Nat.{ℕ, ◌+◌, ◌/◌, ◌%◌, ◌≤◌, ◌<◌}
use mathlib.Core.Path.{◌≡◌, refl, sym, ◌∙◌, ap}
use mathlib.Core.Bool.{true}
use mathlib.Core.List.{List, [], ◌∷◌}
use native.Mathlib.Omega.{arith}
use borrow.Author.Tests.{ltb-true, lt-ltb, le-ltb}
use lib.Dec.{T, ltb}
use lib.ListN.{length, get_or, length-append}
use Rattle.laws.specs.Pick.{pick}
use Rattle.json_tokens.proofs.Ahead.{of-pick, of-pick-if}
use Rattle.json_strings.specs.declared.Unit.{Unit}
use Rattle.json_strings.specs.declared.Unit.TheVariants.{Code, Close, Ill}
use Rattle.json_strings.specs.Text.{escape_of, hex_at, escape_at, more_bits, two_at, three_at, four_at, long_at, wide_at, unit_at}
use Rattle.json_strings.specs.Text.{content_at}
use Rattle.json_text.specs.Octets.{trailing, utf8, Text, octets, none, onto, text_of, size_of}
use Rattle.json_text.specs.Facts.{Reads}

-- ---- The octets of a character, and how many they are.
pub utf8-one : (c : ℕ) → c < 0x80 → utf8 c ≡ c ∷ []
unfolding utf8 pick
utf8-one c h = rw (lt-ltb c 0x80 h) refl

pub utf8-two : (c : ℕ) → 0x80 ≤ c → c < 0x800 → utf8 c ≡ (0xC0 + c / 64 % 32) ∷ trailing c ∷ []
unfolding utf8 pick
utf8-two c h g = rw (le-ltb c 0x80 h, lt-ltb c 0x800 g) refl

pub utf8-three : (c : ℕ) → 0x800 ≤ c → c < 0x10000
    → utf8 c ≡ (0xE0 + c / 4096 % 16) ∷ trailing (c / 64) ∷ trailing c ∷ []
unfolding utf8 pick
utf8-three c h g = rw (le-ltb c 0x80 (omega arith), le-ltb c 0x800 h, lt-ltb c 0x10000 g) refl

pub utf8-four : (c : ℕ) → 0x10000 ≤ c
    → utf8 c ≡ (0xF0 + c / 262144 % 8) ∷ trailing (c / 4096) ∷ trailing (c / 64) ∷ trailing c ∷ []
unfolding utf8 pick
utf8-four c h = rw (le-ltb c 0x80 (omega arith), le-ltb c 0x800 (omega arith), le-ltb c 0x10000 h) refl

pick_true : {A : Type 0} (P : A → Type 0) {x : A} (y : A) → P x → P (pick true x y)
unfolding pick
pick_true P y p = p

most-four : (c : ℕ) → length (utf8 c) ≤ 4
unfolding utf8
most-four c =
    of-pick (λ (l : List ℕ). length l ≤ 4) _ (omega arith) (of-pick (λ (l : List ℕ). length l ≤ 4) _ (omega arith)
    (of-pick (λ (l : List ℕ). length l ≤ 4) _ (omega arith) (omega arith)))

four-fit : (c k : ℕ) {j : ℕ} → k + 4 ≤ j → length (utf8 c) + k ≤ j
four-fit c k h = omega (arith, most-four c)

most-three : (c : ℕ) → c < 0x10000 → length (utf8 c) ≤ 3
unfolding utf8
most-three c h =
    of-pick (λ (l : List ℕ). length l ≤ 3) _ (omega arith) (of-pick (λ (l : List ℕ). length l ≤ 3) _ (omega arith)
    (rw (lt-ltb c 0x10000 h) (pick_true (λ (l : List ℕ). length l ≤ 3) _ (omega arith))))

most-two : (c : ℕ) → c < 0x800 → length (utf8 c) ≤ 2
unfolding utf8
most-two c h =
    of-pick (λ (l : List ℕ). length l ≤ 2) _ (omega arith)
    (rw (lt-ltb c 0x800 h) (pick_true (λ (l : List ℕ). length l ≤ 2) _ (omega arith)))

pub least-two : (c : ℕ) → 0x80 ≤ c → 2 ≤ length (utf8 c)
unfolding utf8 pick
least-two c h = rw (le-ltb c 0x80 h) (of-pick (λ (l : List ℕ). 2 ≤ length l) (ltb c 0x800) (omega arith)
    (of-pick (λ (l : List ℕ). 2 ≤ length l) (ltb c 0x10000) (omega arith) (omega arith)))

-- ---- What the readers of strings answer.
abbrev pub Takes : ℕ → Unit → Type 0
Takes k (Code c j) = length (utf8 c) + k ≤ j
Takes k (Close j) = T true
Takes k Ill = T true

escape-small : (b : ℕ) → escape_of b < 0x80
unfolding escape_of
escape-small b =
    of-pick (λ n. n < 0x80) _ (omega arith) (of-pick (λ n. n < 0x80) _ (omega arith)
    (of-pick (λ n. n < 0x80) _ (omega arith) (of-pick (λ n. n < 0x80) _ (omega arith)
    (of-pick (λ n. n < 0x80) _ (omega arith) (of-pick (λ n. n < 0x80) _ (omega arith)
    (of-pick (λ n. n < 0x80) _ (omega arith) (of-pick (λ n. n < 0x80) _ (omega arith) (omega arith))))))))

takes-hex : (s : List ℕ) (k at : ℕ) → k ≤ at → Takes k (hex_at s at)
unfolding hex_at
takes-hex s k at h =
    of-pick (Takes k) _ tt (of-pick (Takes k) _ tt (of-pick (Takes k) _ tt (of-pick (Takes k) _ tt
    (four-fit _ k (omega arith)))))

takes-escape : (s : List ℕ) (k at : ℕ) → k ≤ at → Takes k (escape_at s at)
unfolding escape_at
takes-escape s k at h =
    of-pick (Takes k) _ (takes-hex s k (at + 1) (omega arith))
    (of-pick (Takes k) _ tt (omega (arith, ap length (utf8-one _ (escape-small (get_or s at 0))))))

two-small : (s : List ℕ) (at : ℕ) → two_at s at < 0x800
unfolding two_at more_bits
two-small s at = omega arith

three-small : (s : List ℕ) (at : ℕ) → three_at s at < 0x10000
unfolding three_at more_bits
three-small s at = omega arith

takes-long : (s : List ℕ) (k : ℕ) → Takes k (long_at s k)
unfolding long_at
takes-long s k =
    of-pick (Takes k) _ (of-pick (Takes k) _ (omega (arith, most-three _ (three-small s k)))
    (of-pick (Takes k) _ (of-pick (Takes k) _ (omega (arith, most-four (four_at s k))) tt) tt)) tt

takes-wide : (s : List ℕ) (k : ℕ) → Takes k (wide_at s k)
unfolding wide_at
takes-wide s k =
    of-pick (Takes k) _ tt (of-pick (Takes k) _
    (of-pick (Takes k) _ (omega (arith, most-two _ (two-small s k))) (takes-long s k)) tt)

pub takes-unit : (s : List ℕ) (k : ℕ) → Takes k (unit_at s k)
unfolding unit_at
takes-unit s k =
    of-pick (Takes k) _ tt (of-pick (Takes k) _ (takes-escape s k (k + 1) (omega arith))
    (of-pick (Takes k) _ tt
    (of-pick-if (Takes k) _ (λ t. omega (arith, ap length (utf8-one (get_or s k 0) (ltb-true _ _ t)))) (takes-wide s k))))

pub takes-code : (s : List ℕ) {u : Unit} (k : ℕ) {c j : ℕ} → u ≡ unit_at s k → u ≡ Code c j → length (utf8 c) + k ≤ j
takes-code s k e h = rw (sym e ∙ h) at (takes-unit s k)

-- ---- The size of a text, of which n octets went before.
size-onto : (n : ℕ) (x : List ℕ) (t : Text) → size_of (n + length x) t ≡ size_of n (onto x t)
size-onto n x (octets y) = ap Some (omega (arith, length-append x y))
size-onto n x none = refl

pub size-next : (n : ℕ) {s : List ℕ} {k c j m : ℕ} → Reads s k c j → m ≡ length (utf8 c)
    → size_of (n + m) (text_of (content_at s j)) ≡ size_of n (text_of (content_at s k))
size-next n {s} {k} {c} {j} r e = rw (e, r.text) (size-onto n (utf8 c) (text_of (content_at s j)))

pub size-end : (n : ℕ) (t : Text) → t ≡ octets [] → Some n ≡ size_of n t
size-end n t e = rw e (ap Some (omega arith))

pub size-bad : (n : ℕ) (t : Text) → t ≡ none → None ≡ size_of n t
size-bad n t e = rw e refl
