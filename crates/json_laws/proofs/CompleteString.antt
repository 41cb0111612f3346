-- The reader of a string reads what derives from `string`, whatever follows, and finds in it what the derivation means.
use Rattle.std.specs.Prelude.{None}
use Prim.Native.Nat.{ℕ, ◌+◌, ◌-◌, ◌*◌, ◌%◌, ◌≤◌, ◌<◌}
use mathlib.Core.Path.{◌≡◌, refl, sym, ◌∙◌, ap}
use mathlib.Core.Bool.{true}
use mathlib.Core.List.{List, [], ◌∷◌, ◌++◌, append_assoc}
use native.Mathlib.Omega.{arith}
use borrow.Author.Tests.{eqb-true, le-leb, lt-leb, lt-ltb, le-ltb}
use lib.Dec.{eqb}
use lib.ListN.{length, get_or}
use Rattle.laws.specs.Pick.{pick, both}
use Rattle.json_strings.specs.declared.Unit.{Unit}
use Rattle.json_strings.specs.declared.Unit.TheVariants.{Code, Close, Ill}
use Rattle.json_tokens.specs.Walk.{walked}
use Rattle.json_strings.specs.Text.{escape_of, nibble_of, nibble_at, hex_at, escape_at, least_second, most_second, second_at, tail_at}
use Rattle.json_strings.specs.Text.{more_bits, two_at, three_at, four_at, long_at, wide_at, unit_at, step_of, unit_step, string_at}
use Rattle.json_strings.specs.Text.{content_at}
use Rattle.json_strings.proofs.Ahead.{forth-unit}
use Rattle.json_strings.proofs.Content.{content-code, content-close}
use Rattle.json_laws.specs.Rules.{these, within, join, left, right, *◌, none, more}
use Rattle.json_laws.specs.Abnf
use Rattle.json_laws.specs.Tree.{utf8, hex_of, unit_of, units_of, paired, string_of}
use Rattle.json_laws.proofs.Rest.{Rest, Passes, if-true, if-false, if-is, if-not, rest-front, rest-past, rest-next}
use Rattle.json_laws.proofs.Rest.{rest-as, Reads, Any, Goes, goes, Stays, stays, walk-on, walk-last}
use Rattle.json_laws.proofs.Spans.{of-pick-cases}

-- a character with the number c ends where t stands
pub data Told (s t : List ℕ) (c : ℕ) : Unit → Type 0 where
  code : {j : ℕ} → Rest s j t → Told s t c (Code c j)

told-goes : {s t : List ℕ} {c : ℕ} {u : Unit} → Told s t c u → Goes s t (step_of u)
told-goes (code h) = goes h

code-as : {s t : List ℕ} {c n j : ℕ} → n ≡ c → Rest s j t → Told s t c (Code n j)
code-as e h = rw e (code h)

-- ---- Hexadecimal digits.
data Hex (n : ℕ) : List ℕ → Type 0 where
  hex : {b : ℕ} → nibble_of b ≡ n → n < 16 → Hex n (b ∷ [])

hex-is : (x : List ℕ) (d : Abnf.HEXDIG x) → Hex (hex_of x d) x
unfolding nibble_of pick hex_of Abnf.HEXDIG Abnf.DIGIT
hex-is x (left (within {b = b} l h)) = hex {b = b} (rw (le-ltb b 48 l, le-leb b 57 h) refl) (omega arith)
hex-is x (right (left (within {b = b} l h))) =
    hex {b = b} (rw (le-ltb b 48 (omega arith), lt-leb b 57 (omega arith), le-ltb b 65 l, le-leb b 70 h) refl)
    (omega arith)
hex-is x (right (right (within {b = b} l h))) =
    hex {b = b} (rw (
      le-ltb b 48 (omega arith),
      lt-leb b 57 (omega arith),
      le-ltb b 65 (omega arith),
      lt-leb b 70 (omega arith),
      le-ltb b 97 l,
      le-leb b 102 h,
    ) refl) (omega arith)

-- ---- Bits.
tail-bits : (c : ℕ) → 128 ≤ c → c ≤ 191 → c % 64 ≡ c - 128
tail-bits c l m = omega arith

bits-2 : (b c : ℕ) → 194 ≤ b → b < 224 → 128 ≤ c → c ≤ 191
    → 64 * (b % 32) + c % 64 ≡ (b - 192) * 64 + (c - 128)
bits-2 b c l m o p = omega arith

bits-3 : (b c d : ℕ) → 224 ≤ b → b < 240 → 128 ≤ c → c ≤ 191 → 128 ≤ d → d ≤ 191
    → 64 * (64 * (b % 16) + c % 64) + d % 64 ≡ (b - 224) * 4096 + (c - 128) * 64 + (d - 128)
bits-3 b c d l m o p q r =
    let f : b % 16 ≡ b - 224 = omega arith in rw (f, tail-bits c o p, tail-bits d q r) (omega arith)

bits-4 : (b c d e : ℕ) → 240 ≤ b → b < 245 → 128 ≤ c → c ≤ 191 → 128 ≤ d → d ≤ 191 → 128 ≤ e → e ≤ 191
    → 64 * (64 * (64 * (b % 8) + c % 64) + d % 64) + e % 64
    ≡ (b - 240) * 262144 + (c - 128) * 4096 + (d - 128) * 64 + (e - 128)
bits-4 b c d e l m o p q r v w =
    let f : b % 8 ≡ b - 240 = omega arith in
    rw (f, tail-bits c o p, tail-bits d q r, tail-bits e v w) (omega arith)

-- ---- The second byte of a character.
least-le : (b c : ℕ) → 128 ≤ c → (b ≡ 224 → 160 ≤ c) → (b ≡ 240 → 144 ≤ c) → least_second b ≤ c
unfolding least_second
least-le b c h p q =
    of-pick-cases (λ n. n ≤ c) (eqb b 224) (λ t. p (eqb-true _ _ t))
    (λ t. of-pick-cases (λ n. n ≤ c) (eqb b 240) (λ u. q (eqb-true _ _ u)) (λ u. h))

most-le : (b c : ℕ) → c ≤ 191 → (b ≡ 237 → c ≤ 159) → (b ≡ 244 → c ≤ 143) → c ≤ most_second b
unfolding most_second
most-le b c h p q =
    of-pick-cases (λ n. c ≤ n) (eqb b 237) (λ t. p (eqb-true _ _ t))
    (λ t. of-pick-cases (λ n. c ≤ n) (eqb b 244) (λ u. q (eqb-true _ _ u)) (λ u. h))

module _ {s : List ℕ} (k : ℕ) (t : List ℕ) where
  -- ---- Escapes.
  four-told : {x y z w : List ℕ} {f g i j : ℕ} → Hex f x → Hex g y → Hex i z → Hex j w
      → Rest s k ((x ++ (y ++ (z ++ w))) ++ t) → Told s t (f * 4096 + g * 256 + i * 16 + j) (hex_at s k)
  unfolding hex_at nibble_at
  four-told {f = f} {g = g} {i = i} {j = j} (hex {b = a} p l) (hex {b = b} q m) (hex {b = c} r n) (hex {b = d} v o) h =
      let e1 : nibble_of (get_or s k 0) ≡ f = ap nibble_of (rest-front h) ∙ p in
      let e2 : nibble_of (get_or s (k + 1) 0) ≡ g =
      ap nibble_of (rest-front (rest-past (a ∷ []) (b ∷ c ∷ d ∷ t) h)) ∙ q in
      let e3 : nibble_of (get_or s (k + 2) 0) ≡ i =
      ap nibble_of (rest-front (rest-past (a ∷ b ∷ []) (c ∷ d ∷ t) h)) ∙ r in
      let e4 : nibble_of (get_or s (k + 3) 0) ≡ j =
      ap nibble_of (rest-front (rest-past (a ∷ b ∷ c ∷ []) (d ∷ t) h)) ∙ v in
      if-not (Told s t _) Ill (λ (z : nibble_of (get_or s k 0) ≡ 16). omega arith)
      (if-not (Told s t _) Ill (λ (z : nibble_of (get_or s (k + 1) 0) ≡ 16). omega arith)
      (if-not (Told s t _) Ill (λ (z : nibble_of (get_or s (k + 2) 0) ≡ 16). omega arith)
      (if-not (Told s t _) Ill (λ (z : nibble_of (get_or s (k + 3) 0) ≡ 16). omega arith)
      (code-as (omega arith) (rest-past (a ∷ b ∷ c ∷ d ∷ []) t h)))))

  letter-told : (a c : ℕ) → (a ≡ 117 → ⊥) → escape_of a ≡ c → 0 < c → Rest s k (a ∷ t) → Told s t c (escape_at s k)
  unfolding escape_at
  letter-told a c n z o h =
      let e : escape_of (get_or s k 0) ≡ c = ap escape_of (rest-front h) ∙ z in
      if-not (Told s t c) (hex_at s (k + 1)) (λ e. n (sym (rest-front h) ∙ e))
      (if-not (Told s t c) Ill (λ (g : escape_of (get_or s k 0) ≡ 0). omega arith) (code-as e (rest-next h)))

  u-told : {c : ℕ} {u : List ℕ} → Rest s k (117 ∷ u) → Told s t c (hex_at s (k + 1)) → Told s t c (escape_at s k)
  unfolding escape_at
  u-told {c} h g = if-is (Told s t c) _ (rest-front h) g

  -- ---- UTF-8.
  second_is : (b c : ℕ) (u : List ℕ) → least_second b ≤ c → c ≤ most_second b → Rest s k (b ∷ c ∷ u) → second_at s k ≡ true
  unfolding second_at both
  second_is b c u l m h =
      rw (rest-front h, rest-front (rest-next h), le-leb (least_second b) c l, le-leb c (most_second b) m) refl

tail-is : {s : List ℕ} (k c : ℕ) (u : List ℕ) → 128 ≤ c → c ≤ 191 → Rest s k (c ∷ u) → tail_at s k ≡ true
unfolding tail_at both
tail-is k c u l m h = rw (rest-front h, le-leb 128 c l, le-leb c 191 m) refl

module _ {s : List ℕ} (k : ℕ) (t : List ℕ) where
  two-told : (b c : ℕ) → 194 ≤ b → b < 224 → 128 ≤ c → c ≤ 191 → Rest s k (b ∷ c ∷ t)
      → Told s t (utf8 (b ∷ c ∷ [])) (wide_at s k)
  unfolding wide_at two_at more_bits utf8
  two-told b c l m o p h =
      if-false (Told s t _) Ill (rw (rest-front h) (le-ltb b 194 l))
      (if-true (Told s t _) Ill (second_is k t b c t (least-le b c o (λ e. omega arith) (λ e. omega arith))
      (most-le b c p (λ e. omega arith) (λ e. omega arith)) h)
      (if-true (Told s t _) (long_at s k) (rw (rest-front h) (lt-ltb b 224 m))
      (code-as (rw (rest-front h, rest-front (rest-next h)) (bits-2 b c l m o p)) (rest-past (b ∷ c ∷ []) t h))))

  -- past the second byte
  long-told : {n : ℕ} (b c : ℕ) (u : List ℕ) → 224 ≤ b → least_second b ≤ c → c ≤ most_second b → Rest s k (b ∷ c ∷ u)
      → Told s t n (long_at s k) → Told s t n (wide_at s k)
  unfolding wide_at
  long-told {n} b c u l o p h g =
      if-false (Told s t n) Ill (rw (rest-front h) (le-ltb b 194 (omega arith)))
      (if-true (Told s t n) Ill (second_is k t b c u o p h)
      (if-false (Told s t n) (Code (two_at s k) (k + 2)) (rw (rest-front h) (le-ltb b 224 l)) g))

  three-told : (b c d : ℕ) → 224 ≤ b → b < 240 → least_second b ≤ c → c ≤ most_second b → 128 ≤ c → c ≤ 191 → 128 ≤ d
      → d ≤ 191 → Rest s k (b ∷ c ∷ d ∷ t) → Told s t (utf8 (b ∷ c ∷ d ∷ [])) (wide_at s k)
  unfolding long_at three_at more_bits utf8
  three-told b c d l m o p i j q r h =
      let f2 = rest-front (rest-past (b ∷ []) (c ∷ d ∷ t) h) in
      let f3 = rest-front (rest-past (b ∷ c ∷ []) (d ∷ t) h) in
      long-told b c (d ∷ t) l o p h
      (if-true (Told s t _) Ill (tail-is (k + 2) d t q r (rest-past (b ∷ c ∷ []) (d ∷ t) h))
      (if-true (Told s t _) _ (rw (rest-front h) (lt-ltb b 240 m))
      (code-as (rw (rest-front h, f2, f3) (bits-3 b c d l m i j q r)) (rest-past (b ∷ c ∷ d ∷ []) t h))))

  tails-told : (b c d e : ℕ) → 240 ≤ b → b < 245 → least_second b ≤ c → c ≤ most_second b → 128 ≤ c → c ≤ 191 → 128 ≤ d
      → d ≤ 191 → 128 ≤ e → e ≤ 191 → Rest s k (b ∷ c ∷ d ∷ e ∷ t) → Told s t (utf8 (b ∷ c ∷ d ∷ e ∷ [])) (wide_at s k)
  unfolding long_at four_at more_bits utf8
  tails-told b c d e l m o p i j q r v w h =
      let f2 = rest-front (rest-past (b ∷ []) (c ∷ d ∷ e ∷ t) h) in
      let f3 = rest-front (rest-past (b ∷ c ∷ []) (d ∷ e ∷ t) h) in
      let f4 = rest-front (rest-past (b ∷ c ∷ d ∷ []) (e ∷ t) h) in
      long-told b c (d ∷ e ∷ t) (omega arith) o p h
      (if-true (Told s t _) Ill (tail-is (k + 2) d (e ∷ t) q r (rest-past (b ∷ c ∷ []) (d ∷ e ∷ t) h))
      (if-false (Told s t _) (Code (three_at s k) (k + 3)) (rw (rest-front h) (le-ltb b 240 l))
      (if-true (Told s t _) Ill (tail-is (k + 3) e t v w (rest-past (b ∷ c ∷ d ∷ []) (e ∷ t) h))
      (if-true (Told s t _) Ill (rw (rest-front h) (lt-ltb b 245 m))
      (code-as (rw (rest-front h, f2, f3, f4) (bits-4 b c d e l m i j q r v w))
      (rest-past (b ∷ c ∷ d ∷ e ∷ []) t h))))))

  -- ---- Characters.
  plain-told : (c : ℕ) → 32 ≤ c → c < 128 → (c ≡ 34 → ⊥) → (c ≡ 92 → ⊥) → Rest s k (c ∷ t)
      → Told s t c (unit_at s k)
  unfolding unit_at
  plain-told c l m n o h =
      if-not (Told s t c) (Close (k + 1)) (λ e. n (sym (rest-front h) ∙ e))
      (if-not (Told s t c) (escape_at s (k + 1)) (λ e. o (sym (rest-front h) ∙ e))
      (if-false (Told s t c) Ill (rw (rest-front h) (le-ltb c 32 l))
      (if-true (Told s t c) (wide_at s k) (rw (rest-front h) (lt-ltb c 128 m)) (code-as (rest-front h) (rest-next h)))))

  wide-told : {n : ℕ} (b : ℕ) (u : List ℕ) → 128 ≤ b → Rest s k (b ∷ u) → Told s t n (wide_at s k)
      → Told s t n (unit_at s k)
  unfolding unit_at
  wide-told {n} b u l h g =
      let f : get_or s k 0 ≡ b = rest-front h in
      if-not (Told s t n) (Close (k + 1)) (λ (e : get_or s k 0 ≡ 34). omega arith)
      (if-not (Told s t n) (escape_at s (k + 1)) (λ (e : get_or s k 0 ≡ 92). omega arith)
      (if-false (Told s t n) Ill (rw f (le-ltb b 32 (omega arith)))
      (if-false (Told s t n) (Code (get_or s k 0) (k + 1)) (rw f (le-ltb b 128 l)) g)))

  utf8-2-told : (x : List ℕ) → Abnf.UTF8-2 x → Rest s k (x ++ t) → Told s t (utf8 x) (unit_at s k)
  unfolding Abnf.UTF8-2 Abnf.UTF8-tail
  utf8-2-told x (join (within {b = b} l m) (within {b = c} o p)) h =
      wide-told b (c ∷ t) (omega arith) h (two-told b c l (omega arith) o p h)

  utf8-3-told : (x : List ℕ) → Abnf.UTF8-3 x → Rest s k (x ++ t) → Told s t (utf8 x) (unit_at s k)
  unfolding Abnf.UTF8-3 Abnf.UTF8-tail
  utf8-3-told x (left (join these (join (within {b = c} o p) (within {b = d} q r)))) h =
      wide-told 224 (c ∷ d ∷ t) (omega arith) h
      (three-told 224 c d (omega arith) (omega arith)
      (least-le 224 c (omega arith) (λ e. omega arith) (λ e. omega arith))
      (most-le 224 c p (λ e. omega arith) (λ e. omega arith)) (omega arith) (omega arith) q r h)
  utf8-3-told x (right (left (join (within {b = b} l m) (join (within {b = c} o p) (within {b = d} q r))))) h =
      wide-told b (c ∷ d ∷ t) (omega arith) h
      (three-told b c d (omega arith) (omega arith) (least-le b c o (λ e. omega arith) (λ e. omega arith))
      (most-le b c p (λ e. omega arith) (λ e. omega arith)) (omega arith) (omega arith) q r h)
  utf8-3-told x (right (right (left (join these (join (within {b = c} o p) (within {b = d} q r)))))) h =
      wide-told 237 (c ∷ d ∷ t) (omega arith) h
      (three-told 237 c d (omega arith) (omega arith) (least-le 237 c o (λ e. omega arith) (λ e. omega arith))
      (most-le 237 c (omega arith) (λ e. omega arith) (λ e. omega arith)) (omega arith) (omega arith) q r h)
  utf8-3-told x (right (right (right (join (within {b = b} l m) (join (within {b = c} o p) (within {b = d} q r)))))) h =
      wide-told b (c ∷ d ∷ t) (omega arith) h
      (three-told b c d (omega arith) (omega arith) (least-le b c o (λ e. omega arith) (λ e. omega arith))
      (most-le b c p (λ e. omega arith) (λ e. omega arith)) (omega arith) (omega arith) q r h)

  utf8-4-told : (x : List ℕ) → Abnf.UTF8-4 x → Rest s k (x ++ t) → Told s t (utf8 x) (unit_at s k)
  unfolding Abnf.UTF8-4 Abnf.UTF8-tail
  utf8-4-told x (left (join these (join (within {b = c} o p) (join (within {b = d} q r) (within {b = e} v w))))) h =
      wide-told 240 (c ∷ d ∷ e ∷ t) (omega arith) h
      (tails-told 240 c d e (omega arith) (omega arith)
      (least-le 240 c (omega arith) (λ z. omega arith) (λ z. omega arith))
      (most-le 240 c p (λ z. omega arith) (λ z. omega arith)) (omega arith) (omega arith) q r v w h)
  utf8-4-told x (right (left (join (within {b = b} l m)
      (join (within {b = c} o p) (join (within {b = d} q r) (within {b = e} v w)))))) h =
      wide-told b (c ∷ d ∷ e ∷ t) (omega arith) h
      (tails-told b c d e (omega arith) (omega arith) (least-le b c o (λ z. omega arith) (λ z. omega arith))
      (most-le b c p (λ z. omega arith) (λ z. omega arith)) (omega arith) (omega arith) q r v w h)
  utf8-4-told x (right (right (join these (join (within {b = c} o p)
      (join (within {b = d} q r) (within {b = e} v w)))))) h =
      wide-told 244 (c ∷ d ∷ e ∷ t) (omega arith) h
      (tails-told 244 c d e (omega arith) (omega arith) (least-le 244 c o (λ z. omega arith) (λ z. omega arith))
      (most-le 244 c (omega arith) (λ z. omega arith) (λ z. omega arith)) (omega arith) (omega arith) q r v w h)

  unescaped-told : (x : List ℕ) → Abnf.unescaped x → Rest s k (x ++ t) → Told s t (utf8 x) (unit_at s k)
  unfolding Abnf.unescaped utf8
  unescaped-told x (left (within {b = c} l m)) h =
      plain-told c (omega arith) (omega arith) (λ e. omega arith) (λ e. omega arith) h
  unescaped-told x (right (left (within {b = c} l m))) h =
      plain-told c (omega arith) (omega arith) (λ e. omega arith) (λ e. omega arith) h
  unescaped-told x (right (right (left (within {b = c} l m)))) h =
      plain-told c (omega arith) (omega arith) (λ e. omega arith) (λ e. omega arith) h
  unescaped-told x (right (right (right (left u)))) h = utf8-2-told x u h
  unescaped-told x (right (right (right (right (left u))))) h = utf8-3-told x u h
  unescaped-told x (right (right (right (right (right u))))) h = utf8-4-told x u h

  -- after a backslash
  slash-told : {c : ℕ} {u : List ℕ} → Rest s k (92 ∷ u) → Told s t c (escape_at s (k + 1)) → Told s t c (unit_at s k)
  unfolding unit_at
  slash-told {c} h g =
      if-not (Told s t c) (Close (k + 1)) (λ (e : get_or s k 0 ≡ 34). omega (arith, rest-front h))
      (if-is (Told s t c) _ (rest-front h) g)

  pub char-told : (x : List ℕ) (c : Abnf.char x) → Rest s k (x ++ t) → Told s t (unit_of x c) (unit_at s k)
  unfolding Abnf.char Abnf.escape escape_of pick unit_of
  char-told x (left u) h = unescaped-told x u h
  char-told x (right (join these (left these))) h =
      slash-told h (letter-told (k + 1) t 34 _ (λ e. omega arith) refl (omega arith) (rest-next h))
  char-told x (right (join these (right (left these)))) h =
      slash-told h (letter-told (k + 1) t 92 _ (λ e. omega arith) refl (omega arith) (rest-next h))
  char-told x (right (join these (right (right (left these))))) h =
      slash-told h (letter-told (k + 1) t 47 _ (λ e. omega arith) refl (omega arith) (rest-next h))
  char-told x (right (join these (right (right (right (left these)))))) h =
      slash-told h (letter-told (k + 1) t 98 _ (λ e. omega arith) refl (omega arith) (rest-next h))
  char-told x (right (join these (right (right (right (right (left these))))))) h =
      slash-told h (letter-told (k + 1) t 102 _ (λ e. omega arith) refl (omega arith) (rest-next h))
  char-told x (right (join these (right (right (right (right (right (left these)))))))) h =
      slash-told h (letter-told (k + 1) t 110 _ (λ e. omega arith) refl (omega arith) (rest-next h))
  char-told x (right (join these (right (right (right (right (right (right (left these))))))))) h =
      slash-told h (letter-told (k + 1) t 114 _ (λ e. omega arith) refl (omega arith) (rest-next h))
  char-told x (right (join these (right (right (right (right (right (right (right (left these)))))))))) h =
      slash-told h (letter-told (k + 1) t 116 _ (λ e. omega arith) refl (omega arith) (rest-next h))
  char-told x (right (join these (right (right (right
      (right (right (right (right (right (join these (join {x = a} p (join {x = b} q
      (join {x = c} {y = d} r v)))))))))))))) h =
      slash-told h (u-told (k + 1) t (rest-next h)
      (four-told (k + 1 + 1) t (hex-is a p) (hex-is b q) (hex-is c r) (hex-is d v) (rest-next (rest-next h))))

-- ---- Strings.
module _ (s : List ℕ) where
  quote-stays : (k : ℕ) (t : List ℕ) → Rest s k (34 ∷ t) → Stays s t (unit_step s k)
  unfolding unit_step unit_at
  quote-stays k t h = if-is (λ u. Stays s t (step_of u)) _ (rest-front h) (stays (rest-next h))

  char-goes : (k : ℕ) (x t : List ℕ) → Abnf.char x → Rest s k (x ++ t) → Goes s t (unit_step s k)
  unfolding unit_step
  char-goes k x t c h = told-goes (char-told k t x c h)

  chars-walk : (k : ℕ) (x t : List ℕ) → (* Abnf.char) x → Rest s k (x ++ (34 ∷ t))
      → Passes s t (walked (length s) (unit_step s) k)
  chars-walk k x t none h = walk-last (unit_step s) k refl (quote-stays k t h)
  chars-walk k z t (more {x = x} {y = y} c m) h =
      walk-on (Passes s t) (unit_step s) (forth-unit s) k refl
      (char-goes k x (y ++ (34 ∷ t)) c (rest-as (append_assoc x y (34 ∷ t)) h)) (λ j r. chars-walk j y t m r)

  pub string-reads : Reads s Abnf.string Any (string_at s)
  unfolding string_at Abnf.string Abnf.quotation-mark
  string-reads k z t (join these (join {x = x} m these)) c h =
      if-is (Passes s t) None (rest-front h) (chars-walk (k + 1) x t m
      (rest-as (append_assoc x (34 ∷ []) t) (rest-next h)))

  -- ---- What a string holds.
  quote-closes : (k : ℕ) (t : List ℕ) → Rest s k (34 ∷ t) → unit_at s k ≡ Close (k + 1)
  unfolding unit_at
  quote-closes k t h = if-is (λ u. u ≡ Close (k + 1)) _ (rest-front h) refl

  held : {c : ℕ} {t w : List ℕ} {u : Unit} (k : ℕ) → u ≡ unit_at s k → Told s t c u
      → ((j : ℕ) → Rest s j t → content_at s j ≡ w) → content_at s k ≡ c ∷ w
  held {c} k e (code {j = j} h) g = content-code s k e refl ∙ ap (λ l. c ∷ l) (g j h)

  units-held : (k : ℕ) (x t : List ℕ) (m : (* Abnf.char) x) → Rest s k (x ++ (34 ∷ t)) → content_at s k ≡ units_of m
  units-held k x t none h = content-close s k refl (quote-closes k t h)
  units-held k z t (more {x = x} {y = y} c m) h =
      held k refl (char-told k (y ++ (34 ∷ t)) x c (rest-as (append_assoc x y (34 ∷ t)) h))
      (λ j r. units-held j y t m r)

  pub string-held : (k : ℕ) (x t : List ℕ) (q : Abnf.string x) → Rest s k (x ++ t)
      → paired (content_at s (k + 1)) ≡ string_of x q
  unfolding string_of Abnf.string Abnf.quotation-mark
  string-held k z t (join these (join {x = x} m these)) h =
      ap paired (units-held (k + 1) x t m (rest-as (append_assoc x (34 ∷ []) t) (rest-next h)))
