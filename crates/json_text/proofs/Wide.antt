-- A character of more than one octet: its octets are the UTF-8 of its number (RFC 3629, section 3).
use Prim.Native.Nat.{ℕ, ◌+◌, ◌*◌, ◌/◌, ◌%◌, ◌≤◌, ◌<◌}
use mathlib.Core.Path.{◌≡◌, refl, sym, ◌∙◌, ap}
use mathlib.Core.Bool.{Bool, true, false}
use mathlib.Core.List.{List, [], ◌∷◌, ◌++◌}
use native.Mathlib.Omega.{arith}
use native.Mathlib.Numerals.{add-one}
use lib.Dec.{eqb, leb, ltb}
use lib.ListN.{length, get_or, drop}
use lib.Seq.{drop-cons}
use borrow.Author.Tests.{eqb-true, eqb-false, ltb-true, ltb-false, leb-true}
use Rattle.laws.specs.Pick.{pick, both}
use Rattle.json_tokens.proofs.Picks.{over}
use Rattle.json_strings.specs.declared.Unit.{Unit}
use Rattle.json_strings.specs.declared.Unit.TheVariants.{Code, Close, Ill}
use Rattle.json_strings.specs.Text.{least_second, most_second, second_at, tail_at, more_bits, two_at, three_at, four_at, long_at}
use Rattle.json_strings.specs.Text.{wide_at, unit_at}
use Rattle.json_strings.proofs.Sizes.{wide-unit}
use Rattle.json_text.specs.Octets.{utf8}
use Rattle.json_text.proofs.Sizes.{utf8-two, utf8-three, utf8-four}

-- ---- What the tests of the second octet and of later ones say.
halves : (a b : Bool) → both a b ≡ true → (a ≡ true) × (b ≡ true)
unfolding both
halves true true z = (refl, refl)
halves true false z = absurd (let w : ◌≡◌ {A = ℕ} 0 1 = cc in omega arith)
halves false b z = absurd (let w : ◌≡◌ {A = ℕ} 0 1 = cc in omega arith)

pub record Second (a b : ℕ) : Type 0 where
  pub low : 0x80 ≤ b
  pub high : b ≤ 0xBF
  pub e0 : a ≡ 0xE0 → 0xA0 ≤ b
  pub f0 : a ≡ 0xF0 → 0x90 ≤ b
  pub ed : a ≡ 0xED → b ≤ 0x9F
  pub f4 : a ≡ 0xF4 → b ≤ 0x8F

least-says : (a b : ℕ) → least_second a ≤ b → (0x80 ≤ b) × (a ≡ 0xE0 → 0xA0 ≤ b) × (a ≡ 0xF0 → 0x90 ≤ b)
unfolding least_second pick
least-says a b h = by (eqb a 0xE0) (eqb a 0xF0) refl refl h
  where
    by : (p q : Bool) → eqb a 0xE0 ≡ p → eqb a 0xF0 ≡ q → pick p 0xA0 (pick q 0x90 0x80) ≤ b
        → (0x80 ≤ b) × (a ≡ 0xE0 → 0xA0 ≤ b) × (a ≡ 0xF0 → 0x90 ≤ b)
    by true q e f g = (omega arith, λ z. g, λ z. omega arith)
    by false true e f g = (omega arith, λ z. absurd (eqb-false a 0xE0 e z), λ z. g)
    by false false e f g = (g, λ z. absurd (eqb-false a 0xE0 e z), λ z. absurd (eqb-false a 0xF0 f z))

most-says : (a b : ℕ) → b ≤ most_second a → (b ≤ 0xBF) × (a ≡ 0xED → b ≤ 0x9F) × (a ≡ 0xF4 → b ≤ 0x8F)
unfolding most_second pick
most-says a b h = by (eqb a 0xED) (eqb a 0xF4) refl refl h
  where
    by : (p q : Bool) → eqb a 0xED ≡ p → eqb a 0xF4 ≡ q → b ≤ pick p 0x9F (pick q 0x8F 0xBF)
        → (b ≤ 0xBF) × (a ≡ 0xED → b ≤ 0x9F) × (a ≡ 0xF4 → b ≤ 0x8F)
    by true q e f g = (omega arith, λ z. g, λ z. let y = eqb-true a 0xED e in absurd (omega arith))
    by false true e f g = (omega arith, λ z. absurd (eqb-false a 0xED e z), λ z. g)
    by false false e f g = (g, λ z. absurd (eqb-false a 0xED e z), λ z. absurd (eqb-false a 0xF4 f z))

second-says : (x : List ℕ) (p : ℕ) → second_at x p ≡ true → Second (get_or x p 0) (get_or x (p + 1) 0)
unfolding second_at
second-says x p h =
    let a = get_or x p 0 in
    let b = get_or x (p + 1) 0 in
    let w = halves (leb (least_second a) b) (leb b (most_second a)) h in
    let l = least-says a b (leb-true (least_second a) b w.0) in
    let m = most-says a b (leb-true b (most_second a) w.1) in
    record { low = l.0; high = m.0; e0 = l.1; f0 = l.2; ed = m.1; f4 = m.2 }

tail-says : (x : List ℕ) (p : ℕ) → tail_at x p ≡ true → (0x80 ≤ get_or x p 0) × (get_or x p 0 ≤ 0xBF)
unfolding tail_at
tail-says x p h =
    let w = halves (leb 0x80 (get_or x p 0)) (leb (get_or x p 0) 0xBF) h in
    (leb-true 0x80 (get_or x p 0) w.0, leb-true (get_or x p 0) 0xBF w.1)

-- ---- The number of a character, and its octets.
pub record Letter (c : ℕ) (l : List ℕ) : Type 0 where
  pub long : 0x80 ≤ c
  pub below : c < 0x110000
  pub scalar : 0xD800 ≤ c → 0xE000 ≤ c
  pub is : utf8 c ≡ l

two-octets : (a b c : ℕ) → 0xC2 ≤ a → a < 0xE0 → 0x80 ≤ b → b ≤ 0xBF → c ≡ 64 * (a % 32) + b % 64
    → Letter c (a ∷ b ∷ [])
two-octets a b c h g l m e =
    let x : 0x80 ≤ c = omega arith in
    let y : c < 0x800 = omega arith in
    let p : 0xC0 + c / 64 % 32 ≡ a = omega arith in
    let q : 0x80 + c % 64 ≡ b = omega arith in
    record { long = x; below = omega arith; scalar = λ z. absurd (omega arith); is = utf8-two c x y ∙ rw (p, q) refl }

three-octets : (a b d c : ℕ) → 0xE0 ≤ a → a < 0xF0 → Second a b → 0x80 ≤ d → d ≤ 0xBF
    → c ≡ 64 * (64 * (a % 16) + b % 64) + d % 64 → Letter c (a ∷ b ∷ d ∷ [])
three-octets a b d c h g s l m e =
    let i = s.low in
    let j = s.high in
    let x : 0x800 ≤ c = from (eqb a 0xE0) refl in
    let y : c < 0x10000 = omega arith in
    let p : 0xE0 + c / 4096 % 16 ≡ a = omega arith in
    let q : 0x80 + c / 64 % 64 ≡ b = omega arith in
    let r : 0x80 + c % 64 ≡ d = omega arith in
    record {
      long = omega arith;
      below = omega arith;
      scalar = no (eqb a 0xED) refl;
      is = utf8-three c x y ∙ rw (p, q, r) refl;
    }
  where
    from : (t : Bool) → eqb a 0xE0 ≡ t → 0x800 ≤ c
    from true z = omega (arith, s.low, s.high, s.e0 (eqb-true a 0xE0 z), eqb-true a 0xE0 z)
    from false z = let n = eqb-false a 0xE0 z in omega (arith, s.low, s.high, n)

    no : (t : Bool) → eqb a 0xED ≡ t → 0xD800 ≤ c → 0xE000 ≤ c
    no true z k = absurd (omega (arith, s.low, s.ed (eqb-true a 0xED z), eqb-true a 0xED z))
    no false z k = let n = eqb-false a 0xED z in omega (arith, s.low, s.high, n)

four-octets : (a b d f c : ℕ) → 0xF0 ≤ a → a < 0xF5 → Second a b → 0x80 ≤ d → d ≤ 0xBF → 0x80 ≤ f → f ≤ 0xBF
    → c ≡ 64 * (64 * (64 * (a % 8) + b % 64) + d % 64) + f % 64 → Letter c (a ∷ b ∷ d ∷ f ∷ [])
four-octets a b d f c h g s l m u v e =
    let i = s.low in
    let j = s.high in
    let x : 0x10000 ≤ c = from (eqb a 0xF0) refl in
    let y : c < 0x110000 = to (eqb a 0xF4) refl in
    let p : 0xF0 + c / 262144 % 8 ≡ a = omega arith in
    let q : 0x80 + c / 4096 % 64 ≡ b = omega arith in
    let r : 0x80 + c / 64 % 64 ≡ d = omega arith in
    let t : 0x80 + c % 64 ≡ f = omega arith in
    record { long = omega arith; below = y; scalar = λ z. omega arith; is = utf8-four c x ∙ rw (p, q, r, t) refl }
  where
    from : (t : Bool) → eqb a 0xF0 ≡ t → 0x10000 ≤ c
    from true z = omega (arith, s.low, s.high, s.f0 (eqb-true a 0xF0 z), eqb-true a 0xF0 z)
    from false z = let n = eqb-false a 0xF0 z in omega (arith, s.low, s.high, n)

    to : (t : Bool) → eqb a 0xF4 ≡ t → c < 0x110000
    to true z = omega (arith, s.low, s.f4 (eqb-true a 0xF4 z), eqb-true a 0xF4 z)
    to false z = let n = eqb-false a 0xF4 z in omega (arith, s.low, s.high, n)

-- ---- In a list.
step : (x : List ℕ) (k n : ℕ) → k + 1 ≡ n → 0 < get_or x k 0 → drop k x ≡ get_or x k 0 ∷ drop n x
step x k n e h = rw (sym e, add-one k) (drop-cons x k 0 (over x refl h))

pub data High : List ℕ → Type 0 where
  none : High []
  more : {b : ℕ} {l : List ℕ} → 0x80 ≤ b → High l → High (b ∷ l)

-- the character at p, which ends at j: its octets stand there
pub record Stood (x : List ℕ) (p c j : ℕ) : Type 0 where
  pub octs : List ℕ
  pub letter : Letter c octs
  pub there : drop p x ≡ octs ++ drop j x
  pub ends : j ≡ p + length octs
  pub each : High octs

ill : {A : Type 0} {c j : ℕ} → Ill ≡ Code c j → A
ill e = absurd (let z : ◌≡◌ {A = ℕ} 0 1 = cc in omega arith)

two-there : (x : List ℕ) (p : ℕ) → 0xC2 ≤ get_or x p 0 → get_or x p 0 < 0xE0 → Second (get_or x p 0) (get_or x (p + 1) 0)
    → Stood x p (two_at x p) (p + 2)
unfolding two_at more_bits
two-there x p h g s =
    let a = get_or x p 0 in
    let b = get_or x (p + 1) 0 in
    let l = s.low in
    let m = s.high in
    let k : p + 1 + 1 ≡ p + 2 = omega arith in
    record {
      octs = a ∷ b ∷ [];
      letter = two-octets a b _ h g l m refl;
      there = step x p (p + 1) refl (omega arith) ∙ ap (λ z. a ∷ z) (step x (p + 1) (p + 2) k (omega arith));
      ends = refl;
      each = let n : 0x80 ≤ a = omega arith in more n (more l none);
    }

three-there : (x : List ℕ) (p : ℕ) → 0xE0 ≤ get_or x p 0 → get_or x p 0 < 0xF0 → Second (get_or x p 0) (get_or x (p + 1) 0)
    → tail_at x (p + 2) ≡ true → Stood x p (three_at x p) (p + 3)
unfolding three_at more_bits
three-there x p h g s t =
    let a = get_or x p 0 in
    let b = get_or x (p + 1) 0 in
    let d = get_or x (p + 2) 0 in
    let l = s.low in
    let u = tail-says x (p + 2) t in
    let k : p + 1 + 1 ≡ p + 2 = omega arith in
    let i : p + 2 + 1 ≡ p + 3 = omega arith in
    record {
      octs = a ∷ b ∷ d ∷ [];
      letter = three-octets a b d _ h g s u.0 u.1 refl;
      there =
          step x p (p + 1) refl (omega arith)
          ∙ ap (λ z. a ∷ z) (step x (p + 1) (p + 2) k (omega arith)
          ∙ ap (λ z. b ∷ z) (step x (p + 2) (p + 3) i (omega (arith, u.0))));
      ends = refl;
      each = let n : 0x80 ≤ a = omega arith in more n (more l (more u.0 none));
    }

four-there : (x : List ℕ) (p : ℕ) → 0xF0 ≤ get_or x p 0 → get_or x p 0 < 0xF5 → Second (get_or x p 0) (get_or x (p + 1) 0)
    → tail_at x (p + 2) ≡ true → tail_at x (p + 3) ≡ true → Stood x p (four_at x p) (p + 4)
unfolding four_at more_bits
four-there x p h g s t v =
    let a = get_or x p 0 in
    let b = get_or x (p + 1) 0 in
    let d = get_or x (p + 2) 0 in
    let f = get_or x (p + 3) 0 in
    let l = s.low in
    let u = tail-says x (p + 2) t in
    let w = tail-says x (p + 3) v in
    let k : p + 1 + 1 ≡ p + 2 = omega arith in
    let i : p + 2 + 1 ≡ p + 3 = omega arith in
    let j : p + 3 + 1 ≡ p + 4 = omega arith in
    record {
      octs = a ∷ b ∷ d ∷ f ∷ [];
      letter = four-octets a b d f _ h g s u.0 u.1 w.0 w.1 refl;
      there =
          step x p (p + 1) refl (omega arith)
          ∙ ap (λ z. a ∷ z) (step x (p + 1) (p + 2) k (omega arith)
          ∙ ap (λ z. b ∷ z) (step x (p + 2) (p + 3) i (omega (arith, u.0))
          ∙ ap (λ z. d ∷ z) (step x (p + 3) (p + 4) j (omega (arith, w.0)))));
      ends = refl;
      each = let n : 0x80 ≤ a = omega arith in more n (more l (more u.0 (more w.0 none)));
    }

-- the reader of strings reads such a character
code_at : {x : List ℕ} {p c j d k : ℕ} → Stood x p d k → Code d k ≡ Code c j → Stood x p c j
code_at {x} {p} {c} {j} {d} {k} s e =
    let f : d ≡ c = ap number e in let g : k ≡ j = ap place e in rw (sym f, sym g) s
  where
    number : Unit → ℕ
    number (Code n m) = n
    number (Close m) = 0
    number Ill = 0

    place : Unit → ℕ
    place (Code n m) = m
    place (Close m) = 0
    place Ill = 0

long-there : (x : List ℕ) (p : ℕ) {c j : ℕ} → 0xE0 ≤ get_or x p 0 → Second (get_or x p 0) (get_or x (p + 1) 0)
    → long_at x p ≡ Code c j → Stood x p c j
unfolding long_at pick
long-there x p {c} {j} h s e = by (tail_at x (p + 2)) refl e
  where
    four : (t q : Bool) → tail_at x (p + 2) ≡ true → 0xF0 ≤ get_or x p 0 → tail_at x (p + 3) ≡ t
        → ltb (get_or x p 0) 0xF5 ≡ q
        → pick t (pick q (Code (four_at x p) (p + 4)) Ill) Ill ≡ Code c j → Stood x p c j
    four true true u g v w z = code_at (four-there x p g (ltb-true _ _ w) s u v) z
    four true false u g v w z = ill z
    four false q u g v w z = ill z

    more : (t : Bool) → tail_at x (p + 2) ≡ true → ltb (get_or x p 0) 0xF0 ≡ t
        → pick t (Code (three_at x p) (p + 3))
        (pick (tail_at x (p + 3)) (pick (ltb (get_or x p 0) 0xF5) (Code (four_at x p) (p + 4)) Ill) Ill) ≡ Code c j
        → Stood x p c j
    more true u g z = code_at (three-there x p h (ltb-true _ _ g) s u) z
    more false u g z = four (tail_at x (p + 3)) (ltb (get_or x p 0) 0xF5) u (ltb-false _ _ g) refl refl z

    by : (t : Bool) → tail_at x (p + 2) ≡ t
        → pick t (pick (ltb (get_or x p 0) 0xF0) (Code (three_at x p) (p + 3))
        (pick (tail_at x (p + 3)) (pick (ltb (get_or x p 0) 0xF5) (Code (four_at x p) (p + 4)) Ill) Ill)) Ill ≡ Code c j
        → Stood x p c j
    by true u z = more (ltb (get_or x p 0) 0xF0) u refl z
    by false u z = ill z

wide-there : (x : List ℕ) (p : ℕ) {c j : ℕ} → wide_at x p ≡ Code c j → Stood x p c j
unfolding wide_at pick
wide-there x p {c} {j} e = by (ltb (get_or x p 0) 0xC2) (second_at x p) (ltb (get_or x p 0) 0xE0) refl refl refl e
  where
    by : (t u v : Bool) → ltb (get_or x p 0) 0xC2 ≡ t → second_at x p ≡ u → ltb (get_or x p 0) 0xE0 ≡ v
        → pick t Ill (pick u (pick v (Code (two_at x p) (p + 2)) (long_at x p)) Ill) ≡ Code c j → Stood x p c j
    by true u v f g h z = ill z
    by false false v f g h z = ill z
    by false true true f g h z = code_at (two-there x p (ltb-false _ _ f) (ltb-true _ _ h) (second-says x p g)) z
    by false true false f g h z = long-there x p (ltb-false _ _ h) (second-says x p g) z

pub unit-there : (x : List ℕ) (p : ℕ) {c j : ℕ} → 0x80 ≤ get_or x p 0 → unit_at x p ≡ Code c j → Stood x p c j
unit-there x p h e = wide-there x p (sym (wide-unit x p h) ∙ e)
