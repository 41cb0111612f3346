-- The alphabet as a list: its letters are what the rule says, each is read as its number, and none is a pad. One test
-- that antt computes.
use Prim.Native.Char.{code}
use Rattle.std.specs.Prelude.{None, Option, Some}
use Rattle.std.specs.Option.{unwrap_or}
use Rattle.std.proofs.lemmas.Option.{none-some}
use Prim.Native.Nat.{ℕ, ◌+◌, ◌*◌, ◌%◌, ◌≤◌, ◌<◌}
use mathlib.Core.Path.{◌≡◌, refl, sym, ◌∙◌, ap}
use mathlib.Core.Bool.{Bool, true, false, not, ◌||◌, ◌&&◌, true≢false}
use native.Mathlib.Omega.{arith}
use borrow.Author.Tests.{eq-eqb, eqb-true, ne_eqb, le-ltb, lt-leb, ltb-true, ltb-false, eqb-false, not-true}
use lib.Dec.{T, T_not, eqb, leb, ltb, eqb→eq, leb→le, eqb_refl}
use lib.ListN.{get_or, replicate}
use mir.Val.{bool_byte}
use Rattle.laws.specs.Pick.{pick}
use Rattle.digits.proofs.Table.{at, both, both_left, both_right}
use Rattle.base64_strict.specs.Alphabet.{letters, letter_of, sextet_of, is_letter, number_of, pad}

letter-right : ℕ → ℕ → Bool
letter-right k x = both (eqb x (letter_of k)) (both (eqb (sextet_of x) k) (not (eqb x pad)))

letter-row : (n : ℕ) → n < 64 → T (letter-right n (get_or letters n 0))
unfolding letter-right letter_of sextet_of pick
letter-row n h = at letter-right letters tt n h

pub letter_at : (n : ℕ) → n < 64 → get_or letters n 0 ≡ letter_of n
unfolding letter-right
letter_at n h = eqb→eq _ _ (both_left (eqb (get_or letters n 0) (letter_of n)) _ (letter-row n h))

-- a letter's number is the number that it is the letter of
pub sextet-letter : (n : ℕ) → n < 64 → sextet_of (letter_of n) ≡ n
unfolding letter-right
sextet-letter n h =
    ap sextet_of (sym (letter_at n h))
    ∙ eqb→eq _ _
    (both_left (eqb (sextet_of (get_or letters n 0)) n) _
    (both_right (eqb (get_or letters n 0) (letter_of n)) _ (letter-row n h)))

-- no letter is a pad
pub letter-no-pad : (n : ℕ) → n < 64 → letter_of n ≡ pad → ⊥
unfolding letter-right
letter-no-pad n h e =
    T_not (eqb (get_or letters n 0) pad)
    (both_right (eqb (sextet_of (get_or letters n 0)) n) _
    (both_right (eqb (get_or letters n 0) (letter_of n)) _ (letter-row n h)))
    (rw (letter_at n h ∙ e) (eqb_refl pad))

-- ---- from a letter back: where a number is a letter's, the number's letter is that letter
back-right : ℕ → ℕ → Bool
back-right c x = both (leb (sextet_of c) 64) (eqb (sextet_of c) 64 || eqb (letter_of (sextet_of c)) c)

back-row : (c : ℕ) → c < 256 → T (back-right c (get_or (replicate 256 0) c 0))
unfolding back-right letter_of sextet_of pick
back-row c h = at back-right (replicate 256 0) tt c h

-- no letter is a number above ASCII's
pub sextet-over : (c : ℕ) → 127 < c → sextet_of c ≡ 64
unfolding sextet_of pick
sextet-over c h =
    simp (
      ne_eqb c (code "+") (λ e. omega arith),
      ne_eqb c (code "/") (λ e. omega arith),
      le-ltb c (code "0") (omega arith),
      lt-leb c (code "9") (omega arith),
      le-ltb c (code "A") (omega arith),
      lt-leb c (code "Z") (omega arith),
      le-ltb c (code "a") (omega arith),
      lt-leb c (code "z") (omega arith),
    )

or-second : (b : Bool) (m n : ℕ) → b ≡ false → T (b || eqb m n) → m ≡ n
or-second true m n e t = absurd (true≢false e)
or-second false m n e t = eqb→eq m n t

by_size : (c : ℕ) (b : Bool) → ltb c 256 ≡ b → (sextet_of c ≡ 64 → ⊥) → (letter_of (sextet_of c) ≡ c) × (sextet_of c < 64)
unfolding back-right
by_size c true e f =
    let r = back-row c (ltb-true c 256 e) in
    let m = leb→le (sextet_of c) 64 (both_left (leb (sextet_of c) 64) _ r) in (
      or-second (eqb (sextet_of c) 64) (letter_of (sextet_of c)) c (ne_eqb (sextet_of c) 64 f)
          (both_right (leb (sextet_of c) 64) _ r),
      omega arith,
    )
by_size c false e f = absurd (f (sextet-over c (omega (arith, ltb-false c 256 e))))

pub back-letter : (c : ℕ) → (sextet_of c ≡ 64 → ⊥) → (letter_of (sextet_of c) ≡ c) × (sextet_of c < 64)
back-letter c f = by_size c (ltb c 256) refl f

-- ---- the number of a letter, as code has it
pub number-is : {n : ℕ} (c : ℕ) → n ≡ sextet_of c → n < 64 → Some n ≡ number_of c
unfolding is_letter pick
number-is c e h = rw (ne_eqb (sextet_of c) 64 (λ z. omega arith)) (ap Some e)

pub number-not : (c : ℕ) → 64 ≡ sextet_of c → None ≡ number_of c
unfolding is_letter pick
number-not c e = rw (eq-eqb (sextet_of c) 64 (sym e)) refl

pub number-known : {p : ℕ} (c : ℕ) → Some p ≡ number_of c → (p ≡ sextet_of c) × (p < 64)
unfolding is_letter pick
number-known {p} c e = by (eqb (sextet_of c) 64) refl e
  where
    by : (b : Bool) → eqb (sextet_of c) 64 ≡ b → Some p ≡ pick (not b) (Some (sextet_of c)) None → (p ≡ sextet_of c) × (p < 64)
    by true f z = absurd (none-some p (sym z))
    by false f z =
        let i : p ≡ sextet_of c = ap (λ (o : Option ℕ). unwrap_or o 0) z in
        (i, omega (arith, i, (back-letter c (eqb-false (sextet_of c) 64 f)).1))

pub number-none : (c : ℕ) → None ≡ number_of c → sextet_of c ≡ 64
unfolding is_letter pick
number-none c e = by (eqb (sextet_of c) 64) refl e
  where
    by : (b : Bool) → eqb (sextet_of c) 64 ≡ b → None ≡ pick (not b) (Some (sextet_of c)) None → sextet_of c ≡ 64
    by true f z = eqb-true _ _ f
    by false f z = absurd (none-some (sextet_of c) z)

-- ---- letters with no branch: the tests of a letter by its range, and its number as a sum
abbrev ranged : ℕ → Bool
ranged b =
    (((eqb b (code "+") || eqb b (code "/")) || (leb (code "0") b && leb b (code "9")))
    || (leb (code "A") b && leb b (code "Z"))) || (leb (code "a") b && leb b (code "z"))

abbrev shifted : ℕ → ℕ → ℕ → ℕ → ℕ → ℕ
shifted b low slash capital small = (b + 4 + 15 * low + 253 * slash + 187 * capital + 250 * small) % 256

abbrev same : Bool → Bool → Bool
same true b = b
same false b = not b

same-eq : (a b : Bool) → T (same a b) → a ≡ b
same-eq true true t = refl
same-eq true false t = absurd t
same-eq false true t = absurd t
same-eq false false t = refl

quick-right : ℕ → ℕ → Bool
quick-right b x =
    both (same (ranged b) (is_letter b)) (eqb (sextet_of b) 64
    || eqb
    (shifted b (pick (ltb b (code "0")) 1 0) (pick (eqb b (code "/")) 1 0) (pick (leb (code "A") b) 1 0) (pick (leb (code "a") b) 1 0)) (sextet_of b))

quick-row : (b : ℕ) → b < 256 → T (quick-right b (get_or (replicate 256 0) b 0))
unfolding quick-right is_letter sextet_of pick
quick-row b h = at quick-right (replicate 256 0) tt b h

pub ranged-letter : (b : ℕ) → b < 256 → ranged b ≡ is_letter b
unfolding quick-right
ranged-letter b h = same-eq _ _ (both_left (same (ranged b) (is_letter b)) _ (quick-row b h))

-- a letter's number is no 64
pub letter-number : (b : ℕ) → is_letter b ≡ true → eqb (sextet_of b) 64 ≡ false
unfolding is_letter
letter-number b e = not-true (eqb (sextet_of b) 64) e

pub letter-small : (b : ℕ) → is_letter b ≡ true → sextet_of b < 64
letter-small b e = (back-letter b (eqb-false (sextet_of b) 64 (letter-number b e))).1

-- a test as a number, as code has it
pub one-if : {n : ℕ} (b : Bool) → n ≡ bool_byte b → n ≡ pick b 1 0
unfolding pick
one-if true e = e
one-if false e = e

pub shifted-number : {low slash capital small : ℕ} (b : ℕ) → low ≡ pick (ltb b (code "0")) 1 0 → slash ≡ pick (eqb b (code "/")) 1 0
    → capital ≡ pick (leb (code "A") b) 1 0 → small ≡ pick (leb (code "a") b) 1 0 → b < 256 → is_letter b ≡ true
    → shifted b low slash capital small ≡ sextet_of b
unfolding quick-right
shifted-number b e f g i h l =
    rw (e, f, g, i) (or-second (eqb (sextet_of b) 64) _ (sextet_of b) (letter-number b l)
    (both_right (same (ranged b) (is_letter b)) _ (quick-row b h)))

-- ---- a letter lies between `+` and `z`, and is no backslash
range-right : ℕ → ℕ → Bool
range-right k x = both (leb (code "+") (letter_of k)) (both (leb (letter_of k) (code "z")) (not (eqb (letter_of k) (code "\\"))))

range-row : (n : ℕ) → n < 64 → T (range-right n (get_or letters n 0))
unfolding range-right letter_of pick
range-row n h = at range-right letters tt n h

pub record Ranged (b : ℕ) : Type 0 where
  pub least : code "+" ≤ b
  pub most : b ≤ code "z"
  pub slash : b ≡ code "\\" → ⊥

pub letter-range : (n : ℕ) → n < 64 → Ranged (letter_of n)
unfolding range-right
letter-range n h =
    let r = range-row n h in
    let q = both_right (leb (code "+") (letter_of n)) _ r in record {
      least = leb→le _ _ (both_left (leb (code "+") (letter_of n)) _ r);
      most = leb→le _ _ (both_left (leb (letter_of n) (code "z")) _ q);
      slash = λ e. T_not (eqb (letter_of n) (code "\\")) (both_right (leb (letter_of n) (code "z")) _ q)
          (rw e (eqb_refl (code "\\")));
    }

pub letter-ranged : (b : ℕ) → is_letter b ≡ true → Ranged b
letter-ranged b e =
    let r = back-letter b (eqb-false (sextet_of b) 64 (letter-number b e)) in
    rw r.0 at (letter-range (sextet_of b) r.1)
