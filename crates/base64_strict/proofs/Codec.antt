-- What is encoded is decoded again: decode64 (encode64 x) is x, for every list of bytes x.
use Rattle.std.specs.Prelude.{Some}
use Prim.Native.Nat.{ℕ, suc, ◌+◌, ◌*◌, ◌/◌, ◌%◌, ◌<◌}
use mathlib.Core.Path.{◌≡◌, refl, ap}
use mathlib.Core.List.{List, [], ◌∷◌}
use native.Mathlib.Omega.{arith}
use borrow.Author.Tests.{ne_eqb}
use Rattle.laws.specs.Bytes.{Bytes}
use Rattle.laws.specs.Pick.{pick}
use Rattle.base64_strict.specs.declared.Group.TheVariants.{Three, Two, One}
use Rattle.base64_strict.specs.Alphabet.{letter_of, pad}
use Rattle.base64_strict.specs.Encode.{encode64}
use Rattle.base64_strict.specs.Decode.{bytes, onto, high, middle, low, one_of, two_of, three_of}
use Rattle.base64_strict.specs.Decode.{group_of, decode64}
use Rattle.base64_strict.proofs.Tables.{sextet-letter, letter-no-pad}

-- the three kinds of a group, with letters for its numbers
group-three : (p q r t : ℕ) → p < 64 → q < 64 → r < 64 → t < 64
    → group_of (letter_of p) (letter_of q) (letter_of r) (letter_of t) ≡ Some (Three (high p q) (middle q r) (low r t))
unfolding group_of three_of pick
group-three p q r t hp hq hr ht = simp (
  sextet-letter p hp,
  sextet-letter q hq,
  sextet-letter r hr,
  sextet-letter t ht,
  ne_eqb p 64 (λ e. omega arith),
  ne_eqb q 64 (λ e. omega arith),
  ne_eqb r 64 (λ e. omega arith),
  ne_eqb t 64 (λ e. omega arith),
  ne_eqb (letter_of t) pad (letter-no-pad t ht),
)

group-two : (p q r : ℕ) → p < 64 → q < 64 → r < 64 → r % 4 ≡ 0
    → group_of (letter_of p) (letter_of q) (letter_of r) pad ≡ Some (Two (high p q) (middle q r))
unfolding group_of two_of pick
group-two p q r hp hq hr h = simp (
  sextet-letter p hp,
  sextet-letter q hq,
  sextet-letter r hr,
  ne_eqb p 64 (λ e. omega arith),
  ne_eqb q 64 (λ e. omega arith),
  ne_eqb r 64 (λ e. omega arith),
  h,
  ne_eqb (letter_of r) pad (letter-no-pad r hr),
)

group-one : (p q : ℕ) → p < 64 → q < 64 → q % 16 ≡ 0 → group_of (letter_of p) (letter_of q) pad pad ≡ Some (One (high p q))
unfolding group_of one_of pick
group-one p q hp hq h =
    simp (sextet-letter p hp, sextet-letter q hq, ne_eqb p 64 (λ e. omega arith), ne_eqb q 64 (λ e. omega arith), h)

pub decode-encode : (x : List ℕ) → Bytes x → decode64 (encode64 x) ≡ bytes x
unfolding decode64 encode64
decode-encode [] h = refl
decode-encode (a ∷ []) h =
    let ha : a < 256 = h 0 in
    let e : high (a / 4) (a % 4 * 16) ≡ a = omega arith in
    rw (group-one (a / 4) (a % 4 * 16) (omega arith) (omega arith) (omega arith)) (rw e refl)
decode-encode (a ∷ b ∷ []) h =
    let ha : a < 256 = h 0 in
    let hb : b < 256 = h 1 in
    let e : high (a / 4) (a % 4 * 16 + b / 16) ≡ a = omega arith in
    let f : middle (a % 4 * 16 + b / 16) (b % 16 * 4) ≡ b = omega arith in
    rw (group-two (a / 4) (a % 4 * 16 + b / 16) (b % 16 * 4) (omega arith) (omega arith) (omega arith) (omega arith))
    (rw (e, f) refl)
decode-encode (a ∷ b ∷ c ∷ xs) h =
    let ha : a < 256 = h 0 in
    let hb : b < 256 = h 1 in
    let hc : c < 256 = h 2 in
    let hs : Bytes xs = λ k. h (suc (suc (suc k))) in
    let e : high (a / 4) (a % 4 * 16 + b / 16) ≡ a = omega arith in
    let f : middle (a % 4 * 16 + b / 16) (b % 16 * 4 + c / 64) ≡ b = omega arith in
    let g : low (b % 16 * 4 + c / 64) (c % 64) ≡ c = omega arith in
    rw (group-three (a / 4) (a % 4 * 16 + b / 16) (b % 16 * 4 + c / 64) (c % 64) (omega arith) (omega arith)
    (omega arith) (omega arith))
    (rw (e, f, g) (ap (onto (a ∷ b ∷ c ∷ [])) (decode-encode xs hs)))
