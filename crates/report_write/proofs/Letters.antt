-- Base64 needs no escapes in a JSON string.
use Prim.Native.Nat.{ℕ, suc, ◌+◌, ◌*◌, ◌/◌, ◌%◌, ◌<◌}
use mathlib.Core.Path.{◌≡◌, subst}
use mathlib.Core.Bool.{Bool, true, not}
use mathlib.Core.List.{List, [], ◌∷◌}
use native.Mathlib.Omega.{arith}
use lib.Dec.{T, T_not, eqb, leb, ltb, leb→le, ltb→lt, eqb_refl}
use lib.ListN.{get_or}
use Rattle.laws.specs.Bytes.{Bytes}
use Rattle.digits.proofs.Table.{at, both, both_left, both_right}
use Rattle.json_strings.proofs.Plain.{Plain, Each, none, one}
use Rattle.report_read.specs.Entry.{rand_name, key_name, request_name, response_name, responses_name}
use Rattle.base64_strict.specs.Alphabet.{letter_of}
use Rattle.base64_strict.specs.Encode.{encode64}
use Rattle.base64_strict.specs.Alphabet.{letters}
use Rattle.base64_strict.proofs.Tables.{letter_at}

plain-right : ℕ → ℕ → Bool
plain-right k x = both (leb 32 x) (both (ltb x 128) (both (not (eqb x 34)) (not (eqb x 92))))

plain_row : (n : ℕ) → n < 64 → T (plain-right n (get_or letters n 0))
unfolding plain-right
plain_row n h = at plain-right letters tt n h

differs : (x y : ℕ) → T (not (eqb x y)) → x ≡ y → ⊥
differs x y t e = T_not (eqb x y) t (rw e (eqb_refl y))

plain_of : (k x : ℕ) → T (plain-right k x) → Plain x
unfolding plain-right
plain_of k x t =
    let a = both_right (leb 32 x) _ t in
    let b = both_right (ltb x 128) _ a in
    record {
      low = leb→le 32 x (both_left (leb 32 x) _ t);
      high = ltb→lt x 128 (both_left (ltb x 128) _ a);
      quote = differs x 34 (both_left (not (eqb x 34)) _ b);
      slash = differs x 92 (both_right (not (eqb x 34)) _ b);
    }

letter-plain : (n : ℕ) → n < 64 → Plain (letter_of n)
letter-plain n h = subst (λ (x : ℕ). Plain x) (letter_at n h) (plain_of n (get_or letters n 0) (plain_row n h))

pad-plain : Plain 61
pad-plain = record { low = omega arith; high = omega arith; quote = λ e. omega arith; slash = λ e. omega arith }

pub each-encode : (x : List ℕ) → Bytes x → Each (encode64 x)
unfolding encode64
each-encode [] h = none
each-encode (a ∷ []) h =
    let ha : a < 256 = h 0 in
    one (letter-plain (a / 4) (omega arith))
    (one (letter-plain (a % 4 * 16) (omega arith)) (one pad-plain (one pad-plain none)))
each-encode (a ∷ b ∷ []) h =
    let ha : a < 256 = h 0 in
    let hb : b < 256 = h 1 in
    one (letter-plain (a / 4) (omega arith)) (one (letter-plain (a % 4 * 16 + b / 16) (omega arith))
    (one (letter-plain (b % 16 * 4) (omega arith)) (one pad-plain none)))
each-encode (a ∷ b ∷ c ∷ xs) h =
    let ha : a < 256 = h 0 in
    let hb : b < 256 = h 1 in
    let hc : c < 256 = h 2 in
    let hs : Bytes xs = λ k. h (suc (suc (suc k))) in
    one (letter-plain (a / 4) (omega arith)) (one (letter-plain (a % 4 * 16 + b / 16) (omega arith))
    (one (letter-plain (b % 16 * 4 + c / 64) (omega arith))
    (one (letter-plain (c % 64) (omega arith)) (each-encode xs hs))))

-- ---- The names.
abbrev each-test : List ℕ → Bool
each-test [] = true
each-test (x ∷ l) = both (plain-right 0 x) (each-test l)

each_of : (l : List ℕ) → T (each-test l) → Each l
each_of [] t = none
each_of (x ∷ l) t = one (plain_of 0 x (both_left (plain-right 0 x) _ t)) (each_of l (both_right (plain-right 0 x) _ t))

pub rand-each : Each rand_name
unfolding plain-right
rand-each = each_of rand_name tt

pub key-each : Each key_name
unfolding plain-right
key-each = each_of key_name tt

pub request-each : Each request_name
unfolding plain-right
request-each = each_of request_name tt

pub response-each : Each response_name
unfolding plain-right
response-each = each_of response_name tt

pub responses-each : Each responses_name
unfolding plain-right
responses-each = each_of responses_name tt
