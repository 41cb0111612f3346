-- Laws about `encode64`, for a loop that goes over the bytes by threes.
use Prim.Native.Nat.{◌-◌}
use Prim.Native.Nat.{ℕ, ◌+◌, ◌*◌, ◌/◌, ◌≤◌, ◌<◌}
use mathlib.Core.Path.{◌≡◌, refl, sym, ◌∙◌, ap}
use mathlib.Core.List.{List, [], ◌∷◌, ◌++◌}
use native.Mathlib.Omega.{arith}
use native.Mathlib.Numerals.{add-one}
use lib.ListN.{length, get_or, take, drop, length-drop, drop_of_length-le}
use lib.Seq.{drop-cons}
use Rattle.std.proofs.Math.Seq.{take-length}
use Rattle.laws.specs.Pasted.{pasted}
use Rattle.laws.proofs.Filled.{Filled, filled_next, filled-fit}
use Rattle.base64_strict.specs.Encode.{encode_one, encode_two, encode_three, encode64}

pub encode-length : (s : List ℕ) → length (encode64 s) ≡ (length s + 2) / 3 * 4
unfolding encode64
encode-length [] = refl
encode-length (a ∷ []) = refl
encode-length (a ∷ b ∷ []) = refl
encode-length (a ∷ b ∷ c ∷ xs) = omega (arith, encode-length xs)

-- what stands at k, with the next places as code has them
step : (s : List ℕ) (k : ℕ) → k < length s → drop k s ≡ get_or s k 0 ∷ drop (k + 1) s
step s k h = rw (add-one k) (drop-cons s k 0 h)

pub encode-turn : (s : List ℕ) (k : ℕ) → k + 2 < length s
    → encode64 (drop k s) ≡ encode_three (get_or s k 0) (get_or s (k + 1) 0) (get_or s (k + 2) 0) ++ encode64 (drop (k + 3) s)
unfolding encode64
encode-turn s k h =
    let e : drop k s ≡ get_or s k 0 ∷ get_or s (k + 1) 0 ∷ get_or s (k + 2) 0 ∷ drop (k + 3) s
    = step s k (omega arith)
    ∙ ap (λ l. get_or s k 0 ∷ l) (step s (k + 1) (omega arith) ∙ ap (λ l. get_or s (k + 1) 0 ∷ l) (two s k h))
    in ap encode64 e
  where
    two : (s : List ℕ) (k : ℕ) → k + 2 < length s → drop (k + 1 + 1) s ≡ get_or s (k + 2) 0 ∷ drop (k + 3) s
    two s k h = let i : k + 1 + 1 ≡ k + 2 = omega arith in let j : k + 2 + 1 ≡ k + 3 = omega arith in
        rw i (step s (k + 2) h ∙ rw j refl)

pub encode-two : (s : List ℕ) (k : ℕ) → k + 2 ≡ length s
    → encode64 (drop k s) ≡ encode_two (get_or s k 0) (get_or s (k + 1) 0) ++ []
unfolding encode64
encode-two s k h =
    let i : length s ≤ k + 1 + 1 = omega arith in
    rw (step s k (omega arith), step s (k + 1) (omega arith), drop_of_length-le s i) refl

pub encode_one_lem : (s : List ℕ) (k : ℕ) → k + 1 ≡ length s → encode64 (drop k s) ≡ encode_one (get_or s k 0) ++ []
unfolding encode64
encode_one_lem s k h = let i : length s ≤ k + 1 = omega arith in rw (step s k (omega arith), drop_of_length-le s i) refl

pub encode-none : (s : List ℕ) (k : ℕ) → length s ≤ k → encode64 (drop k s) ≡ []
unfolding encode64
encode-none s k h = rw (drop_of_length-le s h) refl

-- what stands behind the first n bytes, as a pattern has it
pub tail-of : (s : List ℕ) (n : ℕ) → take (length s - n) (drop n s) ≡ drop n s
tail-of s n = rw (sym (length-drop n s)) (take-length (drop n s))

-- ---- The turns of a writer that has the bytes from k on left.
module _ {E was out : List ℕ} {n : ℕ} (s : List ℕ) (k : ℕ) (f : Filled E (encode64 (drop k s)) was n out) where
  pub three-fits : k + 2 < length s → n + 4 ≤ length out
  three-fits h =
      filled-fit (encode_three (get_or s k 0) (get_or s (k + 1) 0) (get_or s (k + 2) 0)) (encode64 (drop (k + 3) s)) f
      (encode-turn s k h)

  pub three-next : {to : List ℕ} → k + 2 < length s
      → to ≡ pasted out n (encode_three (get_or s k 0) (get_or s (k + 1) 0) (get_or s (k + 2) 0))
      → Filled E (encode64 (drop (k + 3) s)) was (n + 4) to
  three-next h e =
      filled_next (encode_three (get_or s k 0) (get_or s (k + 1) 0) (get_or s (k + 2) 0)) (encode64 (drop (k + 3) s)) f
      (encode-turn s k h) e

  pub two_fits : k + 2 ≡ length s → n + 4 ≤ length out
  two_fits h = filled-fit (encode_two (get_or s k 0) (get_or s (k + 1) 0)) [] f (encode-two s k h)

  pub two-next : {to : List ℕ} → k + 2 ≡ length s → to ≡ pasted out n (encode_two (get_or s k 0) (get_or s (k + 1) 0))
      → Filled E [] was (n + 4) to
  two-next h e = filled_next (encode_two (get_or s k 0) (get_or s (k + 1) 0)) [] f (encode-two s k h) e

  pub one-fits : k + 1 ≡ length s → n + 4 ≤ length out
  one-fits h = filled-fit (encode_one (get_or s k 0)) [] f (encode_one_lem s k h)

  pub one-next : {to : List ℕ} → k + 1 ≡ length s → to ≡ pasted out n (encode_one (get_or s k 0))
      → Filled E [] was (n + 4) to
  one-next h e = filled_next (encode_one (get_or s k 0)) [] f (encode_one_lem s k h) e

  pub none_left : length s ≤ k → Filled E [] was n out
  none_left h = rw (encode-none s k h) at f
