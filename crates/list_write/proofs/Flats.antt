-- Laws of texts that are pieces one after the other, as they are put and as room is taken for them.
use Rattle.std.specs.Prelude.{Option}
use Prim.Native.Nat.{ℕ, ◌+◌, ◌-◌, ◌≤◌}
use mathlib.Core.Path.{◌≡◌, refl, sym, ◌∙◌, ap}
use mathlib.Core.List.{List, [], ◌∷◌, ◌++◌, append-nil}
use native.Mathlib.Omega.{arith}
use lib.ListN.{length, take, drop, length-append, drop_of_length-le}
use Rattle.base64_strict.specs.Encode.{encode64}
use Rattle.laws.specs.Pasted.{pasted, fronted}
use Rattle.laws.proofs.Pasted.{part-back, length_part}
use Rattle.laws.specs.Flat.{flat}
use Rattle.laws.specs.Written.{Puts}
use Rattle.json_quote.specs.Room.{spent}
use Rattle.json_quote.proofs.Putting.{Putting, putting-fit, putting-next, putting-last}
use Rattle.json_quote.proofs.Rooms.{spent-sum}

pub flat-length : (x : List ℕ) (xs : List (List ℕ)) → length (flat (x ∷ xs)) ≡ length x + length (flat xs)
unfolding flat
flat-length x xs = length-append x (flat xs)

pub flat-none : length (flat []) ≡ 0
unfolding flat
flat-none = refl

module _ {E o d : List ℕ} {at k : ℕ} (x : List ℕ) (xs : List (List ℕ)) (f : Putting E (flat (x ∷ xs)) o at d k) where
  -- the next piece fits
  pub piece-fits : k + length x ≤ length d
  unfolding flat
  piece-fits = putting-fit f x (flat xs) refl

  -- and is put
  pub piece-next : {t : List ℕ} {j : ℕ} → Puts d k x t j → Putting E (flat xs) o at t j
  unfolding flat
  piece-next p = putting-next f x (flat xs) refl p

-- all is put
pub pieces-last : {E o d : List ℕ} {at k : ℕ} → Putting E (flat []) o at d k → Puts o at E d k
unfolding flat
pieces-last f = putting-last f

-- room for the next piece
pub room-piece : (a b : Option ℕ) (x : List ℕ) (xs : List (List ℕ)) {r : Option ℕ} → b ≡ spent a (length x)
    → r ≡ spent b (length (flat xs)) → r ≡ spent a (length (flat (x ∷ xs)))
room-piece a b x xs e f =
    f ∙ ap (λ z. spent z (length (flat xs))) e ∙ spent-sum a (length x) (length (flat xs))
    ∙ ap (spent a) (sym (flat-length x xs))

-- base64 in a part that is as long
pub code-back : {y : List ℕ} (x d : List ℕ) (at n : ℕ) → n ≡ length (encode64 x) → at + n ≤ length d
    → y ≡ fronted (encode64 x) (take (at + n - at) (drop at d))
    → take at d ++ (y ++ drop (at + n - at) (drop at d)) ≡ pasted d at (encode64 x)
code-back {y} x d at n q h e = part-back d at (at + n - at) (e ∙ whole) (omega arith)
  where
    short : length (take (at + n - at) (drop at d)) ≤ length (encode64 x)
    short = omega (arith, length_part d at (at + n) (omega arith) h)

    whole : fronted (encode64 x) (take (at + n - at) (drop at d)) ≡ encode64 x
    whole = rw (drop_of_length-le (take (at + n - at) (drop at d)) short) (append-nil (encode64 x))
