-- Records one after the other, and the answer bytes beside them: what is read for record k is what was put there.
use mathlib.Core.Path.{◌≡◌, refl, ap, ◌∙◌}
use mathlib.Core.Bool.{Bool, true, false, cond}
use mathlib.Core.List.{List, [], ◌∷◌, ◌++◌}
use mathlib.Core.Logic.{⊎_elim}
use Prim.Native.Nat.{ℕ, zero, suc, ◌+◌, ◌*◌, ◌≤◌, ◌<◌}
use native.Mathlib.Nat.{eq-or-lt_of_le, le_of_suc-le-suc}
use native.Mathlib.Omega.{arith}
use lib.ListN.{length, take, drop, get_or, length-append, length-drop}
use lib.Seq.{take-append-le, take_all, drop-append-le, drop_at}
use Rattle.pile.specs.Pile.{record_at, said_yes}
use Rattle.examples.specs.Spoken.{Reply}
use Rattle.examples.proofs.AreBytes.{AreBytes, bytes-none, bytes-append}

-- ---- records

-- the records r 0 to r (n - 1)
unfoldable pub pile_of : (ℕ → List ℕ) → ℕ → List ℕ
pile_of r zero = []
pile_of r (suc n) = pile_of r n ++ r n

module _ (r : ℕ → List ℕ) (long : (k : ℕ) → length (r k) ≡ 4096) where
  pub length-pile : (n : ℕ) → length (pile_of r n) ≡ 4096 * n
  unfolding pile_of
  length-pile zero = refl
  length-pile (suc n) = length-append (pile_of r n) (r n) ∙ omega (arith, length-pile n, long n)

  -- the last record, and one before it
  at-end : (n : ℕ) → record_at (pile_of r n ++ r n) n ≡ r n
  unfolding record_at
  at-end n =
      ap (take 4096) (drop_at (pile_of r n) (r n) (4096 * n) (length-pile n))
      ∙ take_all 4096 (r n) (omega (arith, long n))

  before-end : (n k : ℕ) → k < n → record_at (pile_of r n ++ r n) k ≡ record_at (pile_of r n) k
  unfolding record_at
  before-end n k h =
      let room : 4096 * k + 4096 ≤ length (pile_of r n) = omega (arith, length-pile n) in
      ap (take 4096) (drop-append-le (4096 * k) (pile_of r n) (r n) (omega arith))
      ∙ take-append-le 4096 (drop (4096 * k) (pile_of r n)) (r n) (rw length-drop (omega arith))

  pub record-at : (n k : ℕ) → k < n → record_at (pile_of r n) k ≡ r k
  unfolding pile_of
  record-at (suc n) k h =
      ⊎_elim (λ (e : k ≡ n). rw e (at-end n)) (λ (l : k < n). before-end n k l ∙ record-at n k l)
      (eq-or-lt_of_le (le_of_suc-le-suc h))
  record-at zero k h = absurd (omega arith)

pub pile-bytes : (r : ℕ → List ℕ) → ((k : ℕ) → AreBytes (r k)) → (n : ℕ) → AreBytes (pile_of r n)
unfolding pile_of
pile-bytes r b zero = bytes-none
pile-bytes r b (suc n) = bytes-append (pile-bytes r b n) (b n)

-- ---- answers

-- 1 yes, 0 no
abbrev byte_of : Bool → ℕ
byte_of said = cond said 1 0

unfoldable pub answers_of : List Reply → List ℕ
answers_of [] = []
answers_of (r ∷ rs) = byte_of r.delegation ∷ byte_of r.signature ∷ answers_of rs

-- reply k; past the last one 0±1, and no
abbrev pub reply : List Reply → ℕ → Reply
reply rs k = get_or rs k (record { midp = 0; radi = 1; delegation = false; signature = false })

pub length-answers : (rs : List Reply) → length (answers_of rs) ≡ 2 * length rs
unfolding answers_of
length-answers [] = refl
length-answers (r ∷ rs) = omega (arith, length-answers rs)

byte_small : (said : Bool) → byte_of said ≤ 1
byte_small true = omega arith
byte_small false = omega arith

pub answer-small : (rs : List Reply) (i : ℕ) → get_or (answers_of rs) i 0 ≤ 1
unfolding answers_of
answer-small [] i = omega arith
answer-small (r ∷ rs) zero = byte_small r.delegation
answer-small (r ∷ rs) (suc zero) = byte_small r.signature
answer-small (r ∷ rs) (suc (suc i)) = answer-small rs i

byte-said : (said : Bool) → said_yes (byte_of said ∷ []) 0 ≡ said
unfolding said_yes
byte-said true = refl
byte-said false = refl

-- the answers on record k
pub answers-said : (rs : List Reply) (k : ℕ)
    → (said_yes (answers_of rs) (2 * k) ≡ (reply rs k).delegation)
    × (said_yes (answers_of rs) (2 * k + 1) ≡ (reply rs k).signature)
unfolding answers_of said_yes
answers-said [] k = (refl, refl)
answers-said (r ∷ rs) zero = (byte-said r.delegation, byte-said r.signature)
answers-said (r ∷ rs) (suc k) =
    let e : 2 * suc k ≡ suc (suc (2 * k)) = omega arith in
    let f : 2 * suc k + 1 ≡ suc (suc (2 * k + 1)) = omega arith in
    let a = answers-said rs k in
    (rw e a.0, rw f a.1)
