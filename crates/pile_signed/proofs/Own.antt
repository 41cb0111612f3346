-- Laws of the answers that our own Ed25519 gives for a pile: two a record, each 1 or 0, so that they are never what
-- code 15 is about.
use Prim.Native.Nat.{ℕ, zero, suc, ◌+◌, ◌*◌, ◌/◌, ◌%◌, ◌≤◌, ◌<◌}
use mathlib.Core.Path.{◌≡◌, refl, sym, ap, ◌∙◌}
use mathlib.Core.Bool.{Bool, true, false, cond}
use mathlib.Core.List.{List, [], ◌∷◌, append_assoc}
use native.Mathlib.Numerals.{add-one}
use native.Mathlib.Omega.{arith}
use borrow.Author.Tests.{eq-eqb, le-ltb}
use lib.Dec.{eqb}
use lib.ListN.{length, take, get_or}
use lib.Seq.{ext_get_or, get_or-take, length-take-le}
use Rattle.laws.specs.Any.{any}
use Rattle.laws.specs.Flat.{flat}
use Rattle.laws.specs.Upto.{upto}
use Rattle.laws.proofs.Flat.{flat_append}
use Rattle.laws.proofs.Least.{nowhere}
use Rattle.laws.proofs.Upto.{upto-length, upto-at}
use Rattle.pile.specs.Meaning.{WholePile, GoodPile}
use Rattle.pile.specs.Pile.{records_in, said_yes, above_one, length_bad, answer_bad, pile_bad}
use Rattle.pile_signed.specs.OwnAnswers.{delegated_at, responded_at, answer_byte, answers_at, own_answers}

byte-yes : (b : Bool) → eqb (answer_byte b) 1 ≡ b
byte-yes true = refl
byte-yes false = refl

byte-most : (b : Bool) → answer_byte b ≤ 1
byte-most true = omega arith
byte-most false = omega arith

-- the byte at i of the answers: of record k, the delegation's is at 2 k and the response's at 2 k + 1
unfoldable pub own_answer : List ℕ → ℕ → ℕ
own_answer pile i = answer_byte (cond (eqb (i % 2) 0) (delegated_at pile (i / 2)) (responded_at pile (i / 2)))

module _ (pile : List ℕ) where
  -- the two answers of record k
  module _ (k : ℕ) where
    pub own-delegation : own_answer pile (2 * k) ≡ answer_byte (delegated_at pile k)
    unfolding own_answer
    own-delegation =
        let e : (2 * k) % 2 ≡ 0 = omega arith in
        let f : (2 * k) / 2 ≡ k = omega arith in
        rw (e, f)

    pub own-response : own_answer pile (2 * k + 1) ≡ answer_byte (responded_at pile k)
    unfolding own_answer
    own-response =
        let e : (2 * k + 1) % 2 ≡ 1 = omega arith in
        let f : (2 * k + 1) / 2 ≡ k = omega arith in
        rw (e, f)

  -- the answers of the first n records, byte by byte
  first-answers : (n : ℕ) → flat (upto (answers_at pile) n) ≡ upto (own_answer pile) (2 * n)
  unfolding flat upto
  first-answers zero = refl
  first-answers (suc n) =
      let twice : 2 * suc n ≡ suc (suc (2 * n)) = omega arith in
      rw (twice, flat_append, first-answers n, ← own-delegation n, ← own-response n, add-one)
      (sym (append_assoc (upto (own_answer pile) (2 * n)) _ _))

  own_is : own_answers pile ≡ upto (own_answer pile) (2 * records_in pile)
  unfolding own_answers
  own_is = first-answers (records_in pile)

  pub own-length : length (own_answers pile) ≡ 2 * records_in pile
  own-length = rw own_is (upto-length (own_answer pile) (2 * records_in pile))

  pub own_at : (i : ℕ) → i < 2 * records_in pile → get_or (own_answers pile) i 0 ≡ own_answer pile i
  own_at i h = rw own_is (upto-at (own_answer pile) (2 * records_in pile) i 0 h)

  -- bytes that are these up to their end begin with them
  pub own-front : (l : List ℕ) → 2 * records_in pile ≤ length l
      → ((i : ℕ) → i < 2 * records_in pile → get_or l i 0 ≡ own_answer pile i)
      → take (2 * records_in pile) l ≡ own_answers pile
  own-front l h f =
      let n = 2 * records_in pile in
      ext_get_or 0 (take n l) (own_answers pile) (length-take-le n l h ∙ sym own-length)
      (λ i u.
      let v : i < n = rw (length-take-le n l h) at u in
      get_or-take n l i 0 v ∙ f i v ∙ sym (own_at i v))

  -- what is said of record k
  module _ (k : ℕ) where
    pub said-delegated : k < records_in pile → said_yes (own_answers pile) (2 * k) ≡ delegated_at pile k
    unfolding said_yes
    said-delegated h =
        ap (λ (x : ℕ). eqb x 1) (own_at (2 * k) (omega arith) ∙ own-delegation k) ∙ byte-yes (delegated_at pile k)

    pub said-responded : k < records_in pile → said_yes (own_answers pile) (2 * k + 1) ≡ responded_at pile k
    unfolding said_yes
    said-responded h =
        ap (λ (x : ℕ). eqb x 1) (own_at (2 * k + 1) (omega arith) ∙ own-response k) ∙ byte-yes (responded_at pile k)

  most-one : (i : ℕ) → i < length (own_answers pile) → get_or (own_answers pile) i 0 ≤ 1
  unfolding own_answer
  most-one i h =
      rw (own_at i (omega (arith, own-length)))
      (byte-most (cond (eqb (i % 2) 0) (delegated_at pile (i / 2)) (responded_at pile (i / 2))))

  -- a pile of whole records is a good pile with them,
  pub own-good : WholePile pile → GoodPile pile (own_answers pile)
  own-good w = record { pile-whole = w; two = own-length; one_at_most = most-one }

  -- and code 15 is about the length alone
  pub own-bad-exactly : pile_bad pile (own_answers pile) ≡ length_bad pile
  unfolding pile_bad answer_bad any
  own-bad-exactly =
      rw (
        eq-eqb (length (own_answers pile)) (2 * records_in pile) own-length,
        nowhere (above_one (own_answers pile)) (length (own_answers pile))
            (λ i h. le-ltb 1 (get_or (own_answers pile) i 0) (most-one i h)),
      )
      (alone (length_bad pile))
    where
      alone : (b : Bool) → any (b ∷ false ∷ false ∷ []) ≡ b
      alone true = refl
      alone false = refl
