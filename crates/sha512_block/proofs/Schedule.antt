-- Laws of the message schedule: FIPS 180-4's own statement of W t, and that a block of zeros has words of zeros.
use Rattle.std.proofs.Common.{◌≡◌, ℕ, zero, suc, ◌+◌, ◌-◌, ◌*◌, ◌<◌, ◌≤◌, Bool, true, false, cond, ltb, List, [], ◌∷◌, ◌++◌, length, get_or, take, replicate, sym, refl, ap, ◌∙◌, le_of_eq, add-one, arith, length-append, take_all, get_or-take, ltb-false, le-ltb, lt-ltb}
use native.Mathlib.Decide.{le_ind}
use lib.ListN.{get_or-replicate, replicate-append-replicate}
use lib.Seq.{get_or_at, take-append-le}
use Rattle.laws.specs.Numbers.{be}
use Rattle.laws.specs.Zeros.{zeros}
use Rattle.laws.proofs.Zeros.{zeros-at}
use Rattle.sha512_block.specs.Words.{σ0, σ1}
use Rattle.sha512_block.specs.Schedule.{block_word, mixed, first_words, schedule}

-- the word behind the first t
abbrev next_word : List ℕ → List ℕ → ℕ → ℕ
next_word b w t = cond (ltb t 16) (block_word b t) (mixed w t)

-- a word depends on those before it alone
mixed-take : (w : List ℕ) (t : ℕ) → 16 ≤ t → mixed (take t w) t ≡ mixed w t
mixed-take w t h =
    let h2 : t - 2 < t = omega arith in
    let h7 : t - 7 < t = omega arith in
    let h15 : t - 15 < t = omega arith in
    let h16 : t - 16 < t = omega arith in
    simp get_or-take

pub words_long : (b : List ℕ) (n : ℕ) → length (first_words b n) ≡ n
unfolding first_words
words_long b zero = refl
words_long b (suc n) =
    length-append (first_words b n) (next_word b (first_words b n) n ∷ [])
    ∙ ap (λ (k : ℕ). k + 1) (words_long b n)
    ∙ add-one n

words_more : (b : List ℕ) (n : ℕ) → first_words b (suc n) ≡ first_words b n ++ (next_word b (first_words b n) n ∷ [])
unfolding first_words
words_more b n = refl

-- the first t words of any longer schedule
pub words_take : (b : List ℕ) (t n : ℕ) → t ≤ n → take t (first_words b n) ≡ first_words b t
words_take b t n = le_ind (λ (m : ℕ). take t (first_words b m) ≡ first_words b t) all step n
  where
    all : take t (first_words b t) ≡ first_words b t
    all = take_all t (first_words b t) (le_of_eq (words_long b t))

    step : (m : ℕ) → t ≤ m → take t (first_words b m) ≡ first_words b t → take t (first_words b (suc m)) ≡ first_words b t
    step m h e =
        let enough : t ≤ length (first_words b m) = rw words_long h in
        ap (take t) (words_more b m)
        ∙ take-append-le t (first_words b m) (next_word b (first_words b m) m ∷ []) enough
        ∙ e

-- word t of any longer schedule
words-at : (b : List ℕ) (t n : ℕ) → t < n → get_or (first_words b n) t 0 ≡ next_word b (first_words b t) t
words-at b t n h =
    sym (get_or-take (suc t) (first_words b n) t 0 (omega arith))
    ∙ ap (λ (l : List ℕ). get_or l t 0) (words_take b (suc t) n h ∙ words_more b t)
    ∙ get_or_at (first_words b t) (next_word b (first_words b t) t) [] 0 t (words_long b t)

-- the block's own words
pub own_word : (b : List ℕ) (t : ℕ) → t < 16 → get_or (first_words b 16) t 0 ≡ block_word b t
own_word b t h = words-at b t 16 h ∙ rw (lt-ltb t 16 h)

-- 6.4.2, step 1, as it stands there, and so a check of the definition: W t is M t for t below 16,
pub schedule-low : (b : List ℕ) (t : ℕ) → t < 16 → get_or (schedule b) t 0 ≡ block_word b t
unfolding schedule
schedule-low b t h = words-at b t 80 (omega arith) ∙ rw (lt-ltb t 16 h)

-- and follows the recurrence from there on
pub schedule-high : (b : List ℕ) (t : ℕ) → 16 ≤ t → t < 80 → get_or (schedule b) t 0 ≡ mixed (schedule b) t
unfolding schedule
schedule-high b t h l =
    let before : first_words b t ≡ take t (first_words b 80) = sym (words_take b t 80 (omega arith)) in
    words-at b t 80 l
    ∙ rw (le-ltb t 16 h) (ap (λ (w : List ℕ). mixed w t) before ∙ mixed-take (first_words b 80) t h)

-- ---- a block of zeros

-- its own words are 0
word-zero : (b : List ℕ) → zeros b ≡ true → (k at : ℕ) → be k b at ≡ 0
unfolding be
word-zero b h zero at = refl
word-zero b h (suc k) at = rw (word-zero b h k at, zeros-at b h (at + k))

-- and what is mixed of zeros is 0
mixed-zero : (t : ℕ) → 16 ≤ t → mixed (replicate t 0) t ≡ 0
unfolding σ0 σ1
mixed-zero t h =
    let h2 : t - 2 < t = omega arith in
    let h7 : t - 7 < t = omega arith in
    let h15 : t - 15 < t = omega arith in
    let h16 : t - 16 < t = omega arith in
    simp get_or-replicate

-- so that all are
words-zero : (b : List ℕ) → zeros b ≡ true → (n : ℕ) → first_words b n ≡ replicate n 0
unfolding first_words
words-zero b h zero = refl
words-zero b h (suc n) =
    ap (λ (w : List ℕ). w ++ (next_word b w n ∷ [])) (words-zero b h n)
    ∙ ap (λ (x : ℕ). replicate n 0 ++ (x ∷ [])) (next (ltb n 16) refl)
    ∙ replicate-append-replicate n 1 0
    ∙ ap (λ (k : ℕ). replicate k 0) (add-one n)
  where
    next : (t : Bool) → ltb n 16 ≡ t → cond t (block_word b n) (mixed (replicate n 0) n) ≡ 0
    next true e = word-zero b h 8 (8 * n)
    next false e = mixed-zero n (ltb-false n 16 e)

pub schedule-zero : (b : List ℕ) → zeros b ≡ true → schedule b ≡ replicate 80 0
unfolding schedule
schedule-zero b h = words-zero b h 80
