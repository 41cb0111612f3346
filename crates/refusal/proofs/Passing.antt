-- Laws of a row of checks that code goes through with `?`: what each answer says, and what it says of the row. They are
-- those of `laws`, where a refusal is an error.
use Rattle.std.specs.Prelude.{Err, Ok, Result}
use Rattle.std.specs.Result.{MatchResult, IsErrAnd, is_err}
use Prim.Native.Nat.{ℕ, ◌+◌}
use mathlib.Core.Path.{◌≡◌, refl, sym, ap, ◌∙◌}
use mathlib.Core.List.{List, [], ◌∷◌}
use mathlib.Core.Bool.{Bool, true, false, not, cond}
use native.Mathlib.Omega.{arith}
use lib.Dec.{T, eqb, ltb}
use borrow.Author.Rules.{rules}
use borrow.Author.Tests.{eq-eqb, ne_eqb, eqb-true, eqb-false}
use Rattle.laws.specs.First.{when_of}
use Rattle.laws.proofs.First.{says-0, says-more, is_last, is-empty, test-false, test-true}
use Rattle.refusal.specs.Refusal.{passes, answer, number_of, refusals, first, passed, carries, shifted}
use Rattle.refusal.specs.declared.Refusal.{Refusal}

abbrev pub Answer : Type 0
Answer = Result (Unit {0}) Refusal

-- ---- what an answer says of the refusal

by-code : (why : Refusal) (P : Answer → Type 0) → (why.code ≡ 0 → P (Ok tt))
    → ((why.code ≡ 0 → ⊥) → P (Err why)) → P (passes why)
unfolding passes
by-code why P good bad = by (eqb why.code 0) refl
  where
    by : (t : Bool) → eqb why.code 0 ≡ t → P (cond t (Ok tt) (Err why))
    by true e = good (eqb-true _ _ e)
    by false e = bad (eqb-false _ _ e)

-- where it goes on, nothing is refused
pub goes-on : (why : Refusal) {r : Answer} {u : Unit {0}} → r ≡ passes why → r ≡ Ok u → why.code ≡ 0
goes-on why {r} {u} e f =
    by-code why (λ a. a ≡ Ok u → why.code ≡ 0) (λ z g. z) (λ n g. absurd (let z : ◌≡◌ {A = ℕ} 0 1 = cc in omega arith))
    (sym e ∙ f)

-- the same where code has the refusal as x
pub passed-code : {why x : Refusal} {r : Answer} {u : Unit {0}} → r ≡ passes x → x ≡ why → r ≡ Ok u → why.code ≡ 0
passed-code {why} {x} e f g = goes-on why (e ∙ ap passes f) g

-- an error is the refusal
pub error-is : (why : Refusal) {x : Refusal} {r : Answer} → r ≡ passes why → r ≡ Err x → x ≡ why
error-is why {x} {r} e f =
    by-code why (λ a. a ≡ Err x → x ≡ why) (λ z g. absurd (let y : ◌≡◌ {A = ℕ} 0 1 = cc in omega arith)) (λ n g. cc)
    (sym e ∙ f)

pub error-refuses : (why : Refusal) {x : Refusal} {r : Answer} → r ≡ passes why → r ≡ Err x → x.code ≡ 0 → ⊥
error-refuses why {x} {r} e f =
    by-code why (λ a. a ≡ Err x → x.code ≡ 0 → ⊥) (λ z g. absurd (let y : ◌≡◌ {A = ℕ} 0 1 = cc in omega arith))
    (λ n g z. n (ap (λ (y : Refusal). y.code) (sym (error-of g)) ∙ z)) (sym e ∙ f)
  where
    error-of : {y z : Refusal} → ◌≡◌ {A = Answer} (Err y) (Err z) → z ≡ y
    error-of g = cc

-- a refusal that has a number is an error
pub refuses : {why : Refusal} → (why.code ≡ 0 → ⊥) → Err why ≡ passes why
unfolding passes
refuses {why} n = rw (ne_eqb why.code 0 n)

pub quiet-passes : (why : Refusal) → why.code ≡ 0 → Ok tt ≡ passes why
unfolding passes
quiet-passes why z = rw (eq-eqb why.code 0 z)

pub is-refused : (why : Refusal) {r : Answer} → r ≡ passes why → is_err r ≡ not (eqb why.code 0)
is-refused why {r} e = ap is_err e ∙ by-code why (λ a. is_err a ≡ not (eqb why.code 0))
    (λ z. sym (ap not (eq-eqb why.code 0 z))) (λ n. sym (ap not (ne_eqb why.code 0 n)))

-- ---- a check whose refusal is a, which code has as the answer r

-- it goes on: the answer of the row is that of the checks behind it
pub passed-on : (a b : Refusal) (row : List Refusal) {r s : Answer} {u : Unit {0}} → r ≡ passes a → r ≡ Ok u
    → s ≡ passes (first (b ∷ row)) → s ≡ passes (first (a ∷ b ∷ row))
passed-on a b row e f g = g ∙ ap passes (says-0 refusals b row refl (goes-on a e f) refl)

-- it does not: it is the answer of the row
pub refused-by : (a : Refusal) {x : Refusal} (row : List Refusal) {r : Answer} → r ≡ passes a → r ≡ Err x
    → Err x ≡ passes (first (a ∷ row))
refused-by a row e f =
    refuses (error-refuses a e f) ∙ ap passes (says-more refusals row (error-is a e f) (error-refuses a e f))

-- it is the last one
pub last-is : (a : Refusal) {s : Answer} → s ≡ passes a → s ≡ passes (first (a ∷ []))
last-is a e = e ∙ ap passes (is_last refusals {x = a} refl)

-- no check is left
pub none-left : Ok tt ≡ passes (first [])
none-left = quiet-passes passed refl ∙ ap passes (is-empty refusals refl)

-- ---- a check that is a test b, which code has as t, with the refusal a, which code has as x

pub test-on : {b t : Bool} (a : Refusal) (row : List Refusal) {s : Answer} → t ≡ b → t ≡ false
    → s ≡ passes (first row) → s ≡ passes (first (when_of refusals b a ∷ row))
test-on a row e f g = g ∙ ap passes (test-false refusals a row e f refl)

pub test-refuses : {b t : Bool} {x : Refusal} (a : Refusal) (row : List Refusal) → x ≡ a → T (ltb 0 a.code) → t ≡ b
    → t ≡ true → Err x ≡ passes (first (when_of refusals b a ∷ row))
test-refuses {x = x} a row g p e f =
    let n : x.code ≡ 0 → ⊥ = λ z. absurd (not-zero (sym (ap (λ (y : Refusal). y.code) g) ∙ z) p) in
    refuses n ∙ ap passes (test-true refusals a row g p e f)
  where
    not-zero : {k : ℕ} → k ≡ 0 → T (ltb 0 k) → ⊥
    not-zero e p = rw e at p

-- ---- a check alone that is a test

pub test-alone : {b : Bool} {x : Refusal} (a : Refusal) → x ≡ a → T (ltb 0 a.code) → b ≡ true
    → Err x ≡ passes (when_of refusals b a)
unfolding when_of
test-alone {b} {x} a g p f =
    rw f (refuses (λ z. absurd (not-zero (sym (ap (λ (y : Refusal). y.code) g) ∙ z) p)) ∙ ap passes g)
  where
    not-zero : {k : ℕ} → k ≡ 0 → T (ltb 0 k) → ⊥
    not-zero e p = rw e at p

pub test-quiet-alone : {b : Bool} (a : Refusal) → b ≡ false → Ok tt ≡ passes (when_of refusals b a)
unfolding when_of
test-quiet-alone a f = rw f (quiet-passes passed refl)

-- ---- the answer r of a part, told of the whole in which it starts at byte `by`

-- the whole is refused where the part is, with the place in it
pub shifted-answer : (by : ℕ) (a : Refusal) {r s : Answer} (Q : Refusal → Refusal → Type 0) → r ≡ passes a
    → MatchResult r (λ u. s ≡ Ok u) (λ x. IsErrAnd s (Q x)) → ((x y : Refusal) → r ≡ Err x → Q x y → y ≡ shifted by x)
    → s ≡ passes (shifted by a)
shifted-answer by a {r = Ok u} Q e m q = m ∙ quiet-passes (shifted by a) (goes-on a e refl)
shifted-answer by a {r = Err x} {s = Ok u} Q e m q = absurd m
shifted-answer by a {r = Err x} {s = Err y} Q e m q =
    let g : y ≡ shifted by x = q x y refl m in
    refuses (λ z. error-refuses a e refl (ap (λ (w : Refusal). w.code) (sym g) ∙ z))
    ∙ ap passes (g ∙ ap (shifted by) (error-is a e refl))

-- a part of a part
told : Refusal → Bool → ℕ → ℕ → Refusal
told r t n m = record { code = r.code; at = cond t n m }

told-twice : (a b : ℕ) (r : Refusal) (t : Bool)
    → told r t (cond t (r.at + b) r.at + a) (cond t (r.at + b) r.at) ≡ told r t (r.at + (a + b)) r.at
unfolding told
told-twice a b r true = let e : r.at + b + a ≡ r.at + (a + b) = omega arith in rw e
told-twice a b r false = refl

pub shifted-twice : (a b : ℕ) (r : Refusal) → shifted a (shifted b r) ≡ shifted (a + b) r
unfolding told
shifted-twice a b r = told-twice a b r (carries r.code)

-- ---- an answer with a value

-- the value, where the check before it passes,
pub answers-value : {A : Type 0} (why : Refusal) {r : Answer} {u : Unit {0}} {x y : A} → r ≡ passes why → r ≡ Ok u
    → x ≡ y → Ok x ≡ answer why y
unfolding answer
answers-value why e f g = rw (eq-eqb why.code 0 (goes-on why e f), g)

-- and the refusal where it does not
pub answers-refusal : {A : Type 0} (why : Refusal) {r : Answer} {x : Refusal} (y : A) → r ≡ passes why → r ≡ Err x
    → Err x ≡ answer why y
unfolding answer
answers-refusal why y e f =
    let is = error-is why e f in
    rw (ne_eqb why.code 0 (λ z. error-refuses why e f (ap (λ (w : Refusal). w.code) is ∙ z)), is)

pub answer-number : {A : Type 0} (why : Refusal) (x : A) → number_of (answer why x) ≡ why.code
unfolding answer number_of
answer-number why x = by (eqb why.code 0) refl
  where
    by : (t : Bool) → eqb why.code 0 ≡ t → number_of (cond t (Ok x) (Err why)) ≡ why.code
    by true e = sym (eqb-true _ _ e)
    by false e = refl

-- ---- a check whose refusal a is known to be none

pub passed-by : (a b : Refusal) (row : List Refusal) {s : Answer} → a.code ≡ 0
    → s ≡ passes (first (b ∷ row)) → s ≡ passes (first (a ∷ b ∷ row))
passed-by a b row z g = g ∙ ap passes (says-0 refusals b row refl z refl)

-- what a chain of checks with `?` is proved by
pub ruleset passing = (passed-on, refused-by, last-is, none-left, test-on, test-refuses, rules)
