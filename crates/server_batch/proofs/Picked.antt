-- Laws of the places at which a test holds, and of a list that is filled from the front.
use mathlib.Core.Bool.{Bool, true, false, cond}
use mathlib.Core.List.{List, [], ◌∷◌, ◌++◌, append_assoc, append-nil}
use mathlib.Core.Path.{◌≡◌, sym, ap, ap₂, ◌∙◌}
use Prim.Native.Nat.{ℕ, zero, suc, ◌+◌, ◌≤◌, ◌<◌}
use native.Mathlib.Numerals.{add-one}
use native.Mathlib.Omega.{arith}
use lib.ListN.{length, drop, set, get_or, length-append, length-drop}
use lib.Seq.{drop-cons, set_at, get_or-append-add, get_or-drop}
use Rattle.laws.specs.Flat.{flat}
use Rattle.laws.specs.Upto.{upto}
use Rattle.laws.proofs.Flat.{flat_append}
use Rattle.laws.proofs.Split.{split}
use Rattle.laws.proofs.Upto.{upto-length}
use Rattle.server_batch.specs.Picking.{how_many, picked}

-- ---- How many there are

-- one place more, of which the test says t
many-step : (t : Bool) (n : ℕ) → cond t (suc n) n ≤ n + 1
many-step true n = omega arith
many-step false n = omega arith

many-grow : (t : Bool) (n : ℕ) → n ≤ cond t (suc n) n
many-grow true n = omega arith
many-grow false n = omega arith

module _ (p : ℕ → Bool) where
  -- one place more, marked 1 where the test holds there, and else 0
  pub more-mark : (n : ℕ) {k x : ℕ} → k ≡ how_many p n → x ≡ cond (p n) 1 0 → k + x ≡ how_many p (n + 1)
  unfolding how_many
  more-mark n {k} {x} e m = ap₂ (λ a c. a + c) e m ∙ by (p n) ∙ ap (how_many p) (sym (add-one n))
    where
      by : (t : Bool) → how_many p n + cond t 1 0 ≡ cond t (suc (how_many p n)) (how_many p n)
      by true = omega arith
      by false = omega arith

  -- never more than there are places
  pub many-most : (n : ℕ) → how_many p n ≤ n
  unfolding how_many
  many-most zero = omega arith
  many-most (suc n) = omega (arith, many-step (p n) (how_many p n), many-most n)

-- a place at which the test holds is one more
module _ (p : ℕ → Bool) (i : ℕ) (holds : p i ≡ true) where
  pub many_below : (n : ℕ) → i < n → how_many p i < how_many p n
  unfolding how_many
  many_below zero h = absurd (omega arith)
  many_below (suc n) h = split n i
      (λ g.
      let e : n ≡ i = omega arith in
      let t : p n ≡ true = ap p e ∙ holds in
      rw (t, e) (omega arith))
      (λ g. omega (arith, many_below n g, many-grow (p n) (how_many p n)))

-- what is at these places, one after the other: one place more
pub picked-flat : (p : ℕ → Bool) (f : ℕ → List ℕ) (n : ℕ)
    → flat (picked p f n) ++ cond (p n) (f n) [] ≡ flat (picked p f (n + 1))
unfolding picked flat
picked-flat p f n = by (p n) ∙ ap (λ m. flat (picked p f m)) (sym (add-one n))
  where
    by : (t : Bool) → flat (picked p f n) ++ cond t (f n) [] ≡ flat (cond t (picked p f n ++ (f n ∷ [])) (picked p f n))
    by true =
        ap (λ l. flat (picked p f n) ++ l) (sym (append-nil (f n))) ∙ sym (flat_append (picked p f n) (f n ∷ []))
    by false = append-nil (flat (picked p f n))

-- the same of what code has counted
pub many-of : (p : ℕ → Bool) (n : ℕ) {k : ℕ} → k ≡ how_many p n → k ≤ n
many-of p n e = omega (arith, e, many-most p n)

-- ---- A list that is filled from the front

pub front-next : {A : Type 0} (f : ℕ → A) (o : List A) {out : List A} (i : ℕ) (v d : A) → i < length o
    → out ≡ upto f i ++ drop i o → v ≡ f i → set out i v ≡ upto f (i + 1) ++ drop (i + 1) o
unfolding upto
front-next f o {out} i v d h e q =
    let more : upto f (suc i) ++ drop (suc i) o ≡ upto f i ++ (f i ∷ drop (suc i) o) =
    append_assoc (upto f i) (f i ∷ []) (drop (suc i) o) in
    ap (λ l. set l i v) (e ∙ ap (λ l. upto f i ++ l) (drop-cons o i d h))
    ∙ set_at (upto f i) (get_or o i d) (drop (suc i) o) v i (upto-length f i)
    ∙ ap (λ x. upto f i ++ (x ∷ drop (suc i) o)) q
    ∙ sym more
    ∙ ap (λ n. upto f n ++ drop n o) (sym (add-one i))

-- it stays as long as it was
pub front_length : {A : Type 0} (f : ℕ → A) (o : List A) {out : List A} (i : ℕ) → i ≤ length o
    → out ≡ upto f i ++ drop i o → length out ≡ length o
front_length f o i h e =
    ap length e ∙ simp (length-append, upto-length, length-drop) (omega arith)

-- and in the end all are there
pub front-whole : {A : Type 0} (f : ℕ → A) (o : List A) {out : List A} (i n : ℕ) → i ≡ n
    → out ≡ upto f i ++ drop i o → out ≡ upto f n ++ drop (length (upto f n)) o
front-whole f o i n q e = e ∙ rw (q, upto-length)

-- what is not filled yet is as it was
pub front-ahead : {A : Type 0} (f : ℕ → A) (o : List A) {out : List A} (i : ℕ) (d : A)
    → out ≡ upto f i ++ drop i o → get_or out i d ≡ get_or o i d
front-ahead f o i d e =
    let l : length (upto f i) + 0 ≡ i = omega (arith, upto-length f i) in
    let z : i + 0 ≡ i = omega arith in
    ap (λ l. get_or l i d) e
    ∙ ap (λ n. get_or (upto f i ++ drop i o) n d) (sym l)
    ∙ get_or-append-add (upto f i) (drop i o) 0 d
    ∙ get_or-drop i o 0 d
    ∙ ap (λ n. get_or o n d) z
