-- Laws of what is lent of many servers: the lengths, whether all fits together, and the first server.
use Prim.Native.Nat.{ℕ, zero, suc, ◌+◌, ◌*◌, ◌-◌, ◌/◌, ◌%◌, ◌≤◌, ◌<◌}
use mathlib.Core.Path.{◌≡◌, refl, sym, ◌∙◌, ap, ap₂}
use mathlib.Core.Bool.{Bool, true, false, ◌&&◌, ◌||◌}
use mathlib.Core.List.{List, [], ◌∷◌}
use native.Mathlib.Omega.{arith}
use native.Mathlib.Numerals.{add-one}
use lib.Dec.{eqb}
use lib.ListN.{length, take, drop, get_or, drop_of_length-le, length-drop}
use lib.Seq.{drop-cons, drop-drop, length-take-le}
use borrow.Author.Tests.{eq-eqb, ne_eqb, eqb-true, eqb-false}
use Rattle.std.specs.List.{list_all, list_any}
use Rattle.laws.specs.Pick.{either, both}
use Rattle.laws.specs.Pasted.{part}
use Rattle.list_write.specs.declared.Item.TheVariants.{Address}
use Rattle.list_write.specs.Lines.{lines_of, all_good}
use Rattle.list_write.specs.Given.{Given, given, good_server, is_crowded}
use Rattle.list_write.specs.Lent.{Lent, lent, total, fitted, given_at, given_from, givens, all_servers, any_crowded}
use Rattle.list_write.proofs.Feeds.{halves}

total-cons : (l : List ℕ) (i : ℕ) → i < length l → total (drop i l) ≡ get_or l i 0 + total (drop (i + 1) l)
unfolding total
total-cons l i h = rw (add-one i, drop-cons l i 0 h) refl

same_test : (a b c d : ℕ) → (a ≡ b → c ≡ d) → (c ≡ d → a ≡ b) → eqb a b ≡ eqb c d
same_test a b c d f g = by (eqb a b) refl
  where
    by : (t : Bool) → eqb a b ≡ t → t ≡ eqb c d
    by true e = sym (eq-eqb c d (f (eqb-true a b e)))
    by false e = sym (ne_eqb c d (λ q. eqb-false a b e (g q)))

-- a length that is more than is left, or that is taken off; and the end
module _ (l : List ℕ) (i : ℕ) {k left : ℕ} where
  pub total-over : i < length l → k ≡ get_or l i 0 → left < k → false ≡ eqb (total (drop i l)) left
  total-over h e g = sym (ne_eqb (total (drop i l)) left (λ q. omega (arith, total-cons l i h)))

  pub total-turn : i < length l → k ≡ get_or l i 0 → k ≤ left
      → eqb (total (drop (i + 1) l)) (left - k) ≡ eqb (total (drop i l)) left
  total-turn h e g =
      same_test (total (drop (i + 1) l)) (left - k) (total (drop i l)) left
      (λ q. omega (arith, total-cons l i h)) (λ q. omega (arith, total-cons l i h))

pub total-end : (l : List ℕ) (i left : ℕ) → length l ≤ i → eqb left 0 ≡ eqb (total (drop i l)) left
unfolding total
total-end l i left h = rw (drop_of_length-le l h) (same_test left 0 0 left (λ q. sym q) (λ q. sym q))

-- ---- The tests that all fits together, one after the other.
pub keys-other : {n m : ℕ} (b : Bool) → (n ≡ m → ⊥) → false ≡ both (eqb n m) b
unfolding both
keys-other {n} {m} b h = rw (ne_eqb n m h) refl

pub keys-right : {n m : ℕ} {r b : Bool} → n ≡ m → r ≡ b → r ≡ both (eqb n m) b
unfolding both
keys-right {n} {m} h g = rw (eq-eqb n m h) g

-- by the remainder and the quotient
module _ (k n : ℕ) where
  pub keys-rest : (b : Bool) → (k % 32 ≡ 0 → ⊥) → false ≡ both (eqb k (32 * n)) b
  keys-rest b h = keys-other b (λ (e : k ≡ 32 * n). h (omega arith))

  pub keys-more : (b : Bool) → (k / 32 ≡ n → ⊥) → false ≡ both (eqb k (32 * n)) b
  keys-more b h = keys-other b (λ (e : k ≡ 32 * n). h (omega arith))

  pub keys-whole : {r b : Bool} → k % 32 ≡ 0 → k / 32 ≡ n → r ≡ b → r ≡ both (eqb k (32 * n)) b
  keys-whole e f g = let h : k ≡ 32 * n = omega arith in keys-right h g

-- what fits together, by its lengths
pub record Fitting (l : Lent) : Type 0 where
  pub keyed : length l.keys ≡ 32 * length l.versions
  pub named : length l.lengths_of_names ≡ length l.versions
  pub lined : length l.lengths_of_addresses ≡ length l.versions
  pub names : total l.lengths_of_names ≡ length l.names
  pub lines : total l.lengths_of_addresses ≡ length l.addresses

pub fitting : (l : Lent) → fitted l ≡ true → Fitting l
unfolding fitted
fitting l h =
    let a = halves (eqb (length l.keys) (32 * length l.versions)) _ h in
    let b = halves (eqb (length l.lengths_of_names) (length l.versions)) _ a.1 in
    let c = halves (eqb (length l.lengths_of_addresses) (length l.versions)) _ b.1 in
    let d = halves (eqb (total l.lengths_of_names) (length l.names)) _ c.1 in
    record {
      keyed = eqb-true _ _ a.0;
      named = eqb-true _ _ b.0;
      lined = eqb-true _ _ c.0;
      names = eqb-true _ _ d.0;
      lines = eqb-true _ _ d.1;
    }

pub fits : {l : Lent} → Fitting l → fitted l ≡ true
unfolding fitted both
fits f = rw (eq-eqb _ _ f.keyed, eq-eqb _ _ f.named, eq-eqb _ _ f.lined, eq-eqb _ _ f.names, eq-eqb _ _ f.lines) refl

-- ---- The first server, and those behind it.
part-on : (n p k : ℕ) (s : List ℕ) → part (n + p) (n + p + k) s ≡ part p (p + k) (drop n s)
part-on n p k s =
    let a : n + p + k - (n + p) ≡ k = omega arith in
    let b : p + k - p ≡ k = omega arith in
    ap₂ take (a ∙ sym b) (sym (drop-drop p n s))

module _ (ks vs ns nl xs al : List ℕ) (v n a : ℕ) where
  abbrev here : Lent
  here = lent ks (v ∷ vs) ns (n ∷ nl) xs (a ∷ al)

  abbrev there : Lent
  there = lent (drop 32 ks) vs (drop n ns) nl (drop a xs) al

  second : (l : List ℕ) (x i : ℕ) → get_or (x ∷ l) (i + 1) 0 ≡ get_or l i 0
  second l x i = rw (add-one i) refl

  at-on : (i p q : ℕ) → given_at here (i + 1) (n + p) (a + q) ≡ given_at there i p q
  unfolding given_at
  at-on i p q =
      let z : 32 * (i + 1) ≡ 32 + 32 * i = omega arith in
      rw (z, second nl n i, second vs v i, second al a i)
      (rw (part-on n p (get_or nl i 0) ns, part-on 32 (32 * i) 32 ks, part-on a q (get_or al i 0) xs) refl)

  from-on : (m i p q : ℕ) → given_from m here (i + 1) (n + p) (a + q) ≡ given_from m there i p q
  unfolding given_from
  from-on zero i p q = refl
  from-on (suc m) i p q =
      let e : n + p + get_or (n ∷ nl) (i + 1) 0 ≡ n + (p + get_or nl i 0) = omega (arith, second nl n i) in
      let f : a + q + get_or (a ∷ al) (i + 1) 0 ≡ a + (q + get_or al i 0) = omega (arith, second al a i) in
      ap₂ (λ g gs. g ∷ gs) (at-on i p q)
      (ap₂ (given_from m here (i + 1 + 1)) e f ∙ from-on m (i + 1) (p + get_or nl i 0) (q + get_or al i 0))

  givens-first : givens here ≡ given (take n ns) v (take 32 ks) (take a xs) ∷ givens there
  unfolding givens given_from given_at
  givens-first =
      let e : 0 + n - 0 ≡ n = omega arith in
      let f : 0 + a - 0 ≡ a = omega arith in
      let g : 0 + n ≡ n + 0 = omega arith in
      let h : 0 + a ≡ a + 0 = omega arith in
      ap₂ (λ x xs. x ∷ xs) (ap₂ (λ x y. given x v (take 32 ks) y) (ap (λ k. take k ns) e) (ap (λ k. take k xs) f))
      (ap₂ (given_from (length vs) here 1) g h ∙ from-on (length vs) 0 0 0)

  fits-behind : Fitting here → Fitting there
  unfolding total
  fits-behind f = record {
    keyed = omega (arith, f.keyed, length-drop 32 ks);
    named = omega (arith, f.named);
    lined = omega (arith, f.lined);
    names = omega (arith, f.names, length-drop n ns);
    lines = omega (arith, f.lines, length-drop a xs);
  }

-- the same by what code has split off
module _ (ks us ns ml xs bl : List ℕ) {vs nl al : List ℕ} {v n a : ℕ} (e : us ≡ v ∷ vs) (f : ml ≡ n ∷ nl) (g : bl ≡ a ∷ al)
    (h : fitted (lent ks us ns ml xs bl) ≡ true) where
  pub first-name : n ≤ length ns
  unfolding total
  first-name = let k = ap total f in omega (arith, (fitting _ h).names, k)

  pub first-lines : a ≤ length xs
  unfolding total
  first-lines = let k = ap total g in omega (arith, (fitting _ h).lines, k)

  pub first-key : length (take 32 ks) ≡ 32
  first-key = let k = ap length e in length-take-le 32 ks (omega (arith, (fitting _ h).keyed, k))

  module _ {ks' ns' xs' : List ℕ} (q : ks' ≡ drop 32 ks) (r : ns' ≡ drop n ns) (s : xs' ≡ drop a xs) where
    pub behind-fits : fitted (lent ks' vs ns' nl xs' al) ≡ true
    behind-fits = rw (q, r, s) (fits (fits-behind ks vs ns nl xs al v n a (fitting _ (rw (e, f, g) at h))))

    pub first-is : {k x y : List ℕ} → x ≡ take n ns → k ≡ take 32 ks → y ≡ take a xs
        → givens (lent ks us ns ml xs bl) ≡ given x v k y ∷ givens (lent ks' vs ns' nl xs' al)
    first-is i j l = rw (q, r, s, i, j, l, e, f, g) (givens-first ks vs ns nl xs al v n a)

pub no-servers : (l : Lent) → length l.versions ≡ 0 → givens l ≡ []
unfolding givens given_from
no-servers l h = rw h refl

from-length : (l : Lent) (n i p q : ℕ) → length (given_from n l i p q) ≡ n
unfolding given_from
from-length l zero i p q = refl
from-length l (suc n) i p q = ap suc (from-length l n (i + 1) _ _)

pub givens-length : (l : Lent) → length (givens l) ≡ length l.versions
unfolding givens
givens-length l = from-length l (length l.versions) 0 0 0

-- ---- All servers.
pub all-servers : (gs : List Given) → list_all (λ g. good_server g.name g.addresses) gs ≡ all_servers gs
unfolding all_servers both
all-servers [] = refl
all-servers (g ∷ gs) = by (good_server g.name g.addresses) (all-servers gs)
  where
    by : (t : Bool) → list_all (λ g. good_server g.name g.addresses) gs ≡ all_servers gs
        → (t && list_all (λ g. good_server g.name g.addresses) gs) ≡ both t (all_servers gs)
    by true e = e
    by false e = refl

pub any-crowded : (gs : List Given) → list_any (λ g. is_crowded g.addresses) gs ≡ any_crowded gs
unfolding any_crowded either
any-crowded [] = refl
any-crowded (g ∷ gs) = by (is_crowded g.addresses) (any-crowded gs)
  where
    by : (t : Bool) → list_any (λ g. is_crowded g.addresses) gs ≡ any_crowded gs
        → (t || list_any (λ g. is_crowded g.addresses) gs) ≡ either t (any_crowded gs)
    by true e = refl
    by false e = e

-- what all of them being good says of the first
pub servers-first : {gs : List Given} (x : Given) (xs : List Given) → gs ≡ x ∷ xs → all_servers gs ≡ true
    → (good_server x.name x.addresses ≡ true) × (all_servers xs ≡ true)
unfolding all_servers
servers-first x xs e h = halves (good_server x.name x.addresses) (all_servers xs) (rw e at h)

-- and of the lines of a good one
pub good-lines : (name addresses : List ℕ) → good_server name addresses ≡ true
    → all_good Address (lines_of addresses) ≡ true
unfolding good_server
good-lines name addresses h = (halves _ (all_good Address (lines_of addresses)) h).1
