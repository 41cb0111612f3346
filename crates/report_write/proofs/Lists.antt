-- The loops over the records: what is written, and how long it will be.
use Prim.Native.Nat.{ℕ, zero, suc, ◌+◌, ◌*◌, ◌-◌, ◌≤◌, ◌<◌}
use mathlib.Core.Path.{◌≡◌, refl, sym, subst, ◌∙◌, ap}
use mathlib.Core.Bool.{Bool, true, false}
use mathlib.Core.List.{List, [], ◌∷◌, ◌++◌, append-nil}
use native.Mathlib.Omega.{arith}
use native.Mathlib.Nat.{not-suc-le-zero}
use borrow.Author.Tests.{ne_eqb}
use lib.Dec.{eqb}
use lib.ListN.{length, take, drop, length-append, length-take, length-drop, drop_of_length-le}
use lib.Seq.{take_all, drop-drop}
use Rattle.laws.specs.Ascii.{ascii}
use Rattle.laws.specs.Pasted.{pasted, fronted}
use Rattle.laws.specs.Written.{Puts}
use Rattle.laws.proofs.Filled.{Filled, filled-first, filled_next, filled-fit, filled-last, filled-length}
use Rattle.pile.specs.Pile.{record_at}
use Rattle.report_write.specs.Entries.{entry_of, entries_in}
use Rattle.report_write.specs.Text.{entries_text, json_of}
use Rattle.report_write.specs.Pieces.{object_text, list_text, Fits, Recorded, Piled}
use Rattle.report_write.proofs.Objects.{object-is, object-most}

abbrev pub opening : List ℕ
opening = ascii "{\"responses\":["

-- what follows an object, where m more come
tail_text : List ℕ → ℕ → ℕ → List ℕ
tail_text p zero k = 93 ∷ 125 ∷ []
tail_text p (suc m) k = 44 ∷ list_text p false (suc m) (k + 1)

turn : (p : List ℕ) (first : Bool) (m k : ℕ)
    → list_text p first (suc m) k ≡ object_text first (entry_of (record_at p k)) ++ tail_text p m k
unfolding list_text tail_text entries_text entries_in
turn p first zero k = sym (object-is first (entry_of (record_at p k)) (93 ∷ 125 ∷ []))
turn p first (suc m) k =
    sym
    (object-is first (entry_of (record_at p k))
    (44 ∷ entries_text false (entry_of (record_at p (k + 1))) (entries_in m p (k + 1 + 1)) (125 ∷ [])))

json-is : (p : List ℕ) (n : ℕ) → 0 < n → json_of (entries_in n p 0) ≡ opening ++ list_text p true n 0
unfolding json_of entries_in list_text
json-is p zero h = absurd (not-suc-le-zero h)
json-is p (suc n) h = refl

piled-here : {p : List ℕ} {k n : ℕ} → Piled p k n → Recorded p k
piled-here {p} {k} {n} s = let e : k + 0 ≡ k = omega arith in rw e at (s.each 0 s.some_left)

more_left : (n : ℕ) → 0 < n → (n ≡ 1 → ⊥) → 0 < n - 1
more_left zero h g = absurd (not-suc-le-zero h)
more_left (suc zero) h g = absurd (g refl)
more_left (suc (suc m)) h g = omega arith

piled-next : {p : List ℕ} {k n : ℕ} → Piled p k n → (n ≡ 1 → ⊥) → Piled p (k + 1) (n - 1)
piled-next {p} {k} {n} s h = record { some_left = more_left n s.some_left h; each = λ i g. next i g }
  where
    next : (i : ℕ) → i < n - 1 → Recorded p (k + 1 + i)
    next i g = let e : k + (i + 1) ≡ k + 1 + i = omega arith in rw e at (s.each (i + 1) (omega arith))

tail-last : (p : List ℕ) (n k : ℕ) → n ≡ 1 → tail_text p (n - 1) k ≡ (93 ∷ 125 ∷ []) ++ []
unfolding tail_text
tail-last p n k e = let z : n - 1 ≡ 0 = omega arith in rw z refl

tail_more : (p : List ℕ) (n k : ℕ) → 0 < n → (n ≡ 1 → ⊥)
    → tail_text p (n - 1) k ≡ (44 ∷ []) ++ list_text p false (n - 1) (k + 1)
unfolding tail_text
tail_more p zero k h g = absurd (not-suc-le-zero h)
tail_more p (suc zero) k h g = absurd (g refl)
tail_more p (suc (suc m)) k h g = let e : suc (suc m) - 1 ≡ suc m = omega arith in rw e refl

list-is : (p : List ℕ) (first : Bool) (n k : ℕ) → 0 < n
    → list_text p first n k ≡ object_text first (entry_of (record_at p k)) ++ tail_text p (n - 1) k
list-is p first zero k h = absurd (not-suc-le-zero h)
list-is p first (suc m) k h = let e : suc m - 1 ≡ m = omega arith in rw e (turn p first m k)

-- ---- what is written: the state before the object of record k, where n are left
pub record Putting (p E was : List ℕ) (first : Bool) (k n at : ℕ) (out : List ℕ) : Type 0 where
  pub filled : Filled E (list_text p first n k) was at out
  pub piled : Piled p k n

pub putting-first : (p was : List ℕ) (n : ℕ) → Piled p 0 n → length (list_text p true n 0) ≤ length was
    → Putting p (list_text p true n 0) was true 0 n 0 was
putting-first p was n s h = record { filled = filled-first (list_text p true n 0) was h; piled = s }

-- the same state in other words
pub putting-as : {p E was : List ℕ} {f g : Bool} {k j n m at : ℕ} {out : List ℕ} → Putting p E was f k n at out → f ≡ g
    → k ≡ j → n ≡ m → Putting p E was g j m at out
putting-as {p} {E} {was} {f} {g} {k} {j} {n} {m} {at} {out} s a b c =
    subst (λ (x : ℕ). Putting p E was g j x at out) c
    (subst (λ (x : ℕ). Putting p E was g x n at out) b (subst (λ (x : Bool). Putting p E was x k n at out) a s))

pub putting-next : {p E was : List ℕ} {at : ℕ} {out : List ℕ} (k last : ℕ) → Putting p E was false (k + 1) (last + 1 - k - 1) at out
    → Putting p E was (eqb (k + 1) 0) (k + 1) (last + 1 - (k + 1)) at out
putting-next k last s = putting-as s (sym (ne_eqb (k + 1) 0 (λ e. omega (arith, e)))) refl (omega arith)

pub putting-last : {p E was : List ℕ} {k last at : ℕ} {out : List ℕ} → Putting p E was (eqb k 0) k (last + 1 - k) at out
    → last ≤ k → Putting p E was (eqb last 0) last 1 at out
putting-last {k = k} {last = last} s h =
    let e : k ≡ last = omega (arith, s.piled.some_left) in
    putting-as s (ap (λ (x : ℕ). eqb x 0) e) e (omega arith)

module _ {p E was : List ℕ} {first : Bool} {k n at : ℕ} {out : List ℕ} (s : Putting p E was first k n at out) where
  pub putting-here : Recorded p k
  putting-here = piled-here s.piled

  module _ {r : List ℕ} (is : r ≡ record_at p k) where
    pub putting-fits : Fits r
    putting-fits = rw is putting-here.fits

    object : List ℕ
    object = object_text first (entry_of r)

    split : list_text p first n k ≡ object_text first (entry_of r) ++ tail_text p (n - 1) k
    split = rw is (list-is p first n k s.piled.some_left)

    pub putting-room : at + length (object_text first (entry_of r)) ≤ length out
    putting-room = filled-fit (object_text first (entry_of r)) (tail_text p (n - 1) k) s.filled split

    module _ {to : List ℕ} {e : ℕ} (w : Puts out at (object_text first (entry_of r)) to e) where
      left : Filled E (tail_text p (n - 1) k) was e to
      left =
          rw (sym w.ends) at
          (filled_next (object_text first (entry_of r)) (tail_text p (n - 1) k) s.filled split w.is)

      pub last_fit : n ≡ 1 → e + 2 ≤ length to
      last_fit h = filled-fit (93 ∷ 125 ∷ []) [] left (tail-last p n k h)

      pub last_done : {end : List ℕ} → n ≡ 1 → end ≡ pasted to e (93 ∷ 125 ∷ []) → end ≡ fronted E was
      last_done h g = filled-last (filled_next (93 ∷ 125 ∷ []) [] left (tail-last p n k h) g)

      pub comma-fit : (n ≡ 1 → ⊥) → e + 1 ≤ length to
      comma-fit h =
          filled-fit (44 ∷ []) (list_text p false (n - 1) (k + 1)) left (tail_more p n k s.piled.some_left h)

      pub comma-on : {nxt : List ℕ} → (n ≡ 1 → ⊥) → nxt ≡ pasted to e (44 ∷ [])
          → Putting p E was false (k + 1) (n - 1) (e + 1) nxt
      comma-on h g =
          record {
            filled =
                filled_next (44 ∷ []) (list_text p false (n - 1) (k + 1)) left
                (tail_more p n k s.piled.some_left h) g;
            piled = piled-next s.piled h;
          }

      pub same_size : length to ≡ length was
      same_size = filled-length left

-- ---- how long it will be: the state of the count, of which n records are left
pub record Sizing (p : List ℕ) (total most : ℕ) (first : Bool) (k n size : ℕ) : Type 0 where
  pub sum : size + length (list_text p first n k) ≡ total
  pub bound : size + 5478 * n ≤ most
  pub piled : Piled p k n

pub sizing-first : (p : List ℕ) (n : ℕ) → Piled p 0 n
    → Sizing p (length (json_of (entries_in n p 0))) (14 + 5478 * n) true 0 n 14
sizing-first p n s =
    let e = ap length (json-is p n s.some_left) in
    let l = length-append opening (list_text p true n 0) in
    record { sum = omega arith; bound = omega arith; piled = s }

-- the same state in other words
pub sizing-as : {p : List ℕ} {total most : ℕ} {f g : Bool} {k j n m size sum : ℕ} → Sizing p total most f k n size → f ≡ g
    → k ≡ j → n ≡ m → size ≡ sum → Sizing p total most g j m sum
sizing-as {p} {total} {most} {f} {g} {k} {j} {n} {m} {size} {sum} s a b c d =
    subst (λ (x : ℕ). Sizing p total most g j m x) d
    (subst (λ (x : ℕ). Sizing p total most g j x size) c
    (subst (λ (x : ℕ). Sizing p total most g x n size) b (subst (λ (x : Bool). Sizing p total most x k n size) a s)))

pub sizing-next : {p : List ℕ} {total most : ℕ} (k last size x : ℕ) → Sizing p total most false (k + 1) (last + 1 - k - 1) (size + x + 1)
    → Sizing p total most (eqb (k + 1) 0) (k + 1) (last + 1 - (k + 1)) (size + (x + 1))
sizing-next k last size x s = sizing-as s (sym (ne_eqb (k + 1) 0 (λ e. omega (arith, e)))) refl (omega arith) (omega arith)

pub sizing-end : {p : List ℕ} {total most k last size : ℕ} → Sizing p total most (eqb k 0) k (last + 1 - k) size → last ≤ k
    → Sizing p total most (eqb last 0) last 1 size
sizing-end {k = k} {last = last} s h =
    let e : k ≡ last = omega (arith, s.piled.some_left) in
    sizing-as s (ap (λ (x : ℕ). eqb x 0) e) e (omega arith) refl

module _ {p : List ℕ} {total most : ℕ} {first : Bool} {k n size : ℕ} (s : Sizing p total most first k n size) where
  pub sizing-here : Recorded p k
  sizing-here = piled-here s.piled

  module _ {r : List ℕ} (is : r ≡ record_at p k) where
    pub sizing-fits : Fits r
    sizing-fits = rw is sizing-here.fits

    list_length : length (list_text p first n k)
        ≡ length (object_text first (entry_of r)) + length (tail_text p (n - 1) k)
    list_length =
        ap length (list-is p first n k s.piled.some_left
        ∙ ap (λ (q : List ℕ). object_text first (entry_of q) ++ tail_text p (n - 1) k) (sym is))
        ∙ length-append (object_text first (entry_of r)) (tail_text p (n - 1) k)

    module _ {x : ℕ} (e : x ≡ length (object_text first (entry_of r))) (m : x ≤ 5477) where
      pub sizing-last : n ≡ 1 → size + x + 2 ≡ total
      sizing-last h = omega (arith, s.sum, list_length, ap length (tail-last p n k h))

      pub sizing-on : (n ≡ 1 → ⊥) → Sizing p total most false (k + 1) (n - 1) (size + x + 1)
      sizing-on h =
          let z = s.piled.some_left in
          let t = ap length (tail_more p n k z h) in
          record {
            sum = omega (arith, s.sum, list_length);
            bound = omega (arith, s.bound);
            piled = piled-next s.piled h;
          }

-- ---- the whole text: the opening, and then the list
after-opening : (d o : List ℕ) → o ≡ pasted d 0 opening → o ≡ opening ++ drop 14 d
unfolding pasted
after-opening d o e = e

pub text-fits : (p was : List ℕ) (n : ℕ) → Piled p 0 n → length (json_of (entries_in n p 0)) ≤ length was
    → 14 + length (list_text p true n 0) ≤ length was
text-fits p was n s h =
    omega (arith, ap length (json-is p n s.some_left), length-append opening (list_text p true n 0))

module _ {o : List ℕ} (p was : List ℕ) (n : ℕ) (s : Piled p 0 n)
    (h : length (json_of (entries_in n p 0)) ≤ length was) (e : o ≡ pasted was 0 opening) where
  long : length o ≡ length was
  long =
      let f = text-fits p was n s h in
      ap length (after-opening was o e)
      ∙ omega (arith, length-append opening (drop 14 was), length-drop 14 was)

  pub list-fits : length (list_text p true n 0) ≤ length (take (length o - 14) (drop 14 o))
  list-fits =
      let f = text-fits p was n s h in
      let g = long in
      simp (length-take, length-drop) (omega arith)

  pub text-done : {y : List ℕ} → y ≡ fronted (list_text p true n 0) (take (length o - 14) (drop 14 o))
      → take 14 o ++ (y ++ drop (length o - 14) (drop 14 o)) ≡ fronted (json_of (entries_in n p 0)) was
  text-done {y} f =
      let q = after-opening was o e in
      let i : length (drop 14 was) ≤ length o - 14 = omega (arith, length-drop 14 was, long) in
      rw (json-is p n s.some_left) (whole o q (length o - 14) i f)
    where
      back : (y : List ℕ) (m : ℕ) → length (drop 14 was) ≤ m
          → y ≡ fronted (list_text p true n 0) (take m (drop 14 was))
          → opening ++ (y ++ drop m (drop 14 was))
          ≡ opening ++ (list_text p true n 0 ++ drop (14 + length (list_text p true n 0)) was)
      back y m i f =
          rw (
            f,
            take_all m (drop 14 was) i,
            drop_of_length-le (drop 14 was) i,
            append-nil (fronted (list_text p true n 0) (drop 14 was)),
            drop-drop (length (list_text p true n 0)) 14 was,
          )
          refl

      whole : (o : List ℕ) → o ≡ opening ++ drop 14 was → (m : ℕ) → length (drop 14 was) ≤ m
          → y ≡ fronted (list_text p true n 0) (take m (drop 14 o))
          → take 14 o ++ (y ++ drop m (drop 14 o)) ≡ fronted (opening ++ list_text p true n 0) was
      whole o q m i f =
          let l : 14 + length (list_text p true n 0) ≡ length (opening ++ list_text p true n 0)
          = omega (arith, length-append opening (list_text p true n 0)) in
          rw q (back y m i (rw q at f) ∙ ap (λ (j : ℕ). opening ++ (list_text p true n 0 ++ drop j was)) l)

-- ---- no text is longer than 87,609 bytes
tail-most : (p : List ℕ) (m k : ℕ) → ((n : ℕ) → Piled p n m → length (list_text p false m n) ≤ 5478 * m + 1)
    → (0 < m → Piled p (k + 1) m)
    → length (tail_text p m k) ≤ 5478 * m + 2
unfolding tail_text
tail-most p zero k f s = omega arith
tail-most p (suc m) k f s = omega (arith, f (k + 1) (s (omega arith)))

later-most : (p : List ℕ) (n k : ℕ) → Piled p k n → length (list_text p false n k) ≤ 5478 * n + 1
later-most p zero k s = absurd (not-suc-le-zero s.some_left)
later-most p (suc m) k s =
    let o = object-most false (record_at p k) (piled-here s).fits in
    let t = tail-most p m k (λ j q. later-most p m j q) (next m s) in
    let l = ap length (turn p false m k) in
    let a = length-append (object_text false (entry_of (record_at p k))) (tail_text p m k) in
    omega arith
  where
    next : (m : ℕ) → Piled p k (suc m) → 0 < m → Piled p (k + 1) m
    next m s z = let e : suc m - 1 ≡ m = omega arith in rw e at (piled-next s (λ q. omega arith))

pub text-most : (p : List ℕ) (n : ℕ) → Piled p 0 n → length (json_of (entries_in n p 0)) ≤ 5478 * n - 39
text-most p zero s = absurd (not-suc-le-zero s.some_left)
text-most p (suc m) s =
    let o = object-most true (record_at p 0) (piled-here s).fits in
    let t = tail-most p m 0 (λ j q. later-most p m j q) (next m s) in
    let l = ap length (turn p true m 0) in
    let a = length-append (object_text true (entry_of (record_at p 0))) (tail_text p m 0) in
    let j = ap length (json-is p (suc m) s.some_left) in
    let b = length-append opening (list_text p true (suc m) 0) in
    omega arith
  where
    next : (m : ℕ) → Piled p 0 (suc m) → 0 < m → Piled p 1 m
    next m s z = let e : suc m - 1 ≡ m = omega arith in rw e at (piled-next s (λ q. omega arith))
