-- Laws about letters that are not escaped: each is itself, and takes one byte.
use Rattle.std.specs.Prelude.{Option, Some}
use Prim.Native.Nat.{ℕ, zero, suc, ◌+◌, ◌*◌, ◌-◌, ◌≤◌, ◌<◌}
use mathlib.Core.Path.{◌≡◌, refl, sym, ◌∙◌, ap}
use mathlib.Core.Bool.{Bool, true, false, ◌&&◌, true≢false}
use mathlib.Core.List.{List}
use native.Mathlib.Omega.{arith}
use lib.Dec.{ltb}
use lib.ListN.{length, get_or}
use borrow.Author.Tests.{ne_eqb, lt-ltb, le-ltb, ltb-true, ltb-false}
use Rattle.json_tokens.specs.Scan.{Passes}
use Rattle.json_strings.specs.Text.{unescaped, content_at}
use Rattle.json_strings.proofs.Content.{content-code, content-falls}
use Rattle.json_strings.proofs.Runs.{unit-unescaped}
use Rattle.base64_strict.specs.declared.Group.{Group}
use Rattle.base64_strict.specs.declared.Group.TheVariants.{Three}
use Rattle.base64_strict.specs.Alphabet.{is_letter}
use Rattle.base64_strict.specs.Decode.{group_of, decode64}
use Rattle.base64_strict.proofs.Tables.{letter-ranged}
use Rattle.base64_strict.proofs.Decodes.{group-letters}
use Rattle.json_base64.specs.Sized.{size_of, Reads, Grouped, Lettered}
use Rattle.json_base64.proofs.Quads.{grouped, size-three}

letter-unescaped : (b : ℕ) → is_letter b ≡ true → unescaped b ≡ true
unfolding unescaped
letter-unescaped b e =
    let r = letter-ranged b e in
    simp (
      ne_eqb b 34 (λ q. omega (arith, r.least)),
      ne_eqb b 92 r.slash,
      le-ltb b 32 (omega (arith, r.least)),
      lt-ltb b 128 (omega (arith, r.most)),
    )

pub reads-unescaped : {s : List ℕ} {k j x : ℕ} → j ≡ k + 1 → x ≡ get_or s k 0 → unescaped x ≡ true → Reads s k x j
reads-unescaped {s} {k} q e h =
    let u = unit-unescaped s k (rw e at h) in
    rw (q, e) (record { text = content-code s k refl u; on = content-falls s k refl u })

reads-letter : {s : List ℕ} {k j : ℕ} → j ≡ k + 1 → is_letter (get_or s k 0) ≡ true → Reads s k (get_or s k 0) j
reads-letter {s} {k} q e = reads-unescaped q refl (letter-unescaped (get_or s k 0) e)

-- four of them, as code tests them
both_true : (p q : Bool) → p && q ≡ true → (p ≡ true) × (q ≡ true)
both_true true q e = (refl, e)
both_true false q e = absurd (true≢false (sym e))

pub lettered-four : {a b c d : Bool} (s : List ℕ) (k : ℕ) → a ≡ is_letter (get_or s k 0) → b ≡ is_letter (get_or s (k + 1) 0)
    → c ≡ is_letter (get_or s (k + 2) 0) → d ≡ is_letter (get_or s (k + 3) 0) → k + 4 ≤ length s
    → ((a && b) && c) && d ≡ true → Lettered s k 1
lettered-four {a} {b} {c} {d} s k ea eb ec ed h e =
    let x = both_true ((a && b) && c) d e in
    let y = both_true (a && b) c x.0 in
    let z = both_true a b y.0 in record {
      inside = omega arith;
      letters = by (sym ea ∙ z.0) (sym eb ∙ z.1) (sym ec ∙ y.1) (sym ed ∙ x.1);
    }
  where
    by : is_letter (get_or s k 0) ≡ true → is_letter (get_or s (k + 1) 0) ≡ true → is_letter (get_or s (k + 2) 0) ≡ true
        → is_letter (get_or s (k + 3) 0) ≡ true → Passes is_letter s k 4
    by p q r t zero g = let i : k ≡ k + 0 = omega arith in rw i at p
    by p q r t (suc zero) g = q
    by p q r t (suc (suc zero)) g = r
    by p q r t (suc (suc (suc zero))) g = t
    by p q r t (suc (suc (suc (suc i)))) g = absurd (omega arith)

pub record Threes (g : Option Group) : Type 0 where
  pub x : ℕ
  pub y : ℕ
  pub z : ℕ
  pub is : g ≡ Some (Three x y z)

-- four of them are a group
module _ {s : List ℕ} {k : ℕ} (l : Lettered s k 1) where
  pub letter-first : is_letter (get_or s k 0) ≡ true
  letter-first = let e : k + 0 ≡ k = omega arith in rw e at (l.letters 0 (omega arith))

  pub letter-then : (i : ℕ) → i < 4 → is_letter (get_or s (k + i) 0) ≡ true
  letter-then i h = l.letters i (omega arith)

  pub grouped-letters : {g : Option Group}
      → g ≡ group_of (get_or s k 0) (get_or s (k + 1) 0) (get_or s (k + 2) 0) (get_or s (k + 3) 0) → Grouped s k g (k + 4)
  grouped-letters e =
      grouped (reads-letter refl letter-first) (reads-letter (omega arith) (letter-then 1 (omega arith)))
      (reads-letter (omega arith) (letter-then 2 (omega arith)))
      (reads-letter (omega arith) (letter-then 3 (omega arith))) e

  -- and it is one of three bytes
  pub letters-three : Threes (group_of (get_or s k 0) (get_or s (k + 1) 0) (get_or s (k + 2) 0) (get_or s (k + 3) 0))
  letters-three = record {
    x = _;
    y = _;
    z = _;
    is = sym (group-letters (get_or s k 0) (get_or s (k + 1) 0) (get_or s (k + 2) 0) (get_or s (k + 3) 0) letter-first
        (letter-then 1 (omega arith)) (letter-then 2 (omega arith)) (letter-then 3 (omega arith)));
  }

  one-group : (n : ℕ) → size_of (n + 3) (decode64 (content_at s (k + 4))) ≡ size_of n (decode64 (content_at s k))
  one-group n =
      size-three n (grouped-letters refl) letters-three.is

-- groups of them: three bytes each
module _ {s : List ℕ} {at : ℕ} where
  lettered-front : {m : ℕ} → Lettered s at (suc m) → Lettered s at m
  lettered-front l =
      record { inside = omega (arith, l.inside); letters = λ i h. l.letters i (omega arith) }

  lettered-last : {m : ℕ} → Lettered s at (suc m) → Lettered s (at + 4 * m) 1
  lettered-last {m} l = record {
    inside = omega (arith, l.inside);
    letters = λ i h. let e : at + (4 * m + i) ≡ at + 4 * m + i = omega arith in
        rw e at (l.letters (4 * m + i) (omega arith));
  }

  -- the one at an index
  pub lettered-at : {m k : ℕ} (i : ℕ) → Lettered s at m → i < m → k ≡ at + 4 * i → Lettered s k 1
  lettered-at {m} {k} i l h e = record {
    inside = omega (arith, l.inside);
    letters = λ j g. let f : at + (4 * i + j) ≡ k + j = omega arith in rw f at (l.letters (4 * i + j) (omega arith));
  }

  pub size-letters : (m : ℕ) → Lettered s at m
      → size_of (3 * m) (decode64 (content_at s (at + 4 * m))) ≡ size_of 0 (decode64 (content_at s at))
  size-letters zero l = ap (λ k. size_of 0 (decode64 (content_at s k))) (omega arith)
  size-letters (suc m) l =
      let e : 3 * suc m ≡ 3 * m + 3 = omega arith in
      let f : at + 4 * suc m ≡ at + 4 * m + 4 = omega arith in
      rw (e, f) (one-group (lettered-last l) (3 * m) ∙ size-letters m (lettered-front l))

  -- ---- counted
  pub lettered-none : Lettered s at 0
  lettered-none = record { inside = omega arith; letters = λ i h. absurd (omega arith) }

  pub lettered-next : {n k : ℕ} → k ≡ at + 4 * n → Lettered s at n → Lettered s k 1 → Lettered s at (n + 1)
  lettered-next {n} {k} e l g = record {
    inside = omega (arith, g.inside, l.inside);
    letters = λ i b. by i b (ltb i (4 * n)) refl;
  }
    where
      by : (i : ℕ) → i < 4 * (n + 1) → (b : Bool) → ltb i (4 * n) ≡ b → is_letter (get_or s (at + i) 0) ≡ true
      by i b true q = l.letters i (ltb-true _ _ q)
      by i b false q =
          let j = ltb-false i (4 * n) q in
          let f : k + (i - 4 * n) ≡ at + i = omega arith in rw f at (g.letters (i - 4 * n) (omega arith))
