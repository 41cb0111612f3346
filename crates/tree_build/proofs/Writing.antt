-- What the loops keep that write what is wanted of a tree, level by level, whether they build it on the way or read it
-- out of its rows: a law for the start, a turn and the end.
use mathlib.Core.Path.{◌≡◌, refl, sym, ap, ◌∙◌}
use mathlib.Core.List.{List, [], ◌∷◌, ◌++◌, append_assoc, append-nil}
use Prim.Native.Nat.{ℕ, zero, suc, ◌+◌, ◌*◌, ◌-◌, ◌/◌, ◌^◌, ◌≤◌, ◌<◌}
use native.Mathlib.Nat.{zero-add}
use native.Mathlib.Omega.{arith}
use lib.ListN.{length}
use lib.Pow.{pow_pos}
use Rattle.laws.specs.Flat.{flat}
use Rattle.laws.proofs.Flat.{flat_append}
use Rattle.laws.specs.Written.{Puts}
use Rattle.laws.proofs.Written.{puts_none, puts-length, puts-more, puts-as}
use Rattle.tree.specs.Tree.{beside, siblings}
use Rattle.tree.proofs.Width.{pow-half}
use Rattle.tree_build.specs.Level.{part, part_size, parts, parts_size, PutPart, Fits}
use Rattle.tree_build.specs.declared.Wanted.{Wanted}
use Rattle.tree_build.specs.declared.Wanted.TheVariants.{Nothing, Sibling, Row}

-- ---- What is wanted of a level and of those above it

size-next : (wanted : Wanted) (l n : ℕ) → 0 < l → n ≡ 2 ^ l
    → parts_size wanted l ≡ part_size wanted n + parts_size wanted (l - 1)
size-next Nothing l n p e = refl
size-next Sibling l n p e = omega arith
size-next Row l n p e =
    let q : suc (l - 1) ≡ l = omega arith in
    rw q (omega (arith, pow_pos (l - 1), pow-half l n p e))

size_none : (wanted : Wanted) → parts_size wanted 0 ≡ 0
size_none Nothing = refl
size_none Sibling = refl
size_none Row = refl

parts_next : (wanted : Wanted) (node : ℕ → ℕ → List ℕ) (l k j : ℕ) → 0 < l
    → parts wanted node l k j ≡ part wanted (node k) (2 ^ l) j ++ parts wanted node (l - 1) (suc k) (j / 2)
unfolding parts
parts_next wanted node zero k j p = absurd (omega arith)
parts_next wanted node (suc l) k j p =
    let q : suc l - 1 ≡ l = omega arith in
    rw q

-- the siblings are a path
parts-path : (node : ℕ → ℕ → List ℕ) (d k j : ℕ) → parts Sibling node d k j ≡ siblings node d k j
unfolding parts siblings
parts-path node zero k j = refl
parts-path node (suc d) k j = ap (λ (l : List (List ℕ)). node k (beside j) ∷ l) (parts-path node d (suc k) (j / 2))

pub path-puts : (node : ℕ → ℕ → List ℕ) (d place : ℕ) {o out : List ℕ}
    → Puts o 0 (flat (parts Sibling node d 0 place)) out (0 + 32 * d)
    → Puts o 0 (flat (siblings node d 0 place)) out (32 * d)
path-puts node d place t = rw zero-add at (puts-as (ap flat (parts-path node d 0 place)) t)

-- the sibling is put, number i of its level
pub sibling-put : {wanted : Wanted} {node : ℕ → List ℕ} {i at : ℕ} {o out : List ℕ} (n j : ℕ) → wanted ≡ Sibling
    → i ≡ beside j → Puts o at (node i) out (at + 32) → PutPart wanted node n j o at out (at + 32)
unfolding flat
sibling-put n j is e t = rw is (record { ends = omega arith; puts = rw (append-nil, ← e) t })

-- ---- The level with `left` levels above it comes next, of which node j is on the way, and byte `at`

pub record Writing (wanted : Wanted) (node : ℕ → ℕ → List ℕ) (d place : ℕ) (o : List ℕ) (start n left j at : ℕ)
    (out : List ℕ) : Type 0 where
  pub under : left ≤ d
  pub wide : n ≡ 2 ^ left
  pub inside : j < n
  pub ends : at + 32 * parts_size wanted left ≡ start + 32 * parts_size wanted d
  pub enough : start + 32 * parts_size wanted d ≤ length out
  pub done : List ℕ
  pub puts : Puts o start done out at
  pub whole : done ++ flat (parts wanted node left (d - left) j) ≡ flat (parts wanted node d 0 place)

pub writing-first : {wanted : Wanted} {node : ℕ → ℕ → List ℕ} {d place start n : ℕ} {o : List ℕ} → n ≡ 2 ^ d
    → Fits wanted d place start (length o) → Writing wanted node d place o start n d place start o
writing-first {d = d} {start = start} {o = o} e f =
    let q : d - d ≡ 0 = omega arith in
    record {
      under = omega arith;
      wide = e;
      inside = omega (arith, f.inside);
      ends = refl;
      enough = f.enough;
      done = [];
      puts = puts_none o start (omega (arith, f.enough));
      whole = rw q refl;
    }

-- what is done, with the rest that is to come, is all: a piece more is done
coming-next : (done s later : List ℕ) {rest all : List ℕ} → done ++ rest ≡ all → rest ≡ s ++ later
    → (done ++ s) ++ later ≡ all
coming-next done s later whole e = append_assoc done s later ∙ ap (λ (t : List ℕ). done ++ t) (sym e) ∙ whole

module _ {wanted : Wanted} {node : ℕ → ℕ → List ℕ} {d place start n left j at : ℕ} {o out : List ℕ}
    (r : Writing wanted node d place o start n left j at out) where
  -- there is room for what is wanted of the level,
  pub writing-room : 0 < left → at + 32 * part_size wanted n ≤ length out
  writing-room p = omega (arith, size-next wanted left n p r.wide, r.ends, r.enough)

  -- which is put
  pub writing-next : {next : List ℕ} {e : ℕ} → 0 < left → PutPart wanted (node (d - left)) n j out at next e
      → Writing wanted node d place o start (n / 2) (left - 1) (j / 2) e next
  writing-next {next} {e} p t =
      let k = d - left in
      let q : d - (left - 1) ≡ suc k = omega (arith, r.under) in
      let w = pow-half left n p r.wide in
      let here = flat (part wanted (node k) n j) in
      let later = flat (parts wanted node (left - 1) (suc k) (j / 2)) in
      let level : flat (parts wanted node left k j) ≡ here ++ later =
      ap flat (parts_next wanted node left k j p)
      ∙ flat_append (part wanted (node k) (2 ^ left) j) _
      ∙ ap (λ (m : ℕ). flat (part wanted (node k) m j) ++ later) (sym r.wide) in
      record {
        under = omega (arith, r.under);
        wide = w.1;
        inside = omega (arith, r.inside, w.0);
        ends = omega (arith, r.ends, size-next wanted left n p r.wide, t.ends);
        enough = omega (arith, r.enough, puts-length t.puts);
        done = r.done ++ here;
        puts = puts-more r.puts t.puts;
        whole = rw q (coming-next r.done here later r.whole level);
      }

  -- what is wanted of the rest can be written,
  pub writing-fits : Fits wanted left j at (length out)
  writing-fits = record { inside = omega (arith, r.wide, r.inside); enough = omega (arith, r.ends, r.enough) }

  -- and is,
  pub writing-rest : {end rest : List ℕ} → rest ≡ flat (parts wanted node left (d - left) j)
      → Puts out at rest end (at + 32 * parts_size wanted left)
      → Puts o start (flat (parts wanted node d 0 place)) end (start + 32 * parts_size wanted d)
  writing-rest e t =
      rw r.ends at (puts-as (ap (λ (l : List ℕ). r.done ++ l) e ∙ r.whole) (puts-more r.puts t))

  -- where there is one
  pub writing-done : left ≡ 0 → Puts o start (flat (parts wanted node d 0 place)) out (start + 32 * parts_size wanted d)
  unfolding parts flat
  writing-done z =
      let none : [] ≡ flat (parts wanted node left (d - left) j) = rw z refl in
      let e : at + 32 * parts_size wanted left ≡ at = rw z (omega (arith, size_none wanted)) in
      writing-rest none (rw e (puts_none out at (omega (arith, r.ends, r.enough))))
