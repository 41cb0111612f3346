-- Laws of the builders' answers: by each way out, what is known where one wrote, and what is left in the buffer.
use Rattle.std.specs.Prelude.{Err, Ok, Result}
use mathlib.Core.Path.{◌≡◌, refl, sym, ap, ◌∙◌}
use mathlib.Core.Bool.{Bool, true, false, cond}
use mathlib.Core.List.{List}
use Prim.Native.Nat.{ℕ, ◌*◌, ◌≤◌, ◌<◌}
use native.Mathlib.Omega.{arith}
use lib.Dec.{eqb, ltb, leb}
use lib.ListN.{length}
use borrow.Author.Tests.{le-leb, lt-leb, lt-ltb, le-ltb, eq-eqb, ne_eqb, leb-false, ltb-false, eqb-false}
use Rattle.laws.specs.Flat.{flat}
use Rattle.laws.specs.Written.{written, Puts}
use Rattle.laws.proofs.Written.{written-whole}
use Rattle.refusal.specs.Refusal.{refusal}
use Rattle.refusal.specs.declared.Refusal.{Refusal}
use Rattle.tree.specs.Tree.{nodes_in, depth_of, root_of, path_of}
use Rattle.tree_build.specs.AllRows.{levels, nodes_of, path_in}
use Rattle.tree_build.specs.Leaves.{count_of, held_of}
use Rattle.tree_build.specs.Building.{rooted_of, path_answer, path_bytes, from_bytes, rows_answer, rows_bytes}
use Rattle.tree_build.proofs.Leaves.{held-is}

-- ---- The answers by each way out. There are n leaves, which code has as m, and their tree has the depth d.

module _ {m n : ℕ} (same : m ≡ n) where
  pub path-none : {why : Refusal} (place room : ℕ) → m ≤ place → why ≡ refusal 20
      → Err why ≡ path_answer n place room
  unfolding path_answer
  path-none place room h e = simp (le-leb n place (rw same at h), e)

  pub rows_none : {why : Refusal} (room : ℕ) → m ≡ 0 → why ≡ refusal 20 → Err why ≡ rows_answer n room
  unfolding rows_answer
  rows_none room z e = simp (eq-eqb n 0 (sym same ∙ z), e)

  module _ {d : ℕ} (deep : d ≡ depth_of m) where
    height : d ≡ depth_of n
    height = deep ∙ ap depth_of same

    module _ {place room : ℕ} (there : place < m) where
      pub path-short : {why : Refusal} → room < 32 * d → why ≡ refusal 19
          → Err why ≡ path_answer n place room
      unfolding path_answer
      path-short h e = simp (lt-leb n place (rw same at there), lt-ltb _ _ (rw height at h), e)

      pub path-written : {indx : ℕ} → indx ≡ place → 32 * d ≤ room
          → Ok (indx, d) ≡ path_answer n place room
      unfolding path_answer
      path-written e h = simp (lt-leb n place (rw same at there), le-ltb _ _ (rw height at h), e, height)

    module _ {size room : ℕ} (some : m ≡ 0 → ⊥) (whole : size ≡ 32 * nodes_of d) where
      pub rows_short : {why : Refusal} → room < size → why ≡ refusal 19 → Err why ≡ rows_answer n room
      unfolding rows_answer
      rows_short h e = simp (ne_eqb n 0 (λ z. some (same ∙ z)), lt-ltb _ _ (rw (whole, height) at h), e)

      pub rows_written : size ≤ room → Ok d ≡ rows_answer n room
      unfolding rows_answer
      rows_written h = simp (ne_eqb n 0 (λ z. some (same ∙ z)), le-ltb _ _ (rw (whole, height) at h), height)

-- ---- What is known where a builder answered that it wrote, and where it refused

pub record PathThere (n place room indx depth : ℕ) : Type 0 where
  pub there : place < n
  pub fits : 32 * depth_of n ≤ room
  pub indx-is : indx ≡ place
  pub deep : depth ≡ depth_of n

-- what an answer says of the leaf at a place of n leaves
abbrev PathSays : ℕ → ℕ → ℕ → Result (ℕ × ℕ) Refusal → Type 0
PathSays n place room (Ok (indx, depth)) = PathThere n place room indx depth
PathSays n place room (Err why) = why.code ≡ 0 → ⊥

path-says : (n place room : ℕ) → PathSays n place room (path_answer n place room)
unfolding path_answer
path-says n place room = by (leb n place) (ltb room (32 * depth_of n)) refl refl
  where
    by : (a b : Bool) → leb n place ≡ a → ltb room (32 * depth_of n) ≡ b
        → PathSays n place room
        (cond a (Err (refusal 20))
        (cond b (Err (refusal 19)) (Ok (place, (depth_of n)))))
    by true b p q = λ z. omega arith
    by false true p q = λ z. omega arith
    by false false p q =
        record { there = leb-false _ _ p; fits = ltb-false _ _ q; indx-is = refl; deep = refl }

pub path-there : (n place room indx depth : ℕ) → Ok (indx, depth) ≡ path_answer n place room
    → PathThere n place room indx depth
path-there n place room indx depth e = rw (← e) at (path-says n place room)

pub path-refused : (n place room : ℕ) (why : Refusal) → Err why ≡ path_answer n place room
    → why.code ≡ 0 → ⊥
path-refused n place room why e = rw (← e) at (path-says n place room)

pub record RowsThere (n depth : ℕ) : Type 0 where
  pub some : 0 < n
  pub deep : depth ≡ depth_of n

pub rows-there : (n room depth : ℕ) → Ok depth ≡ rows_answer n room → RowsThere n depth
unfolding rows_answer
rows-there n room depth = by (eqb n 0) (ltb room (32 * nodes_of (depth_of n))) refl
  where
    by : (a b : Bool) → eqb n 0 ≡ a
        → Ok depth
        ≡ cond a (Err (refusal 20))
        (cond b (Err (refusal 19)) (Ok (depth_of n)))
        → RowsThere n depth
    by true b p e = absurd (let z : ◌≡◌ {A = ℕ} 0 1 = cc in omega arith)
    by false true p e = absurd (let z : ◌≡◌ {A = ℕ} 0 1 = cc in omega arith)
    by false false p e = let g = eqb-false n 0 p in record { some = omega arith; deep = cc }

-- ---- What a builder answers and leaves that was lent the leaves s. Code has their number as n, and the depth as d.

module _ (s : List ℕ) {n : ℕ} (e : n ≡ count_of (length s)) where
  pub rooted_none : {x : Refusal} → n ≡ 0 → x ≡ refusal 20
      → Err x ≡ rooted_of s
  unfolding rooted_of
  rooted_none z p = simp (eq-eqb (count_of (length s)) 0 (sym e ∙ z), p)

  module _ {d : ℕ} (deep : d ≡ depth_of n) where
    pub rooted-some : {r : List ℕ} → (n ≡ 0 → ⊥) → r ≡ root_of (nodes_in n s) d
        → Ok (record { depth = d; root = r }) ≡ rooted_of s
    unfolding rooted_of
    rooted-some some p =
        simp (ne_eqb (count_of (length s)) 0 (λ (z : count_of (length s) ≡ 0). some (e ∙ z)), p, deep, e)

    pub rows_left_lem : {b : ℕ} {o out : List ℕ} → Puts o 0 (flat (levels (nodes_in n s) d 0)) out b
        → out ≡ written 0 (rows_bytes s) o
    unfolding rows_bytes
    rows_left_lem p = rw (deep, e) at (written-whole p)

    pub path-left : (place : ℕ) {b : ℕ} {o out : List ℕ} → Puts o 0 (flat (path_of (nodes_in n s) d place)) out b
        → out ≡ written 0 (path_bytes s place) o
    unfolding path_bytes
    path-left place p = rw (deep, e) at (written-whole p)

-- ---- What a builder leaves that was lent the rows of count leaves, of which n are held.

pub from-left : (rows : List ℕ) (count : ℕ) {n d place b : ℕ} {o out : List ℕ} → n ≡ held_of (length rows) count
    → place < n → d ≡ depth_of n → Puts o 0 (flat (path_in rows d place)) out b
    → out ≡ written 0 (from_bytes rows count place) o
unfolding from_bytes
from-left rows count {n} {d} {place} e h deep p =
    let k : d ≡ depth_of count = deep ∙ ap depth_of (held-is (length rows) count e h) in
    rw k at (written-whole p)
