-- What the loops keep that go up from level to level, and the laws of their turns. A level is the leaves of what is
-- above it: the tree over the array that holds it is the upper part of the tree. So one array may go on where another,
-- of another size, ended.
use mathlib.Core.Path.{◌≡◌, refl, sym, ap, ap₂, ◌∙◌}
use mathlib.Core.List.{List, [], ◌∷◌, ◌++◌, append_assoc, append-nil}
use Prim.Native.Nat.{ℕ, zero, suc, ◌+◌, ◌*◌, ◌-◌, ◌/◌, ◌^◌, ◌≤◌, ◌<◌}
use native.Mathlib.Nat.{le_of_suc-le-suc}
use native.Mathlib.Omega.{arith}
use lib.ListN.{length, get_or}
use lib.Pow.{pow_pos}
use Rattle.laws.specs.Flat.{flat}
use Rattle.laws.proofs.Flat.{flat_append}
use Rattle.laws.specs.Upto.{upto}
use Rattle.laws.specs.Written.{Puts}
use Rattle.laws.proofs.Upto.{upto-same}
use Rattle.laws.proofs.Written.{puts-more, puts-as}
use Rattle.hash.specs.Hashes.{parent_of, empty_place}
use Rattle.tree.specs.Tree.{node_at, root_of, beside}
use Rattle.tree.proofs.Width.{pow-half, exponent_lt}
use Rattle.tree_build.specs.AllRows.{levels, nodes_of}
use Rattle.tree_build.specs.Leaves.{most}
use Rattle.tree_build.specs.Level.{Level, Halved, part, parts, parts_size, CanPut, PutPart, Fits, Ascends}
use Rattle.tree_build.specs.declared.Wanted.{Wanted}
use Rattle.tree_build.specs.declared.Wanted.TheVariants.{Nothing, Sibling, Row}
use Rattle.tree_build.proofs.Writing.{Writing, writing-first, writing-room, writing-next, writing-rest, writing-done}

-- the same is wanted of nodes that are the same
part_same : (wanted : Wanted) (f g : ℕ → List ℕ) (n j : ℕ) → n ≡ 2 * (n / 2) → j < n
    → ((i : ℕ) → i < n → f i ≡ g i) → part wanted f n j ≡ part wanted g n j
part_same Nothing f g n j e l h = refl
part_same Sibling f g n j e l h = ap (λ (x : List ℕ). x ∷ []) (h (beside j) (omega arith))
part_same Row f g n j e l h = upto-same f g n h

-- ---- A level is the leaves of what is above it

get_d_any : (l : List (List ℕ)) (i : ℕ) (x y : List ℕ) → i < length l → get_or l i x ≡ get_or l i y
get_d_any [] i x y h = absurd (omega arith)
get_d_any (z ∷ l) zero x y h = refl
get_d_any (z ∷ l) (suc i) x y h = get_d_any l i x y (le_of_suc-le-suc h)

-- an array's own nodes are level 0 of the tree over it
pub level-itself : (row : List (List ℕ)) (n : ℕ) → n ≤ length row → Level row 0 n row
unfolding node_at
level-itself row n h j g = get_d_any row j [] empty_place (omega arith)

-- the first n nodes of level a of the tree over row are those of level b of the tree over xs
module _ (row xs : List (List ℕ)) where
  abbrev Agree : ℕ → ℕ → ℕ → Type 0
  Agree a b n = (j : ℕ) → j < n → node_at row a j ≡ node_at xs b j

  agree-above : (a b n : ℕ) → Agree a b (2 * n) → Agree (suc a) (suc b) n
  unfolding node_at
  agree-above a b n h j g = ap₂ parent_of (h (2 * j) (omega arith)) (h (2 * j + 1) (omega arith))

  root-same : (d a b t u : ℕ) → Agree a b (2 ^ d) → a + d ≡ t → b + d ≡ u → node_at row t 0 ≡ node_at xs u 0
  root-same zero a b t u h p q =
      let v : a ≡ t = omega arith in
      let w : b ≡ u = omega arith in
      rw (sym v, sym w) (h 0 (omega arith))
  root-same (suc d) a b t u h p q =
      root-same d (suc a) (suc b) t u (agree-above a b (2 ^ d) (λ j g. h j (omega arith))) (omega arith) (omega arith)

  parts_same : (wanted : Wanted) (d a b j : ℕ) → j < 2 ^ d → Agree a b (2 ^ d)
      → parts wanted (node_at row) d a j ≡ parts wanted (node_at xs) d b j
  unfolding parts
  parts_same wanted zero a b j l h = refl
  parts_same wanted (suc d) a b j l h =
      ap₂ (λ (x y : List (List ℕ)). x ++ y)
      (part_same wanted (node_at row a) (node_at xs b) (2 ^ suc d) j (omega arith) l h)
      (parts_same wanted d (suc a) (suc b) (j / 2) (omega arith) (agree-above a b (2 ^ d) (λ i g. h i (omega arith))))

-- ---- A level in hand: its n nodes stand at the front of row, and what is wanted of those below it has been written

pub record Ascending (xs : List (List ℕ)) (d : ℕ) (wanted : Wanted) (place : ℕ) (o : List ℕ) (start places left n : ℕ)
    (row : List (List ℕ)) (j at : ℕ) (out : List ℕ) : Type 0 where
  pub few : n ≤ most
  pub room : n ≤ places
  pub size : length row ≡ places
  pub nodes : Level xs (d - left) n row
  pub writing : Writing wanted (node_at xs) d place o start n left j at out

pub ascending-first : {xs row : List (List ℕ)} {d place n places start : ℕ} {wanted : Wanted} {o : List ℕ} → n ≡ 2 ^ d
    → 2 ^ d ≤ most → 2 ^ d ≤ places → Level xs 0 n row × (length row ≡ places) → Fits wanted d place start (length o)
    → Ascending xs d wanted place o start places d n row place start o
ascending-first {d = d} e h z l f =
    let q : d - d ≡ 0 = omega arith in
    record { few = omega arith; room = omega arith; size = l.1; nodes = rw q l.0; writing = writing-first e f }

module _ {xs row : List (List ℕ)} {d place places left n start j at : ℕ} {wanted : Wanted} {o out : List ℕ}
    (r : Ascending xs d wanted place o start places left n row j at out) where
  -- a level of more than one node has a level above it
  pub above-one : 1 < n → 0 < left
  above-one h = exponent_lt 0 left (omega (arith, r.writing.wide))

  module _ (p : 0 < left) where
    twice : n ≡ 2 * (n / 2)
    twice = (pow-half left n p r.writing.wide).0

    -- what is wanted of it can be written
    pub ascending-can : CanPut wanted n j (length row) at (length out)
    ascending-can =
        record {
          pairs = twice;
          held = omega (arith, r.room, r.size);
          few = r.few;
          inside = r.writing.inside;
          enough = writing-room r.writing p;
        }

    -- and is,
    module _ {next : List ℕ} {e : ℕ} (t : PutPart wanted (λ i. get_or row i []) n j out at next e) where
      pub ascending-put : Writing wanted (node_at xs) d place o start (n / 2) (left - 1) (j / 2) e next
      ascending-put =
          let inside = r.writing.inside in
          let same = part_same wanted (λ i. get_or row i []) (node_at xs (d - left)) n j twice inside r.nodes in
          writing-next r.writing p (record { ends = t.ends; puts = puts-as (ap flat same) t.puts })

      -- and the level halved
      pub ascending-next : {more : ℕ} {up : List (List ℕ)} → n / 2 ≤ more → Halved row (n / 2) more up
          → Ascending xs d wanted place o start more (left - 1) (n / 2) up (j / 2) e next
      unfolding node_at
      ascending-next m h =
          let q : d - (left - 1) ≡ suc (d - left) = omega (arith, r.writing.under) in
          let w = twice in
          let child : (i : ℕ) → i < n → get_or row i [] ≡ node_at xs (d - left) i = r.nodes in
          record {
            few = omega (arith, r.few);
            room = m;
            size = h.size;
            nodes = rw q
                (λ i g. h.parents i g ∙ ap₂ parent_of (child (2 * i) (omega arith)) (child (2 * i + 1) (omega arith)));
            writing = ascending-put;
          }

  -- the tree over the level
  agrees : Agree row xs 0 (d - left) (2 ^ left)
  unfolding node_at
  agrees i g =
      let w = r.writing.wide in
      get_d_any row i empty_place [] (omega (arith, r.room, r.size)) ∙ r.nodes i (omega arith)

  top-is : root_of row left ≡ root_of xs d
  top-is = root-same row xs left 0 (d - left) left d agrees (omega arith) (omega (arith, r.writing.under))

  -- the rest is as of that tree
  pub ascending-rest : {end root : List ℕ} → Ascends row left wanted j out at end root
      → Ascends xs d wanted place o start end root
  ascending-rest t =
      let inside : j < 2 ^ left = omega (arith, r.writing.wide, r.writing.inside) in
      let rest = ap flat (parts_same row xs wanted left 0 (d - left) j inside agrees) in
      record { top = t.top ∙ top-is; puts = writing-rest r.writing rest t.puts }

  -- and where there is none the level is the root
  pub ascending-done : left ≡ 0 → Ascends xs d wanted place o start out (get_or row 0 [])
  unfolding node_at
  ascending-done z =
      let some : 0 < n = omega (arith, r.writing.inside) in
      let top : get_or row 0 [] ≡ root_of row left =
      rw z (get_d_any row 0 [] empty_place (omega (arith, some, r.room, r.size))) in
      record { top = top ∙ top-is; puts = writing-done r.writing z }

-- ---- All rows: those below the root have been written, and then the root is

parts-rows : (xs : List (List ℕ)) (d k j t : ℕ) → k + d ≡ t
    → parts Row (node_at xs) d k j ++ (node_at xs t 0 ∷ []) ≡ levels xs d k
unfolding parts levels
parts-rows xs zero k j t e =
    let q : k ≡ t = omega arith in
    rw q
parts-rows xs (suc d) k j t e =
    append_assoc (upto (node_at xs k) (2 ^ suc d)) _ _
    ∙ ap (λ (l : List (List ℕ)). upto (node_at xs k) (2 ^ suc d) ++ l) (parts-rows xs d (suc k) (j / 2) t (omega arith))

pub rows-puts : {xs : List (List ℕ)} {d place size : ℕ} {o out root last : List ℕ} → size ≡ 32 * nodes_of d
    → Ascends xs d Row place o 0 out root → Puts out (size - 32) root last (size - 32 + 32)
    → Puts o 0 (flat (levels xs d 0)) last size
unfolding flat
rows-puts {xs} {d} {place} {size} {root = root} e t p =
    let below = parts Row (node_at xs) d 0 place in
    let some : 1 ≤ nodes_of d = omega (arith, pow_pos d) in
    let at : 0 + 32 * parts_size Row d ≡ size - 32 = omega arith in
    let end : size - 32 + 32 ≡ size = omega arith in
    let all : flat below ++ root ≡ flat (levels xs d 0) =
    ap (λ (l : List ℕ). flat below ++ l) (sym (append-nil root))
    ∙ sym (flat_append below (root ∷ []))
    ∙ ap (λ (x : List ℕ). flat (below ++ (x ∷ []))) t.top
    ∙ ap flat (parts-rows xs d 0 place d (omega arith)) in
    rw end at (puts-as all (puts-more (rw at at t.puts) p))
