-- The checks of the sizes by each way out, and what is known where nothing is too short.
use mathlib.Core.Bool.{Bool, true, false, or-false}
use mathlib.Core.Path.{◌≡◌, sym, ◌∙◌}
use Prim.Native.Nat.{ℕ, ◌+◌, ◌*◌, ◌-◌, ◌/◌, ◌≤◌, ◌<◌}
use native.Mathlib.Nat.{div-lt_iff_lt-mul, le-div_iff_mul-le}
use native.Mathlib.Omega.{arith}
use borrow.Author.Tests.{lt-ltb, le-ltb, eq-eqb, ne_eqb, ltb-false, eqb-false}
use lib.Dec.{ltb}
use Rattle.laws.specs.Any.{any}
use Rattle.laws.proofs.Any.{any_here, any-later, any-parts}
use Rattle.laws.proofs.Split.{split}
use Rattle.tree.specs.Tree.{depth_of}
use Rattle.tree_build.specs.AllRows.{nodes_of}
use Rattle.tree_build.specs.Leaves.{most}
use Rattle.server_batch.specs.Answering.{count_wrong, room_short}
use Rattle.server_batch.specs.Steps.{Enough}

-- ---- 20

pub count_none : (n : ℕ) → n ≡ 0 → true ≡ count_wrong n
unfolding count_wrong
count_none n z = sym (any_here _ (eq-eqb n 0 z))

pub count-some : (n : ℕ) → (n ≡ 0 → ⊥) → ltb most n ≡ count_wrong n
unfolding count_wrong any
count-some n z = simp (ne_eqb n 0 z, or-false)

pub count-right : (n : ℕ) {t : Bool} → t ≡ count_wrong n → t ≡ false → (0 < n) × (n ≤ most)
unfolding count_wrong
count-right n e f =
    let a = any-parts _ _ (sym e ∙ f) in
    let b = any-parts _ _ a.1 in
    let none = eqb-false n 0 a.0 in
    let few = ltb-false most n b.0 in
    (omega arith, omega arith)

-- ---- 19

-- both sides of a test less c
test-less : (m n c : ℕ) → c ≤ m → ltb (m - c) n ≡ ltb m (n + c)
test-less m n c h = split (n + c) m
    (λ g. le-ltb (m - c) n (omega arith) ∙ sym (le-ltb m (n + c) g))
    (λ g. lt-ltb (m - c) n (omega arith) ∙ sym (lt-ltb m (n + c) g))

module _ (n c packets slot rows out room lengths : ℕ) (some : 0 < n) where
  abbrev Short : Bool → Type 0
  Short t = t ≡ room_short n c packets slot rows out room lengths

  pub short-packets : packets / n < slot → Short true
  unfolding room_short
  short-packets h = sym (any_here _ (lt-ltb packets (slot * n) ((div-lt_iff_lt-mul some).0 h)))

  pub short-rows : rows < 32 * nodes_of (depth_of n) → Short true
  unfolding room_short
  short-rows h = sym (any-later _ _ (any_here _ (lt-ltb _ _ h)))

  pub short-out : out / n < room → Short true
  unfolding room_short
  short-out h =
      sym (any-later _ _ (any-later _ _ (any_here _ (lt-ltb out (room * n) ((div-lt_iff_lt-mul some).0 h)))))

  pub short_lengths : lengths < n → Short true
  unfolding room_short
  short_lengths h = sym (any-later _ _ (any-later _ _ (any-later _ _ (any_here _ (lt-ltb _ _ h)))))

  pub short-cert : room < c → Short true
  unfolding room_short
  short-cert h =
      sym
      (any-later _ _
      (any-later _ _ (any-later _ _ (any-later _ _ (any_here _
      (lt-ltb room (264 + 32 * depth_of n + c) (omega arith)))))))

  pub short-answer : {w : ℕ} → slot ≤ packets / n → 32 * nodes_of (depth_of n) ≤ rows → room ≤ out / n → n ≤ lengths
      → c ≤ room → w ≡ depth_of n → Short (ltb (room - c) (264 + 32 * w))
  unfolding room_short any
  short-answer a b d e f q =
      simp (
        le-ltb packets (slot * n) ((le-div_iff_mul-le some).0 a),
        le-ltb rows (32 * nodes_of (depth_of n)) b,
        le-ltb out (room * n) ((le-div_iff_mul-le some).0 d),
        le-ltb lengths n e,
        or-false,
        q,
      ) (test-less room (264 + 32 * depth_of n) c f)

  pub enough : {t : Bool} → t ≡ room_short n c packets slot rows out room lengths → t ≡ false
      → Enough n c packets slot rows out room lengths
  unfolding room_short
  enough e f =
      let a = any-parts _ _ (sym e ∙ f) in
      let b = any-parts _ _ a.1 in
      let d = any-parts _ _ b.1 in
      let g = any-parts _ _ d.1 in
      let h = any-parts _ _ g.1 in
      record {
        of-packets = ltb-false _ _ a.0;
        of-rows = ltb-false _ _ b.0;
        of-out = ltb-false _ _ d.0;
        of-lengths = ltb-false _ _ g.0;
        of_room = ltb-false _ _ h.0;
      }
