-- No reader of values goes back, and every turn of an array or an object goes forth.
use Rattle.std.specs.Prelude.{None, Option}
use Prim.Native.Nat.{ℕ, zero, suc, ◌+◌, ◌-◌}
use mathlib.Core.Path.{◌≡◌, refl, ap}
use mathlib.Core.List.{List}
use native.Mathlib.Omega.{arith}
use lib.Dec.{eqb}
use lib.ListN.{length, get_or}
use Rattle.laws.specs.Pick.{pick}
use Rattle.json_tokens.specs.Scan.{blank, past_while}
use Rattle.json_tokens.proofs.Ahead.{of-pick, ahead-number, ahead-colon, forth-then, forth-after}
use Rattle.json_tokens.proofs.While.{while-ahead}
use Rattle.json_tokens.proofs.Turns.{Ahead, Forth, back, ahead-walked}
use Rattle.json_strings.proofs.Ahead.{ahead-string}
use Rattle.json_tokens.specs.declared.Step.{Step}
use Rattle.json_tokens.specs.declared.Step.TheVariants.{More, End, Wrong}
use Rattle.json_values.specs.Facts.{Goes, list_of}
use Rattle.json_values.specs.Value.{literal_at, plain_at, item_step, member_step, array_of, object_of, value_by, value_at}
use Rattle.json_values.specs.Value.{array_at, object_at}

module _ (s : List ℕ) where
  ahead-literal : (w : List ℕ) (k : ℕ) → Ahead k (literal_at w s k)
  unfolding literal_at
  ahead-literal w k = of-pick (Ahead k) _ (omega arith) tt

  ahead-plain : (k : ℕ) → Ahead k (plain_at s k)
  unfolding plain_at
  ahead-plain k =
      of-pick (Ahead k) _ (ahead-string s k) (of-pick (Ahead k) _ (ahead-literal _ k)
      (of-pick (Ahead k) _ (ahead-literal _ k) (of-pick (Ahead k) _ (ahead-literal _ k) (ahead-number s k))))

  module _ (p : ℕ → Option ℕ) (ahead : (k : ℕ) → Ahead k (p k)) where
    forth-item : (k : ℕ) → Forth (length s) k (item_step s p k)
    unfolding item_step
    forth-item k = forth-then s k _ _ (ahead k) (λ e h. forth-after s 93 e k h)

    forth-member : (k : ℕ) → Forth (length s) k (member_step s p k)
    unfolding member_step
    forth-member k =
        forth-then s k _ _ (ahead-string s k) (λ e h. forth-then s k _ _ (ahead-colon s e k h)
        (λ v g. forth-then s k _ _ (back (p v) v k g (ahead v)) (λ f i. forth-after s 125 f k i)))

    ahead-array : (k : ℕ) → Ahead k (array_of s p k)
    unfolding array_of
    ahead-array k =
        of-pick (Ahead k) _ (omega (arith, while-ahead blank s (k + 1)))
        (ahead-walked (length s) (item_step s p) forth-item (past_while blank s (k + 1)) k (omega (
          arith,
          while-ahead blank s (k + 1),
        )))

    ahead-object : (k : ℕ) → Ahead k (object_of s p k)
    unfolding object_of
    ahead-object k =
        of-pick (Ahead k) _ (omega (arith, while-ahead blank s (k + 1)))
        (ahead-walked (length s) (member_step s p) forth-member (past_while blank s (k + 1)) k (omega (
          arith,
          while-ahead blank s (k + 1),
        )))

  pub ahead-value : (d k : ℕ) → Ahead k (value_at s d k)
  unfolding value_at value_by
  ahead-value zero k = of-pick (Ahead k) _ tt (of-pick (Ahead k) _ tt (ahead-plain k))
  ahead-value (suc d) k =
      of-pick (Ahead k) _ (ahead-object (value_at s d) (λ j. ahead-value d j) k)
      (of-pick (Ahead k) _ (ahead-array (value_at s d) (λ j. ahead-value d j) k) (ahead-plain k))

  -- a turn of an array or of an object, whatever the depth
  pub forth-items : (d k : ℕ) → Forth (length s) k (item_step s (value_at s d) k)
  forth-items d k = forth-item (value_at s d) (ahead-value d) k

  pub forth-members : (d k : ℕ) → Forth (length s) k (member_step s (value_at s d) k)
  forth-members d k = forth-member (value_at s d) (ahead-value d) k

  -- ---- The same as the contract of a list has it.
  pub as-forth : (k : ℕ) (t : Step) → Goes s k t → Forth (length s) k t
  as-forth k (More j) h = h
  as-forth k (End e) h = h
  as-forth k Wrong h = tt

  pub as-goes : (k : ℕ) (t : Step) → Forth (length s) k t → Goes s k t
  as-goes k (More j) h = h
  as-goes k (End e) h = h
  as-goes k Wrong h = record {}

  -- ---- The readers at a depth, as code has them.
  pub value-is : (d k : ℕ)
      → value_at s d k ≡ pick (eqb (get_or s k 0) 123) (object_at s d k)
      (pick (eqb (get_or s k 0) 91) (array_at s d k) (plain_at s k))
  unfolding value_at value_by object_at array_at
  value-is zero k = refl
  value-is (suc d) k = refl

  pub array-is : (d k : ℕ) → (d ≡ 0 → ⊥) → array_at s d k ≡ array_of s (value_at s (d - 1)) k
  unfolding array_at
  array-is zero k h = absurd (h refl)
  array-is (suc d) k h = let e : d ≡ suc d - 1 = omega arith in ap (λ n. array_of s (value_at s n) k) e

  pub object-is : (d k : ℕ) → (d ≡ 0 → ⊥) → object_at s d k ≡ object_of s (value_at s (d - 1)) k
  unfolding object_at
  object-is zero k h = absurd (h refl)
  object-is (suc d) k h = let e : d ≡ suc d - 1 = omega arith in ap (λ n. object_of s (value_at s n) k) e

  -- no bracket is left
  pub array-none : (d k : ℕ) → d ≡ 0 → None ≡ array_at s d k
  unfolding array_at
  array-none d k h = rw h refl

  pub object-none : (d k : ℕ) → d ≡ 0 → None ≡ object_at s d k
  unfolding object_at
  object-none d k h = rw h refl

  -- the list by its turns, one bracket deeper
  pub array-list : {r : Option ℕ} (d k i : ℕ) → d ≡ suc i → r ≡ list_of s 93 (item_step s (value_at s i)) k
      → r ≡ array_at s d k
  unfolding array_at array_of
  array-list d k i z q = rw z q

  pub object-list : {r : Option ℕ} (d k i : ℕ) → d ≡ suc i → r ≡ list_of s 125 (member_step s (value_at s i)) k
      → r ≡ object_at s d k
  unfolding object_at object_of
  object-list d k i z q = rw z q
