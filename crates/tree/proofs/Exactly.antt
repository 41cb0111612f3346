-- The check of a path holds exactly where the path leads from the leaf to the root, in draft 19's words.
use mathlib.Core.Path.{◌≡◌, refl, sym, ap, ◌∙◌}
use mathlib.Core.Bool.{true}
use mathlib.Core.List.{List, [], ◌∷◌, ◌++◌}
use mathlib.Core.Logic.{◌↔◌}
use Prim.Native.Nat.{ℕ, zero, suc, ◌+◌, ◌*◌, ◌/◌, ◌%◌, ◌^◌, ◌≤◌}
use native.Mathlib.Decide.{ℕ_discrete}
use native.Mathlib.Nat.{pow-suc, mul_comm, div-div-eq-div-mul, le_refl}
use native.Mathlib.Numerals.{add-one}
use native.Mathlib.Omega.{arith}
use borrow.Author.Tests.{eq-eqb, le-leb, lt-ltb, eqb-true, leb-true, ltb-true}
use lib.ListN.{length}
use Rattle.laws.specs.Upto.{upto}
use Rattle.laws.proofs.Holds.{both}
use Rattle.laws.proofs.Same.{same_refl, same_true}
use Rattle.laws.proofs.Upto.{upto-length}
use Rattle.tree.specs.Tree.{node_in, nodes_in}
use Rattle.tree.specs.PathCheck.{step, climb, reached, leads_of}
use Rattle.tree.specs.Leads.{bit_of, Leads}
use Rattle.tree.proofs.Climbs.{step-zero, step-one}

-- one sibling more takes the next bit
climb-more : (i : ℕ) (h : List ℕ) (xs : List (List ℕ)) (x : List ℕ)
    → climb i h (xs ++ (x ∷ [])) ≡ step (bit_of i (length xs)) (climb i h xs) x
unfolding climb
climb-more i h [] x =
    let e : i / 2 ^ 0 ≡ i = omega arith in
    rw e
climb-more i h (y ∷ ys) x =
    let k : ℕ = length ys in
    let e : i / 2 / 2 ^ k ≡ i / 2 ^ suc k =
    (div-div-eq-div-mul i 2 (2 ^ k) ∙ ap (λ (n : ℕ). i / n) (mul_comm 2 (2 ^ k) ∙ sym (pow-suc 2 k))) in
    climb-more (i / 2) (step (i % 2) h y) ys x
    ∙ ap (λ (n : ℕ). step (n % 2) (climb (i / 2) (step (i % 2) h y) ys) x) e

module _ (leaf : List ℕ) (indx : ℕ) (path : List ℕ) where
  -- the chain, by the definition's own step
  rung : ℕ → List ℕ
  rung zero = leaf
  rung (suc i) = step (bit_of indx i) (rung i) (node_in path i)

  climb-rung : (n : ℕ) → climb indx leaf (upto (node_in path) n) ≡ rung n
  unfolding climb upto rung
  climb-rung zero = refl
  climb-rung (suc n) =
      climb-more indx leaf (upto (node_in path) n) (node_in path n) ∙ rw (upto-length (node_in path) n, climb-rung n)

  -- where the siblings lead is the end of it
  reached-rung : (n : ℕ) → length path ≡ 32 * n → reached leaf indx path ≡ rung n
  unfolding reached nodes_in
  reached-rung n e =
      let d : length path / 32 ≡ n = omega arith in
      rw d (climb-rung n)

  rung-first : rung 0 ≡ leaf
  unfolding rung
  rung-first = refl

  rung-0 : (i : ℕ) → bit_of indx i ≡ 0 → rung (i + 1) ≡ step 0 (rung i) (node_in path i)
  unfolding rung
  rung-0 i e = rw (add-one i, e)

  rung-1 : (i : ℕ) → bit_of indx i ≡ 1 → rung (i + 1) ≡ step 1 (rung i) (node_in path i)
  unfolding rung
  rung-1 i e = rw (add-one i, e)

  module _ (root : List ℕ) where
    -- any chain by the sentence is this one
    chain-rung : (t : Leads leaf indx path root) (i : ℕ) → i ≤ t.n → t.h i ≡ rung i
    unfolding rung
    chain-rung t zero l = t.first
    chain-rung t (suc i) l =
        let below : t.h i ≡ rung i = chain-rung t i (omega arith) in
        elim (ℕ_discrete (bit_of indx i) 0) [
          | yes e ↦
              rw (step-zero (bit_of indx i) (rung i) (node_in path i) e, ← below, ← add-one i)
              (t.bit-0 i (omega arith) e)
          | no e ↦
              rw (step-one (bit_of indx i) (rung i) (node_in path i) e, ← below, ← add-one i)
              (t.bit-1 i (omega arith) (omega arith))
        ]

    leads-sound : leads_of leaf indx path root ≡ true → Leads leaf indx path root
    unfolding leads_of
    leads-sound e =
        let n : ℕ = length path / 32 in
        let d = both _ _ e in
        let c = both _ _ d.0 in
        let b = both _ _ c.0 in
        let whole : length path % 32 ≡ 0 = eqb-true _ _ b.0 in
        let long : length path ≡ 32 * n = omega arith in
        record {
          n = n;
          siblings = long;
          few = leb-true _ _ b.1;
          h = rung;
          first = rung-first;
          bit-0 = λ i l z. rung-0 i z ∙ step-zero 0 _ _ refl;
          bit-1 = λ i l z. rung-1 i z ∙ step-one 1 _ _ (λ o. omega arith);
          last = sym (reached-rung n long) ∙ same_true _ _ d.1;
          bits = ltb-true _ _ c.1;
        }

    leads-complete : Leads leaf indx path root → leads_of leaf indx path root ≡ true
    unfolding leads_of
    leads-complete t =
        let n : length path / 32 ≡ t.n = omega (arith, t.siblings) in
        let whole : length path % 32 ≡ 0 = omega (arith, t.siblings) in
        let end : reached leaf indx path ≡ root =
        reached-rung t.n t.siblings ∙ sym (chain-rung t t.n (le_refl t.n)) ∙ t.last in
        rw (n, eq-eqb (length path % 32) 0 whole, le-leb t.n 32 t.few, lt-ltb indx (2 ^ t.n) t.bits, end)
        (same_refl root)

    pub leads-exactly : leads_of leaf indx path root ≡ true ↔ Leads leaf indx path root
    leads-exactly = (leads-sound, leads-complete)
