-- The pass over records: what is known when k of them were taken and none contradicted an earlier one, and how that
-- grows.
use Rattle.check_response.specs.declared.Window.{Window}
use Rattle.refusal.specs.declared.Refusal.{Refusal}
use Rattle.std.specs.Prelude.{Err, Ok, Result}
use mathlib.Core.Path.{◌≡◌, refl, sym, ap, ap₂, subst, ◌∙◌}
use mathlib.Core.Bool.{true, false, ◌||◌}
use mathlib.Core.List.{[]}
use Prim.Native.Nat.{ℕ, zero, suc, ◌+◌, ◌≤◌, ◌<◌, max}
use native.Mathlib.Nat.{le_antisymm}
use native.Mathlib.Numerals.{add-one}
use native.Mathlib.Omega.{arith}
use Rattle.laws.specs.Least.{least, somewhere}
use Rattle.laws.proofs.Least.{somewhere-here, somewhere-more}
use Rattle.pile_tally.specs.EveryPair.{some_before, every_pair}
use Rattle.pile_tally.specs.Kept.{low_end, most_of, tally_of, tallied, after, goes}
use Rattle.pile_tally.specs.declared.Tally.{Tally}
use Rattle.pile_tally.specs.declared.Tallied.{Tallied}
use Rattle.pile_tally.proofs.Most.{hit, hit-most}

-- what a taken record says and leaves, whether it is refused or not
says : (t : Tally) (b : Result Window Refusal) → (tallied t b).contradicts ≡ hit t.most b
says t (Ok w) = refl
says t (Err why) = refl

leaves : (t : Tally) (b : Result Window Refusal) → (tallied t b).tally.most ≡ max t.most (low_end b)
leaves t (Ok w) = refl
leaves t (Err why) = omega arith

-- taken one by one from the start, the records leave the largest low end of them,
after_kept : (v : ℕ → Result Window Refusal) (n : ℕ) → (after v n).most ≡ most_of v n
unfolding after most_of
after_kept v zero = refl
after_kept v (suc n) =
    leaves (after v n) (v n) ∙ ap (λ (m : ℕ). max m (low_end (v n))) (after_kept v n)

-- and say of each whether an earlier one contradicts it: so it is known as it goes what the every-pair check says
pub goes-says : (v : ℕ → Result Window Refusal) (n : ℕ) → goes v n ≡ every_pair v n
unfolding goes somewhere least
goes-says v zero = refl
goes-says v (suc n) =
    ap₂ ◌||◌ (goes-says v n)
    (says (after v n) (v n) ∙ ap (λ (m : ℕ). hit m (v n)) (after_kept v n) ∙ hit-most v n (v n))
    ∙ sym (somewhere-more (λ j. some_before v j (v j)) n)

-- no two of the first k records contradict, and t is what is kept of them
pub record Quiet (v : ℕ → Result Window Refusal) (k : ℕ) (t : Tally) : Type 0 where
  pub kept : t.most ≡ most_of v k
  pub none : every_pair v k ≡ false

pub begin : (v : ℕ → Result Window Refusal) {t : Tally} → t ≡ tally_of [] → Quiet v 0 t
unfolding most_of somewhere least
begin v e = record { kept = ap (λ (x : Tally). x.most) e; none = refl }

module _ {v : ℕ → Result Window Refusal} {k : ℕ} {t : Tally} (q : Quiet v k t) (r : Tallied) (e : r ≡ tallied t (v k)) where
  -- record k says whether an earlier one contradicts it
  told : r.contradicts ≡ some_before v k (v k)
  told =
      ap (λ (x : Tallied). x.contradicts) e
      ∙ says t (v k)
      ∙ ap (λ (m : ℕ). hit m (v k)) q.kept
      ∙ hit-most v k (v k)

  pub caught : (n : ℕ) → k < n → r.contradicts ≡ true → true ≡ every_pair v n
  caught n l c = sym (somewhere-here (λ j. some_before v j (v j)) n k l (sym told ∙ c))

  pub quiet-on : r.contradicts ≡ false → Quiet v (k + 1) r.tally
  unfolding most_of
  quiet-on c = record {
    kept =
        ap (λ (x : Tallied). x.tally.most) e
        ∙ leaves t (v k)
        ∙ ap (λ (m : ℕ). max m (low_end (v k))) q.kept
        ∙ ap (most_of v) (sym (add-one k));
    none =
        ap (every_pair v) (add-one k)
        ∙ somewhere-more (λ j. some_before v j (v j)) k
        ∙ ap₂ ◌||◌ q.none (sym told ∙ c);
  }

-- all were taken
pub quiet-end : {v : ℕ → Result Window Refusal} {k : ℕ} {t : Tally} → Quiet v k t → (n : ℕ) → k ≤ n → n ≤ k → false ≡ every_pair v n
quiet-end {v} {k} q n l u = sym (subst (λ (m : ℕ). every_pair v m ≡ false) (le_antisymm l u) q.none)
