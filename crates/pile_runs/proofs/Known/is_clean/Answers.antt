-- `pile_runs::Known::is_clean` meets its contract.
use mathlib.Core.Bool.{Bool, true, false, ◌&&◌}
use mathlib.Core.Path.{◌≡◌, refl, sym, subst, ap, ap₂, ◌∙◌}
use Prim.Native.Nat.{ℕ, ◌+◌, ◌-◌, ◌≤◌, ◌<◌}
use native.Mathlib.Nat.{eq-or-lt_of_le}
use native.Mathlib.Omega.{arith}
use mathlib.Core.Logic.{⊎_elim}
use borrow.Author.Rules.{rules}
use lib.Dec.{T}
use Rattle.std.specs.Prelude.{Result}
use Rattle.std.specs.List.{list_all, range_with_len}
use Rattle.check_response.specs.declared.Window.{Window}
use Rattle.refusal.specs.declared.Refusal.{Refusal}
use Rattle.pile_runs.specs.declared.Known.{Known}
use Rattle.std.proofs.lemmas.Iterator.{YieldsList-from_range}
use Rattle.std.proofs.lemmas.Iterator.Search.{all_from_yields_List}
use Rattle.pile_runs.specs.Clash.{valid}
use Rattle.pile_runs.specs.Convict.{verdict_in, flag_in, Clean}
use Rattle.pile_runs.proofs.Past.{reads}
use Rattle.laws.proofs.Ranges.{range-passes, passes-range}
use Rattle.pile_runs.proofs.Told.{is_true, is_false, tells-test}
use Rattle.pile_runs.proofs.Known.is_clean.Goals as goal

both : (a b : Bool) → (a && b) ≡ true → (a ≡ true) × (b ≡ true)
both true b e = (refl, e)
both false b e = cc

as-true : (b : Bool) → T b → b ≡ true
as-true true t = refl
as-true false t = absurd t

-- record k is valid, and linked to the one before it
abbrev on : (ℕ → Result Window Refusal) → (ℕ → Bool) → ℕ → Bool
on v l k = valid (v k) && l k

-- where its first record is valid, the run is clean exactly where each behind it is valid and linked
module _ (v : ℕ → Result Window Refusal) (l : ℕ → Bool) (a b : ℕ) (order : a ≤ b) (first : T (valid (v a))) where
  clean : T (list_all (on v l) (range_with_len (a + 1) (b - a))) → Clean v l a b
  clean t =
      let each : (k : ℕ) → a + 1 ≤ k → k < a + 1 + (b - a) → on v l k ≡ true = range-passes (on v l) (a + 1) (b - a) (as-true _ t) in
      record {
        all_valid = λ k g h. ⊎_elim (λ e. subst (λ (i : ℕ). T (valid (v i))) e first)
            (λ q. subst T (sym (both (valid (v k)) (l k) (each k (omega arith) (omega arith))).0) tt) (eq-or-lt_of_le g);
        all-linked = λ k g h. subst T (sym (both (valid (v k)) (l k) (each k (omega arith) (omega arith))).1) tt;
      }

  behind : Clean v l a b → T (list_all (on v l) (range_with_len (a + 1) (b - a)))
  behind c =
      subst T (sym (passes-range (on v l) (a + 1) (b - a) (λ k g h.
      ap₂ (λ x y. x && y) (as-true _ (c.all_valid k (omega arith) (omega arith)))
      (as-true _ (c.all-linked k (omega arith) (omega arith)))))) tt

pub returns-then-is_ok : goal.returns-then-is_ok
returns-then-is_ok c =
    let s : Known = c.args.self.now in
    let a : ℕ = c.args.a in
    let b : ℕ = c.args.b in
    let here : c.is_ok.result ≡ valid (verdict_in s.verdicts a) = c.is_ok.ensures.value ∙ ap valid (reads s.verdicts a _ (omega arith)) in
    let first : T (valid (verdict_in s.verdicts a)) = is_true here c.if-is_ok.true in
    let v : (ℕ → Result Window Refusal) = verdict_in s.verdicts in
    let l : (ℕ → Bool) = flag_in s.linked in
    tells-test (Clean v l a b) _ (list_all (on v l) (range_with_len (a + 1) (b - a)))
    (all_from_yields_List (on v l) _ _ _ c.all.ensures.ran
    (YieldsList-from_range (a + 1) (b + 1) (b - a) refl (omega arith)) (λ x t q k. search rules))
    (clean v l a b c.requires.0 first) (behind v l a b c.requires.0 first)

pub returns-else-is_ok : goal.returns-else-is_ok
returns-else-is_ok c =
    let s : Known = c.args.self.now in
    let a : ℕ = c.args.a in
    let here : c.is_ok.result ≡ valid (verdict_in s.verdicts a) = c.is_ok.ensures.value ∙ ap valid (reads s.verdicts a _ (omega arith)) in
    tells-test _ _ (valid (verdict_in s.verdicts a)) here (λ t. absurd (is_false here c.if-is_ok.false t))
    (λ clean. clean.all_valid a (omega arith) (omega arith))
