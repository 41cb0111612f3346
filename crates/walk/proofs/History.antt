-- The records of the pile are those of the responses that were accepted, in their order.
use Rattle.std.specs.Prelude.{Err, Ok}
use Prim.Native.Nat.{ℕ, ◌+◌, ◌*◌, ◌≤◌, ◌<◌}
use mathlib.Core.Path.{◌≡◌, refl, sym, ap, subst, ◌∙◌}
use mathlib.Core.List.{List, [], ◌∷◌, ◌++◌}
use mathlib.Core.Logic.{⊎_elim}
use native.Mathlib.Nat.{eq-or-lt_of_le, add-zero}
use native.Mathlib.Omega.{arith}
use lib.ListN.{length, get_or, length-append, get_or-append}
use lib.Seq.{get_or-append-add}
use Rattle.laws.proofs.Pasted.{take-pasted}
use Rattle.pile.specs.Pile.{record_at, response_packet}
use Rattle.walk.specs.Starting.{begun_walk}
use Rattle.walk.specs.Taking.{record_now, recorded, moved_on, pile_of}
use Rattle.walk.specs.Trace.{Reached, heard, records}
use Rattle.walk.specs.Trace.Reached.{begun, took}
use Rattle.walk.specs.Standing.{InStep}
use Rattle.walk.specs.declared.Walk.{Walk}
use Rattle.walk.specs.declared.Heard.{Heard}
use Rattle.walk.specs.declared.Said.TheVariants.{Next, Ended}
use Rattle.walk.proofs.Accepting.{Accepted, accepted}
use Rattle.walk.proofs.Lengths.{length-now}
use Rattle.walk.proofs.Standing.{standing, before, here, stands-long, now-response}

-- xs is what the first records of the buffer hold, and front their bytes
pub record Holds (w : Walk) (b : List ℕ) (xs : List (List ℕ)) (front : List ℕ) : Type 0 where
  pub many : length xs ≡ w.step
  pub each : (k : ℕ) → k < w.step → response_packet (record_at b k) ≡ get_or xs k []
  pub all : pile_of w.step b ≡ front

module _ (keys nonce : List ℕ) (most : ℕ) (n32 : length nonce ≡ 32) where
  module _
      (w : Walk) (b : List ℕ) (st : InStep keys nonce most w b) (xs : List (List ℕ)) (front : List ℕ)
      (g : Holds w b xs front) (h : Heard) (x : List ℕ) (a : Accepted w h x (length b))
      (rl : length h.rand ≡ 32) where
    last_of : get_or (xs ++ (x ∷ [])) w.step [] ≡ x
    last_of =
        let e : w.step ≡ length xs + 0 = sym g.many ∙ sym (add-zero (length xs)) in
        ap (λ (k : ℕ). get_or (xs ++ (x ∷ [])) k []) e ∙ get_or-append-add xs (x ∷ []) 0 []

    each_more : (k : ℕ) → k < w.step + 1
        → response_packet (record_at (recorded w x b) k) ≡ get_or (xs ++ (x ∷ [])) k []
    each_more k l =
        let u : k ≤ w.step = omega arith in
        ⊎_elim
        (λ e.
        subst (λ (i : ℕ). response_packet (record_at (recorded w x b) i) ≡ get_or (xs ++ (x ∷ [])) i []) (sym e)
        (ap response_packet (here keys nonce most w b st h x a rl)
        ∙ now-response w h x (length b) a (stands-long keys nonce most w b st)
        ∙ sym last_of))
        (λ m.
        ap response_packet (before keys nonce most w b st h x a rl k m)
        ∙ g.each k m
        ∙ sym (get_or-append xs (x ∷ []) [] k (omega (arith, g.many))))
        (eq-or-lt_of_le u)

    all_more : pile_of (w.step + 1) (recorded w x b) ≡ front ++ record_now w x
    all_more =
        let n = length-now w (stands-long keys nonce most w b st) a.goes x a.short in
        take-pasted b (record_now w x) (4096 * w.step) (4096 * (w.step + 1))
        (omega (arith, a.goes.inside, st.room)) (omega arith)
        ∙ ap (λ (l : List ℕ). l ++ record_now w x) g.all

    holds_more : Holds (moved_on w h x) (recorded w x b) (xs ++ (x ∷ [])) (front ++ record_now w x)
    unfolding moved_on
    holds_more =
        record { many = length-append xs (x ∷ []) ∙ ap (λ (n : ℕ). n + 1) g.many; each = each_more; all = all_more }

  pub holds : (w : Walk) (b : List ℕ) (way : Reached keys nonce most w b) → Holds w b (heard way) (records way)
  unfolding heard records begun_walk
  holds w b (begun c e) = record { many = refl; each = λ k l. absurd (omega arith); all = refl }
  holds w b (took v c h x (Ok (Next u)) way l t) =
      holds_more v c (standing keys nonce most n32 v c way) (heard way) (records way) (holds v c way) h x
      (accepted v h x (length c) refl t.0) l
  holds w b (took v c h x (Ok (Ended u r)) way l t) =
      holds_more v c (standing keys nonce most n32 v c way) (heard way) (records way) (holds v c way) h x
      (accepted v h x (length c) refl t.0) l
  holds w b (took v c h x (Err why) way l t) = holds v c way
