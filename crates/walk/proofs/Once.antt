-- Each operation's contract settles its result, and what it leaves in the lent buffer.
use Rattle.std.specs.Prelude.{Err, Ok, Result}
use Prim.Native.Nat.{ℕ}
use mathlib.Core.Path.{◌≡◌, refl, sym, ap, ap₂, ◌∙◌}
use mathlib.Core.List.{List}
use native.Mathlib.Omega.{arith}
use Rattle.laws.specs.Written.{written}
use Rattle.laws.proofs.Once.{Settles}
use Rattle.check_response.specs.declared.Window.{Window}
use Rattle.refusal.specs.declared.Refusal.{Refusal}
use Rattle.pile_report.proofs.Says.{report-once}
use Rattle.walk.specs.State.{request_now}
use Rattle.walk.specs.Asking.{asked_number}
use Rattle.walk.specs.Taking.{Takes, said_in, next_in, walk_after, pile_after}
use Rattle.walk.specs.declared.Asked.{Asked}
use Rattle.walk.specs.declared.Walk.{Walk}
use Rattle.walk.specs.declared.Heard.{Heard}
use Rattle.walk.specs.declared.Stepped.{Stepped}
use Rattle.walk.specs.declared.Said.{Said}
use Rattle.walk.specs.declared.Said.TheVariants.{Next, Ended}
use Rattle.walk.proofs.Taken.{Took}
use Rattle.walk.proofs.starting.start.Kinds as start-kinds
use Rattle.walk.proofs.starting.start.Reads as start-reads
use Rattle.walk.proofs.asking.ask.Kinds as ask-kinds
use Rattle.walk.proofs.asking.ask.Reads as ask-reads
use Rattle.walk.proofs.taking.take.Kinds as take-kinds
use Rattle.walk.proofs.taking.take.Reads as take-reads

quiet : {a b : Refusal} → a ≡ b → (a.code ≡ 0 → ⊥) → b.code ≡ 0 → ⊥
quiet e n z = n (ap (λ (r : Refusal). r.code) e ∙ z)

module _ (w : Walk) (h : Heard) (x b : List ℕ) where
  pub said-once : (s t : Result Said Refusal) → Takes w h x b s → Takes w h x b t → s ≡ t
  said-once (Ok (Next v)) (Ok (Next u)) p q =
      ap (λ (z : Window). Ok (Next z)) (p.1.1 ∙ sym q.1.1)
  said-once (Ok (Next v)) (Ok (Ended u r)) p q = absurd (omega (arith, p.1.0, q.1.0))
  said-once (Ok (Next v)) (Err c) p q = absurd (quiet q.0 q.1 p.0)
  said-once (Ok (Ended v r)) (Ok (Next u)) p q = absurd (omega (arith, q.1.0, p.1.0))
  said-once (Ok (Ended v r)) (Ok (Ended u s)) p q =
      ap₂ (λ (z : Window) (y : Result (ℕ × ℕ) (Refusal × ℕ)). Ok (Ended z y)) (p.1.2 ∙ sym q.1.2)
      (report-once _ _ r s p.1.1 q.1.1)
  said-once (Ok (Ended v r)) (Err c) p q = absurd (quiet q.0 q.1 p.0)
  said-once (Err c) (Ok (Next v)) p q = absurd (quiet p.0 p.1 q.0)
  said-once (Err c) (Ok (Ended v r)) p q = absurd (quiet p.0 p.1 q.0)
  said-once (Err c) (Err d) p q = ap Err (p.0 ∙ sym q.0)

  same_call : (m n : Result Stepped Refusal) → said_in m ≡ said_in n → next_in w m ≡ next_in w n → m ≡ n
  same_call (Ok t) (Ok u) s v =
      let e : t.said ≡ u.said = cc in ap₂ (λ (s : Said) (k : Walk). Ok record { said = s; walk = k }) e v
  same_call (Ok t) (Err d) s v = let z : ◌≡◌ {A = ℕ} 0 1 = cc in absurd (omega (arith, z))
  same_call (Err c) (Ok u) s v = let z : ◌≡◌ {A = ℕ} 0 1 = cc in absurd (omega (arith, z))
  same_call (Err c) (Err d) s v = let e : c ≡ d = cc in ap Err e

  -- the state and the buffer too
  pub took-once : (x1 x2 : Result Stepped Refusal) (b1 b2 : List ℕ) → Took w h x b (said_in x1) (next_in w x1) b1
      → Took w h x b (said_in x2) (next_in w x2) b2 → (x1 ≡ x2) × (b1 ≡ b2)
  took-once m n c d p q =
      let s = said-once (said_in m) (said_in n) p.1.0 q.1.0 in
      let v = p.1.1.0 ∙ ap (λ (t : Result Said Refusal). walk_after t w h x) s ∙ sym q.1.1.0 in
      (same_call m n s v, p.1.1.1 ∙ ap (λ (t : Result Said Refusal). pile_after t w x b) s ∙ sym q.1.1.1)

pub start-walk-once : Settles start-kinds.ps start-kinds.r start-reads.Learnt
start-walk-once κs a x u y v p q = (p ∙ sym q, refl)

pub ask-once : Settles ask-kinds.ps ask-kinds.r ask-reads.Learnt
ask-once κs a x u y v p q =
    let same = p.0 ∙ sym q.0 in
    let out = a.1.0.now in
    let left =
    p.1 ∙ ap (λ (r : Result Asked Refusal). written (asked_number r) (request_now a.0) out) same ∙ sym q.1 in
    (same, ap (λ (l : List ℕ). (tt, (l, tt))) left)

pub take-once : Settles take-kinds.ps take-kinds.r take-reads.Learnt
take-once κs a x u y v p q =
    let same = took-once a.0 a.1.0 a.1.1.0.now a.1.1.1.0.now x y _ _ p q in
    (same.0, ap (λ (l : List ℕ). (tt, (tt, (tt, (l, tt))))) same.1)
