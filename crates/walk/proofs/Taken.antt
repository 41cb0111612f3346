-- What is said of an accepted response, from what the steps of the call did.
use Rattle.std.specs.Prelude.{Err, Ok, Result}
use Prim.Native.Nat.{ℕ, ◌+◌, ◌*◌, ◌≤◌}
use mathlib.Core.Path.{◌≡◌, refl, sym, subst, ap, ◌∙◌}
use mathlib.Core.List.{List}
use lib.ListN.{length, take, replicate}
use native.Mathlib.Omega.{arith}
use Rattle.laws.proofs.Pasted.{take-replicate}
use Rattle.refusal.specs.declared.Refusal.{Refusal}
use Rattle.pile_report.specs.Report.{Reports}
use Rattle.check_response.specs.Check.{window_in}
use Rattle.check_response.specs.declared.Window.{Window}
use Rattle.wire_packet.specs.Packet.{body}
use Rattle.walk.specs.State.{Going}
use Rattle.walk.specs.Taking.{take_code, recorded, moved_on, SaidOf, Takes, said_number, said_in, next_in, walk_after, pile_after}
use Rattle.walk.specs.Taking.{pile_of, all_yes}
use Rattle.walk.specs.declared.Walk.{Walk}
use Rattle.walk.specs.declared.Heard.{Heard}
use Rattle.walk.specs.declared.Said.{Said}
use Rattle.walk.specs.declared.Stepped.{Stepped}
use Rattle.walk.specs.declared.Said.TheVariants.{Next, Ended}

-- the last record ends the walk, with what the check says of the n at the front: two a server
pub ends : (w : Walk) (v : Window) (buffer : List ℕ) (n : ℕ) (r : Result (ℕ × ℕ) (Refusal × ℕ)) → Going w → 2 * w.count ≤ w.step + 1
    → n ≡ 2 * w.count → Reports (pile_of n buffer) (take (2 * n) (replicate 32 1)) r → SaidOf w v buffer (Ok (Ended v r))
ends w v buffer n r g l e p =
    let y = take-replicate 32 (2 * n) 1 (omega (arith, g.to)) in
    (l, subst (λ (m : ℕ). Reports (pile_of m buffer) (all_yes m) r) e (rw y at p), refl)

module _ (w : Walk) (h : Heard) (response buffer : List ℕ) where
  -- the four clauses of the contract: what is said, with the state v and the buffer b afterwards
  abbrev pub Took : Result Said Refusal → Walk → List ℕ → Type 0
  Took s v b =
      (said_number s ≡ (take_code w h response (length buffer)).code)
      × (Takes w h response buffer s × ((v ≡ walk_after s w h response) × (b ≡ pile_after s w response buffer)))

  pub taken : {u : Window} (b : List ℕ) (s : Result Said Refusal) (v : Walk) → (take_code w h response (length buffer)).code ≡ 0
      → u ≡ window_in (body response) → b ≡ recorded w response buffer
      → SaidOf w u b s → v ≡ moved_on w h response → Took s v b
  taken b (Ok (Next window)) v e f p s m = (sym e, ((e, (s.0, s.1 ∙ f)), (m, p)))
  taken b (Ok (Ended window r)) v e f p s m =
      let said = subst (λ (x : List ℕ). Reports (pile_of (2 * w.count) x) (all_yes (2 * w.count)) r) p s.1 in
      (sym e, ((e, (s.0, said, s.2 ∙ f)), (m, p)))
  taken b (Err why) v e f p s m = absurd s

  pub untaken : {why : Refusal} {m : Result Stepped Refusal} → m ≡ Err why
      → why ≡ take_code w h response (length buffer) → (why.code ≡ 0 → ⊥) → Took (said_in m) (next_in w m) buffer
  untaken i e n = rw i (ap (λ (r : Refusal). r.code) e, ((e, n), (refl, refl)))
