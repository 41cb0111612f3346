-- The report check and the cutter say of a walk's pile what the walk said, also with the very answers that were lent on
-- the way: those of accepted responses are all yes.
use Rattle.refusal.specs.declared.Refusal.{Refusal}
use Rattle.std.specs.Prelude.{Err, Ok, Result}
use Prim.Native.Nat.{ℕ, ◌+◌, ◌*◌, ◌≤◌}
use mathlib.Core.Path.{◌≡◌, refl, ap, ◌∙◌}
use mathlib.Core.List.{List, ◌++◌}
use native.Mathlib.Omega.{arith}
use lib.ListN.{length, replicate, replicate-append-replicate}
use Rattle.refusal.specs.Refusal.{refusal}
use Rattle.pile_report.specs.Report.{Reports, report_number}
use Rattle.pile_report.specs.Taking as cutter
use Rattle.check_response.specs.declared.Window.{Window}
use Rattle.walk.specs.State.{request_now}
use Rattle.walk.specs.Starting.{begun_walk}
use Rattle.walk.specs.Taking.{take_code, recorded, moved_on, pile_of, all_yes, Takes}
use Rattle.walk.specs.Trace.{Reached}
use Rattle.walk.specs.Trace.Reached.{begun, took}
use Rattle.walk.specs.declared.Walk.{Walk}
use Rattle.walk.specs.declared.Heard.{Heard}
use Rattle.walk.specs.declared.Said.TheVariants.{Next, Ended}
use Rattle.walk.proofs.Accepting.{accepted}
use Rattle.walk.proofs.Checked.{both_yes}
use Rattle.walk.proofs.Ending.{ends-checked, ends-cut, ends-uncut}
use Rattle.walk_laws.specs.Lent.{answers_in, lent}

-- an accepted response was lent with two answers of yes
answers-yes : (w : Walk) (h : Heard) (x : List ℕ) (room : ℕ) → (take_code w h x room).code ≡ 0
    → answers_in h ≡ replicate 2 1
answers-yes w h x room z =
    let y = both_yes (request_now w) x h.delegation h.signature (accepted w h x room refl z).checked in
    rw (y.0, y.1) refl

one_more : (n : ℕ) (l : List ℕ) (h : Heard) → l ≡ all_yes n → answers_in h ≡ replicate 2 1
    → l ++ answers_in h ≡ all_yes (n + 1)
one_more n l h e y =
    let m : 2 * n + 2 ≡ 2 * (n + 1) = omega arith in
    rw (e, y) (replicate-append-replicate (2 * n) 2 1 ∙ ap (λ (k : ℕ). replicate k 1) m)

pub lent-yes : {keys nonce : List ℕ} {most : ℕ} (w : Walk) (b : List ℕ) (way : Reached keys nonce most w b)
    → lent way ≡ all_yes w.step
unfolding lent begun_walk moved_on
lent-yes w b (begun c e) = refl
lent-yes w b (took v c h x (Ok (Next o)) way l t) =
    one_more v.step (lent way) h (lent-yes v c way) (answers-yes v h x (length c) t.0)
lent-yes w b (took v c h x (Ok (Ended o r)) way l t) =
    one_more v.step (lent way) h (lent-yes v c way) (answers-yes v h x (length c) t.0)
lent-yes w b (took v c h x (Err why) way l t) = lent-yes v c way

-- Of the call that ends a walk, and the pile that it leaves:
module _
    (keys nonce : List ℕ) (most : ℕ) (n32 : length nonce ≡ 32) (w : Walk) (b : List ℕ)
    (way : Reached keys nonce most w b) (h : Heard) (response : List ℕ) (rl : length h.rand ≡ 32) (o : Window)
    (r : Result (ℕ × ℕ) (Refusal × ℕ)) (t : Takes w h response b (Ok (Ended o r))) where
  abbrev last-way : Reached keys nonce most (moved_on w h response) (recorded w response b)
  last-way = took w b h response (Ok (Ended o r)) way rl t

  abbrev left : List ℕ
  left = pile_of (2 * w.count) (recorded w response b)

  -- the answers that were lent are all yes, two a record,
  pub ends-lent : lent last-way ≡ all_yes (2 * w.count)
  unfolding moved_on
  ends-lent =
      let g = (accepted w h response (length b) refl t.0).goes in
      let full : w.step + 1 ≡ 2 * w.count = omega (arith, g.inside, t.1.0) in
      lent-yes (moved_on w h response) (recorded w response b) last-way ∙ ap all_yes full

  -- with them the report check says what the walk said,
  pub checked-as-lent : (s : Result (ℕ × ℕ) (Refusal × ℕ)) → Reports left (lent last-way) s → s ≡ r
  checked-as-lent s p =
      ends-checked keys nonce most n32 w b way h response rl o r t s (rw ends-lent at p)

  -- and the cutter takes a run exactly where it said malfeasance
  pub cut-as-lent : (room i j : ℕ) (c : Result (ℕ × ℕ) Refusal) → r ≡ Ok (i, j) → length left ≤ room
      → cutter.Takes left (lent last-way) room c → c ≡ Ok (i, j)
  cut-as-lent room i j c e l u =
      ends-cut keys nonce most n32 w b way h response rl o r t room i j c e l (rw ends-lent at u)

  pub uncut-as-lent : (room : ℕ) (c : Result (ℕ × ℕ) Refusal) → report_number r ≡ 18 → length left ≤ room
      → cutter.Takes left (lent last-way) room c → c ≡ Err (refusal 18)
  uncut-as-lent room c e l u =
      ends-uncut keys nonce most n32 w b way h response rl o r t room c e l (rw ends-lent at u)
