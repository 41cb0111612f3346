-- What a walk saw convicts: a walk that ends in malfeasance, with signatures that verify under its servers' keys,
-- leaves a pile that is accepted by whoever checks the signatures; so is what anyone reads out of its text, and out of
-- what is cut from that.
use Rattle.refusal.specs.declared.Refusal.{Refusal}
use Rattle.std.specs.Prelude.{Err, Ok, Result}
use Prim.Native.Nat.{ℕ, ◌*◌, ◌<◌}
use mathlib.Core.Path.{◌≡◌, sym, subst}
use mathlib.Core.List.{List, []}
use native.Mathlib.Omega.{arith}
use lib.Dec.{T}
use lib.ListN.{length, get_or}
use Rattle.laws.specs.Bytes.{Bytes}
use Rattle.laws.proofs.Bytes.{bytes_take}
use Rattle.pile.proofs.Recorded.{record-front}
use Rattle.pile_report.specs.Report.{Reports}
use Rattle.pile_report.specs.Meaning.{Accepts}
use Rattle.pile_runs.specs.Clash.{windows_clash}
use Rattle.check_response.specs.Check.{window_in}
use Rattle.check_response.specs.declared.Window.{Window}
use Rattle.wire_packet.specs.Packet.{body}
use Rattle.pile_signed.specs.OwnAnswers.{own_answers}
use Rattle.walk.specs.Taking.{recorded, moved_on, pile_of, all_yes, Takes}
use Rattle.walk.specs.Trace.{Reached, heard}
use Rattle.walk.specs.Trace.Reached.{took}
use Rattle.walk.specs.declared.Walk.{Walk}
use Rattle.walk.specs.declared.Heard.{Heard}
use Rattle.walk.specs.declared.Said.TheVariants.{Ended}
use Rattle.walk.proofs.Ending.{ends_with, lie-heard}
use Rattle.walk_laws.specs.Verified.{AllVerify}
use Rattle.walk_laws.specs.Way.{WholeWay, Convicts}
use Rattle.walk_laws.proofs.Verified.{in-records, all_yes_lem}
use Rattle.walk_laws.proofs.Way.{goes-the-way}

-- Of a walk over these keys, from its start to the call that says malfeasance and names records i and j:
module _
    (keys nonce : List ℕ) (most : ℕ) (n32 : length nonce ≡ 32) (w : Walk) (b : List ℕ)
    (way : Reached keys nonce most w b) (h : Heard) (response : List ℕ) (rl : length h.rand ≡ 32) (o : Window)
    (i j : ℕ) (t : Takes w h response b (Ok (Ended o (Ok (i, j))))) where
  -- where every signature on it verifies, our own Ed25519 answers yes to all of the pile,
  pub own-yes : AllVerify (took w b h response (Ok (Ended o (Ok (i, j)))) way rl t)
      → own_answers (pile_of (2 * w.count) (recorded w response b)) ≡ all_yes (2 * w.count)
  unfolding moved_on
  own-yes v =
      let buffer = recorded w response b in
      all_yes_lem (pile_of (2 * w.count) buffer) (2 * w.count)
      (ends_with keys nonce most n32 w b way h response rl o (Ok (i, j)) t)
      (λ k l.
      rw (record-front buffer (4096 * (2 * w.count)) k (omega arith))
      (in-records keys nonce most n32 (moved_on w h response) buffer
      (took w b h response (Ok (Ended o (Ok (i, j)))) way rl t) v k (omega (arith, t.1.0))))

  -- and the pile goes the whole way
  pub the-whole-way : AllVerify (took w b h response (Ok (Ended o (Ok (i, j)))) way rl t) → Bytes (recorded w response b)
      → WholeWay (pile_of (2 * w.count) (recorded w response b)) i j
  the-whole-way v bytes =
      goes-the-way (pile_of (2 * w.count) (recorded w response b)) i j
      (subst (λ (a : List ℕ). Reports (pile_of (2 * w.count) (recorded w response b)) a (Ok (i, j))) (sym (own-yes v))
      t.1.1)
      (bytes_take (recorded w response b) bytes (4096 * (2 * w.count)))

-- And no lie is lost: of a walk that has ended, whatever it said, where every signature on it verifies, and the window
-- of an accepted response lies wholly after that of a later one, the pile convicts
pub lie-convicts :
    (keys nonce : List ℕ) (most : ℕ) → length nonce ≡ 32 → (w : Walk) (b : List ℕ) (way : Reached keys nonce most w b)
    (h : Heard) (response : List ℕ) (rl : length h.rand ≡ 32) (o : Window) (r : Result (ℕ × ℕ) (Refusal × ℕ))
    (t : Takes w h response b (Ok (Ended o r)))
    → AllVerify (took w b h response (Ok (Ended o r)) way rl t) → Bytes (recorded w response b)
    → (i j : ℕ) → i < j → j < 2 * w.count
    → T
    (windows_clash (window_in (body (get_or (heard (took w b h response (Ok (Ended o r)) way rl t)) i [])))
    (window_in (body (get_or (heard (took w b h response (Ok (Ended o r)) way rl t)) j []))))
    → Convicts (pile_of (2 * w.count) (recorded w response b))
lie-convicts keys nonce most n32 w b way h response rl o r t v bytes i j below l c =
    by r t v (lie-heard keys nonce most n32 w b way h response rl o r t i j below l c)
  where
    by : (x : Result (ℕ × ℕ) (Refusal × ℕ)) (u : Takes w h response b (Ok (Ended o x))) → AllVerify (took w b h response (Ok (Ended o x)) way rl u)
        → Accepts x → Convicts (pile_of (2 * w.count) (recorded w response b))
    by (Ok (a, e)) u v z =
        record { i = a; j = e; way = the-whole-way keys nonce most n32 w b way h response rl o a e u v bytes }
    by (Err (why, k)) u v z = absurd z
