-- A walk whose responses are taken by take_signed needs no word on signatures: all of them verify, so that what it saw
-- convicts.
use Rattle.refusal.specs.declared.Refusal.{Refusal}
use Rattle.std.specs.Prelude.{Err, Ok, Result}
use Prim.Native.Nat.{ℕ, ◌*◌, ◌<◌}
use mathlib.Core.Path.{◌≡◌}
use mathlib.Core.List.{List, []}
use lib.Dec.{T}
use lib.ListN.{length, get_or}
use Rattle.laws.specs.Bytes.{Bytes}
use Rattle.walk_signed.specs.Heard.{own_heard}
use Rattle.walk_signed.proofs.Verified.{accepted-verified}
use Rattle.pile_runs.specs.Clash.{windows_clash}
use Rattle.check_response.specs.Check.{window_in}
use Rattle.check_response.specs.declared.Window.{Window}
use Rattle.wire_packet.specs.Packet.{body}
use Rattle.walk.specs.State.{key_of}
use Rattle.walk.specs.Taking.{take_code, recorded, pile_of, Takes}
use Rattle.walk.specs.Trace.{Reached, heard}
use Rattle.walk.specs.Trace.Reached.{begun as begun-so, took as took-so}
use Rattle.walk.specs.declared.Walk.{Walk}
use Rattle.walk.specs.declared.Said.TheVariants.{Next, Ended}
use Rattle.walk_laws.specs.Hearing.{ReachedAlone}
use Rattle.walk_laws.specs.Hearing.ReachedAlone.{begun, took}
use Rattle.walk_laws.specs.Verified.{Verifies, AllVerify}
use Rattle.walk_laws.specs.Way.{WholeWay, Convicts}
use Rattle.walk_laws.proofs.Convicted.{the-whole-way, lie-convicts}

-- an accepted response
verified : (w : Walk) (sent received : ℕ) (rand response : List ℕ) (room : ℕ)
    → (take_code w (own_heard w sent received rand response) response room).code ≡ 0 → Verifies (key_of w) response
verified w sent received rand response room z =
    let v = accepted-verified w sent received rand response room z in
    record { delegation = v.0; signature = v.1 }

module _ {keys nonce : List ℕ} {most : ℕ} where
  -- its calls are calls of `take` with answers of our own,
  pub with-answers : {w : Walk} {b : List ℕ} → ReachedAlone keys nonce most w b → Reached keys nonce most w b
  with-answers (begun b e) = begun-so b e
  with-answers (took w b sent received rand response s way l t) =
      took-so w b _ response s (with-answers way) l t

  -- and every signature on it verifies;
  pub all-verified : {w : Walk} {b : List ℕ} (way : ReachedAlone keys nonce most w b) → AllVerify (with-answers way)
  unfolding AllVerify with-answers
  all-verified (begun b e) = tt
  all-verified (took w b sent received rand response (Ok (Next o)) way l t) =
      (all-verified way, verified w sent received rand response (length b) t.0)
  all-verified (took w b sent received rand response (Ok (Ended o r)) way l t) =
      (all-verified way, verified w sent received rand response (length b) t.0)
  all-verified (took w b sent received rand response (Err why) way l t) = all-verified way

-- ---- So, of the call that ends such a walk,

module _
    (keys nonce : List ℕ) (most : ℕ) (n32 : length nonce ≡ 32) (w : Walk) (b : List ℕ)
    (way : ReachedAlone keys nonce most w b) (sent received : ℕ) (rand response : List ℕ) (rl : length rand ≡ 32) where
  -- where it says malfeasance and names records i and j, the pile goes the whole way,
  pub the-whole-way-alone : (o : Window) (i j : ℕ)
      → Takes w (own_heard w sent received rand response) response b (Ok (Ended o (Ok (i, j))))
      → Bytes (recorded w response b) → WholeWay (pile_of (2 * w.count) (recorded w response b)) i j
  unfolding with-answers
  the-whole-way-alone o i j t =
      the-whole-way keys nonce most n32 w b (with-answers way) (own_heard w sent received rand response) response rl o i j
      t (all-verified (took w b sent received rand response (Ok (Ended o (Ok (i, j)))) way rl t))

  -- and where the window of an accepted response lies wholly after that of a later one, the pile convicts
  pub lie-convicts-alone :
      (o : Window) (r : Result (ℕ × ℕ) (Refusal × ℕ)) (t : Takes w (own_heard w sent received rand response) response b (Ok (Ended o r)))
      → Bytes (recorded w response b) → (i j : ℕ) → i < j → j < 2 * w.count
      → T
      (windows_clash
      (window_in (body (get_or (heard (with-answers (took w b sent received rand response (Ok (Ended o r)) way rl t))) i [])))
      (window_in (body (get_or (heard (with-answers (took w b sent received rand response (Ok (Ended o r)) way rl t))) j []))))
      → Convicts (pile_of (2 * w.count) (recorded w response b))
  unfolding with-answers
  lie-convicts-alone o r t =
      lie-convicts keys nonce most n32 w b (with-answers way) (own_heard w sent received rand response) response rl o r t
      (all-verified (took w b sent received rand response (Ok (Ended o r)) way rl t))
