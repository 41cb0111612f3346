-- There is a walk among servers that sign with their own seeds, from its start to its end: every signature on it
-- verifies, and where an earlier window lies wholly after a later one, the pile that it leaves convicts.
use Rattle.refusal.specs.declared.Refusal.{Refusal}
use Rattle.std.specs.Prelude.{Ok, Result}
use Prim.Native.Nat.{ℕ, zero, suc, ◌+◌, ◌-◌, ◌*◌, ◌<◌}
use mathlib.Core.Path.{◌≡◌, refl, subst}
use mathlib.Core.List.{List, []}
use native.Mathlib.Omega.{arith}
use lib.Dec.{T}
use lib.ListN.{length, get_or}
use Rattle.check_response.specs.Check.{window_in}
use Rattle.check_response.specs.declared.Window.{Window}
use Rattle.laws.specs.Bytes.{Bytes}
use Rattle.pile_report.specs.Meaning.{Sound}
use Rattle.pile_report.specs.Report.{Reports}
use Rattle.pile_runs.specs.Clash.{clash}
use Rattle.walk.specs.Starting.{servers_in, start_code, begun_walk}
use Rattle.walk.specs.Taking.{recorded, moved_on, pile_of, all_yes, Takes}
use Rattle.walk.specs.Trace.{Reached, heard}
use Rattle.walk.specs.Trace.Reached.{begun, took}
use Rattle.walk.specs.declared.Said.TheVariants.{Next, Ended}
use Rattle.walk.specs.declared.Walk.{Walk}
use Rattle.walk.proofs.Accepting as accepting
use Rattle.walk.proofs.Ending.{stands-sound}
use Rattle.walk_laws.specs.Verified.{AllVerify}
use Rattle.walk_laws.specs.Way.{Convicts}
use Rattle.walk_laws.proofs.Convicted.{lie-convicts}
use Rattle.wire_packet.specs.Packet.{body}
use Rattle.walk_served_laws.specs.Tour.{Tour, Says, answer_in, heard_in, Toured}
use Rattle.walk_served_laws.proofs.Told.{some-report}
use Rattle.walk_served_laws.proofs.Turns.{Among, Answered, answered, among-more}

-- the walk has come to step k
record At {keys : List ℕ} {most : ℕ} (t : Tour keys most) (nonce : List ℕ) (k : ℕ) : Type 0 where
  w : Walk
  b : List ℕ
  way : Reached keys nonce most w b
  so : Among t w (heard way)
  verified : AllVerify way
  is : w.step ≡ k

module _ {keys nonce : List ℕ} {most : ℕ} (t : Tour keys most) (n32 : length nonce ≡ 32) where
  -- ---- the last answer

  module _ (w : Walk) (b : List ℕ) (way : Reached keys nonce most w b) (so : Among t w (heard way))
      (verified : AllVerify way) (last : w.step + 1 ≡ 2 * servers_in keys) where
    abbrev x : List ℕ
    x = answer_in t w

    abbrev o : Window
    o = window_in (body x)

    abbrev pile : List ℕ
    pile = pile_of (2 * w.count) (recorded w x b)

    a : Answered t nonce w b
    a = answered t w b way n32 so (omega arith)

    full : w.step + 1 ≡ 2 * w.count
    full = omega (arith, a.counted)

    -- the pile that it leaves is sound, so that some report is told of it,
    sound : Sound pile (all_yes (2 * w.count))
    unfolding moved_on
    sound =
        subst (λ (n : ℕ). Sound (pile_of n (recorded w x b)) (all_yes n)) full
        (stands-sound keys nonce most (moved_on w (heard_in t w) x) (recorded w x b) a.stands (omega arith))

    -- and the call ends the walk with it, whichever it is
    module _ (r : Result (ℕ × ℕ) (Refusal × ℕ)) (told : Reports pile (all_yes (2 * w.count)) r) where
      ends : Takes w (heard_in t w) x b (Ok (Ended o r))
      ends = (a.code, (omega (arith, full), told, refl))

      abbrev whole : Reached keys nonce most (moved_on w (heard_in t w) x) (recorded w x b)
      whole = took w b (heard_in t w) x (Ok (Ended o r)) way (t.rand-long w.step) ends

      said : (k : ℕ) → k < 2 * servers_in keys → Says t k (get_or (heard whole) k [])
      unfolding moved_on heard
      said k l = (among-more t w b (heard way) so a).said k (omega arith)

      all-verify : AllVerify whole
      unfolding AllVerify
      all-verify = (verified, a.verifies)

      convicts : Bytes (recorded w x b) → (i j : ℕ) → i < j → j < 2 * servers_in keys
          → T (clash (t.midp i) (t.radi i) (t.midp j) (t.radi j))
          → Convicts (pile_of (2 * servers_in keys) (recorded w x b))
      convicts bytes i j below l lie =
          let earlier = said i (omega arith) in
          let later = said j l in
          rw (← a.counted)
          (lie-convicts keys nonce most n32 w b way (heard_in t w) x (t.rand-long w.step) o r ends all-verify
          bytes i j below (omega (arith, full))
          (rw (earlier.midp, earlier.radi, later.midp, later.radi) lie))

      toured : Toured t nonce
      toured =
          record {
            w = w;
            buffer = b;
            way = way;
            o = o;
            r = r;
            ends = ends;
            full = last;
            said = said;
            verified = all-verify;
            convicts = convicts;
          }

  -- ---- from a start to the end

  module _ (buffer : List ℕ) (start : (start_code keys (length buffer)).code ≡ 0) where
    first : At t nonce 0
    unfolding begun_walk AllVerify heard
    first =
        record {
          w = begun_walk keys nonce most;
          b = buffer;
          way = begun buffer start;
          so = record { since = omega arith; many = refl; said = λ k h. absurd (omega arith) };
          verified = tt;
          is = refl;
        }

    at : (k : ℕ) → k < 2 * servers_in keys → At t nonce k
    unfolding moved_on heard AllVerify
    at zero h = first
    at (suc k) h =
        let e = at k (omega arith) in
        let x = answer_in t e.w in
        let a = answered t e.w e.b e.way n32 e.so (omega (arith, e.is)) in
        let o = window_in (body x) in
        let takes : Takes e.w (heard_in t e.w) x e.b (Ok (Next o)) =
        (a.code, (omega (arith, e.is, a.counted), refl)) in
        record {
          w = moved_on e.w (heard_in t e.w) x;
          b = recorded e.w x e.b;
          way = took e.w e.b (heard_in t e.w) x (Ok (Next o)) e.way (t.rand-long e.w.step) takes;
          so = among-more t e.w e.b (heard e.way) e.so a;
          verified = (e.verified, a.verifies);
          is = omega (arith, e.is);
        }

    -- whatever servers with seeds of their own say, the walk comes to its end
    pub tour-ends : Toured t nonce
    tour-ends =
        let some = (accepting.begun keys (length buffer) refl start).from in
        let e = at (2 * servers_in keys - 1) (omega arith) in
        let last : e.w.step + 1 ≡ 2 * servers_in keys = omega (arith, e.is) in
        let r = some-report _ _ (sound e.w e.b e.way e.so e.verified last) in
        toured e.w e.b e.way e.so e.verified last r.0 r.1
