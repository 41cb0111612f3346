-- The operations of the way are the library's: what a caller learns from the contract of each of them, as the check
-- hands it out, is what the way says of it; and a walk's calls are the steps of its trace.
use Rattle.refusal.specs.declared.Refusal.{Refusal}
use Rattle.std.specs.Prelude.{Err, Ok, Result}
use Prim.Native.Nat.{ℕ, ◌*◌}
use mathlib.Core.Path.{◌≡◌, refl, sym, subst, ap, ◌∙◌}
use mathlib.Core.Bool.{Bool, true, false, cond}
use mathlib.Core.List.{List}
use native.Mathlib.Omega.{arith}
use borrow.Author.Tests.{eqb-true}
use lib.Dec.{eqb}
use lib.ListN.{length}
use denote.Triple.Clauses.{at_exit}
use borrow.Fn.Kinds.{ended_of}
use Rattle.laws.specs.Bytes.{Bytes}
use Rattle.pile_signed.proofs.check_signed_report.Kinds as check-kinds
use Rattle.pile_signed.proofs.check_signed_report.Reads as check-reads
use Rattle.report_text.proofs.write_signed_report.Kinds as write-kinds
use Rattle.report_text.proofs.write_signed_report.Reads as write-reads
use Rattle.report_read.proofs.read_report.Kinds as read-kinds
use Rattle.report_read.proofs.read_report.Reads as read-reads
use Rattle.report_text.proofs.cut_signed_text.Kinds as cut-kinds
use Rattle.report_text.proofs.cut_signed_text.Reads as cut-reads
use Rattle.walk_signed.specs.Heard.{own_heard}
use Rattle.walk_signed.proofs.take_signed.Kinds as take-signed-kinds
use Rattle.walk_signed.proofs.take_signed.Reads as take-signed-reads
use Rattle.check_response.specs.declared.Window.{Window}
use Rattle.walk.specs.Starting.{start_code, begun_walk, started_of}
use Rattle.walk.specs.Taking.{Takes, said_in, next_in, pile_after, pile_of}
use Rattle.walk.specs.Trace.{Reached}
use Rattle.walk.specs.Trace.Reached.{took}
use Rattle.walk.specs.declared.Said.{Said}
use Rattle.walk.specs.declared.Said.TheVariants.{Ended}
use Rattle.walk.specs.declared.Walk.{Walk}
use Rattle.walk.proofs.start.Kinds as start-kinds
use Rattle.walk.proofs.start.Reads as start-reads
use Rattle.walk.proofs.take.Kinds as take-kinds
use Rattle.walk.proofs.take.Reads as take-reads
use Rattle.walk_laws.specs.Hearing.{ReachedAlone}
use Rattle.walk_laws.specs.Hearing.ReachedAlone.{begun as begun-alone, took as took-alone}
use Rattle.walk_laws.specs.Way.{Checks, Writes, Reads, Cuts, WholeWay}
use Rattle.walk_laws.proofs.Hearing.{with-answers, the-whole-way-alone}

-- of the arguments a, with the answer x and u left of the parameters
pub check-learnt : (κs : _) (a : _) (x : _) (u : _)
    → check-reads.Learnt κs a x (at_exit (ended_of _ check-kinds.ps check-kinds.r) κs a u) → Checks a.0.now x
check-learnt κs a x u p = p

pub write-learnt : (κs : _) (a : _) (x : _) (u : _)
    → write-reads.Learnt κs a x (at_exit (ended_of _ write-kinds.ps write-kinds.r) κs a u)
    → Writes a.0.now a.1.0.now x u.1.0
write-learnt κs a x u p = record { answer = p.0; bytes = p.1 }

pub read-learnt : (κs : _) (a : _) (x : _) (u : _)
    → read-reads.Learnt κs a x (at_exit (ended_of _ read-kinds.ps read-kinds.r) κs a u)
    → Reads a.0.now a.1.0.now x u.1.0
read-learnt κs a x u p = record { answer = p.0; bytes = p.1 }

pub cut-learnt : (κs : _) (a : _) (x : _) (u : _)
    → cut-reads.Learnt κs a x (at_exit (ended_of _ cut-kinds.ps cut-kinds.r) κs a u)
    → Cuts a.0.now a.1.0.now x u.1.0
cut-learnt κs a x u p = record { answer = p.0; bytes = p.1 }

-- ---- a walk: a start that refuses nothing begins a trace,

started : (keys nonce : List ℕ) (most room : ℕ) (w : Walk) → started_of keys nonce most room ≡ Ok w
    → ((start_code keys room).code ≡ 0) × (w ≡ begun_walk keys nonce most)
unfolding started_of
started keys nonce most room w e = by (eqb (start_code keys room).code 0) refl e
  where
    by : (t : Bool) → eqb (start_code keys room).code 0 ≡ t
        → cond t (Ok (begun_walk keys nonce most)) (Err (start_code keys room)) ≡ Ok w
        → ((start_code keys room).code ≡ 0) × (w ≡ begun_walk keys nonce most)
    by true q g = (eqb-true (start_code keys room).code 0 q, cc)
    by false q g = let z : ◌≡◌ {A = ℕ} 0 1 = cc in absurd (omega (arith, z))

pub start-begins-alone : (κs : _) (a : _) (x : _) (u : _)
    → start-reads.Learnt κs a x (at_exit (ended_of _ start-kinds.ps start-kinds.r) κs a u)
    → (w : Walk) → x ≡ Ok w
    → ReachedAlone a.0.now a.1.0 a.1.1.0 w a.1.1.1.0.now
start-begins-alone κs a x u p w e =
    let s = started a.0.now a.1.0 a.1.1.0 _ w (sym p ∙ e) in
    rw s.1 (begun-alone a.1.1.1.0.now s.0)

pub start-begins : (κs : _) (a : _) (x : _) (u : _)
    → start-reads.Learnt κs a x (at_exit (ended_of _ start-kinds.ps start-kinds.r) κs a u)
    → (w : Walk) → x ≡ Ok w
    → Reached a.0.now a.1.0 a.1.1.0 w a.1.1.1.0.now
start-begins κs a x u p w e = with-answers (start-begins-alone κs a x u p w e)

-- and a call of `take`, or of `take_signed`, goes on with it, whatever it says
pub take_steps : {keys nonce : List ℕ} {most : ℕ} (κs : _) (a : _) (x : _) (u : _)
    → take-reads.Learnt κs a x (at_exit (ended_of _ take-kinds.ps take-kinds.r) κs a u)
    → Reached keys nonce most a.0 a.1.1.1.0.now → length a.1.0.rand ≡ 32
    → Reached keys nonce most (next_in a.0 x) u.1.1.1.0
take_steps κs a x u p way l = rw (p.1.1.0, p.1.1.1) (took _ _ a.1.0 _ (said_in x) way l p.1.0)

pub take-signed-steps : {keys nonce : List ℕ} {most : ℕ} (κs : _) (a : _) (x : _) (u : _)
    → take-signed-reads.Learnt κs a x (at_exit (ended_of _ take-signed-kinds.ps take-signed-kinds.r) κs a u)
    → ReachedAlone keys nonce most a.0 a.1.1.1.0.now → length a.1.0.rand ≡ 32
    → ReachedAlone keys nonce most (next_in a.0 x) u.1.1.1.0
take-signed-steps κs a x u p way l =
    rw (p.1.1.0, p.1.1.1) (took-alone _ _ _ _ a.1.0.rand _ (said_in x) way l p.1.0)

-- so that the theorem holds of whatever `take_signed` answers: where it says malfeasance, the front of the buffer goes
-- the whole way
pub malfeasance-convicts : {keys nonce : List ℕ} {most : ℕ} → length nonce ≡ 32 → (κs : _) (a : _) (x : _) (u : _)
    → take-signed-reads.Learnt κs a x (at_exit (ended_of _ take-signed-kinds.ps take-signed-kinds.r) κs a u)
    → ReachedAlone keys nonce most a.0 a.1.1.1.0.now → length a.1.0.rand ≡ 32
    → (o : Window) (i j : ℕ) → said_in x ≡ Ok (Ended o (Ok (i, j))) → Bytes u.1.1.1.0
    → WholeWay (pile_of (2 * a.0.count) u.1.1.1.0) i j
malfeasance-convicts {keys} {nonce} {most} n32 κs a x u p way l o i j said bytes =
    let w = a.0 in
    let response = a.1.1.0.now in
    let b = a.1.1.1.0.now in
    let e = a.1.0 in
    let h = own_heard w e.sent e.received e.rand response in
    let left = p.1.1.1 ∙ ap (λ (s : Result Said Refusal). pile_after s w response b) said in
    rw left
    (the-whole-way-alone keys nonce most n32 w b way e.sent e.received e.rand response l o i j
    (subst (Takes w h response b) said p.1.0) (rw left at bytes))
