-- From the contract of `answer_batch`, as the check hands it out to callers, to the sentences on its answers: a call
-- that says how many are answered refused nothing, and so left what they speak of.
use Rattle.std.specs.Prelude.{Err, Ok, Result}
use mathlib.Core.Bool.{Bool, true, false, cond}
use mathlib.Core.List.{List}
use mathlib.Core.Path.{◌≡◌, refl, sym, ap, ◌∙◌}
use Prim.Native.Nat.{ℕ, ◌^◌, ◌<◌}
use borrow.Author.Tests.{eqb-true}
use borrow.Fn.Kinds.{ended_of}
use denote.Triple.Clauses.{at_exit}
use lib.Dec.{eqb}
use lib.ListN.{length, get_or}
use Rattle.laws.specs.Bytes.{Bytes}
use Rattle.refusal.specs.declared.Refusal.{Refusal}
use Rattle.server_batch.specs.Answering.{batch_answer, batch_number, LeftBy}
use Rattle.server_batch.specs.Batch.{Batch, batch, count, longest, answers}
use Rattle.server_batch.proofs.answer_batch.Kinds as batch-kinds
use Rattle.server_batch.proofs.answer_batch.Reads as batch-reads
use Rattle.server_batch_laws.specs.Call.{Call, Called, Taken, code_of, answered}
use Rattle.server_batch_laws.specs.Claims.{Known}
use Rattle.server_batch_laws.proofs.Answers.{answer-written, answer-short, answer-passes}
use Rattle.server_batch_laws.proofs.Found.{answer-found, none_found}
use Rattle.server_batch_laws.proofs.Meant.{answered-meant}

-- Of the arguments a, with the answer x and u left of the parameters: it is such a call.
pub batch-learnt : (κs : _) (a : _) (x : _) (u : _)
    → batch-reads.Learnt κs a x (at_exit (ended_of _ batch-kinds.ps batch-kinds.r) κs a u)
    → Called
    (record {
      batch = batch a.0.now a.1.0 a.1.1.0.now a.1.1.1.0;
      cert = a.1.1.1.1.0.now;
      seed = a.1.1.1.1.1.0;
      midp = a.1.1.1.1.1.1.0;
      radi = a.1.1.1.1.1.1.1.0;
      rows = length a.1.1.1.1.1.1.1.1.0.now;
      out = length a.1.1.1.1.1.1.1.1.1.0.now;
      room = a.1.1.1.1.1.1.1.1.1.1.0;
      lengths = length a.1.1.1.1.1.1.1.1.1.1.1.0.now;
    })
    a.1.1.1.1.1.1.1.1.0.now a.1.1.1.1.1.1.1.1.1.0.now
    a.1.1.1.1.1.1.1.1.1.1.1.0.now x u.1.1.1.1.1.1.1.1.0 u.1.1.1.1.1.1.1.1.1.0
    u.1.1.1.1.1.1.1.1.1.1.1.0
batch-learnt κs a x u p = record { of-out = refl; says = p.0; left = p.1 }

-- an answer that is no refusal comes of no refusal
answered-quiet : (b : Batch) (cert : List ℕ) (why : Refusal) (n : ℕ) → Ok n ≡ batch_answer b cert why
    → why.code ≡ 0
unfolding batch_answer
answered-quiet b cert why n = by (eqb why.code 0) refl
  where
    by : (t : Bool) → eqb why.code 0 ≡ t
        → Ok n ≡ cond t (Ok (answers b (longest b (length cert)))) (Err why) → why.code ≡ 0
    by true e q = eqb-true why.code 0 e
    by false e q = sym (ap batch_number q)

module _ {c : Call} {rows out lengths rows-after out-after lengths-after : List ℕ} {r : Result ℕ Refusal} {n : ℕ}
    (call : Called c rows out lengths r rows-after out-after lengths-after) (is : r ≡ Ok n)
    (midp : c.midp < 2 ^ 64) (radi : c.radi < 2 ^ 32) where
  -- The call refused nothing,
  pub called-taken : Taken c
  called-taken =
      record { passes = answered-quiet c.batch c.cert (code_of c) n (sym is ∙ call.says); midp = midp; radi = radi }

  -- and left what such a call leaves.
  pub called-left : LeftBy c.batch c.cert c.seed c.midp c.radi c.room rows out lengths 0 rows-after
      out-after lengths-after
  called-left = rw is at call.left

  -- So all is known of the answer to each packet that is answered,
  pub called-known : Bytes c.batch.packets → (i : ℕ) → answered c i ≡ true → Known c i out-after lengths-after
  called-known bytes i holds =
      let taken = called-taken in
      record {
        found = answer-found c taken called-left (sym call.of-out) i holds;
        meant = answered-meant c i bytes holds;
        written = answer-written c taken i holds;
        short = answer-short c taken i holds;
        passes = answer-passes c taken i holds;
      }

  -- and the others have none.
  pub called-none : (i : ℕ) → i < count c.batch → answered c i ≡ false → get_or lengths-after i 0 ≡ 0
  called-none i h fails = none_found c called-taken called-left i h fails
