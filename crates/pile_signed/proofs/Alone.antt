-- With the answers of our own Ed25519 a record is valid, and a pile a report, exactly where document 01's sentence
-- holds with "verifies under the key" for a yes.
use Rattle.refusal.specs.declared.Refusal.{Refusal}
use Rattle.std.specs.Prelude.{Ok, Result}
use mathlib.Core.Path.{◌≡◌, sym, ◌∙◌}
use mathlib.Core.List.{List}
use mathlib.Core.Logic.{◌↔◌}
use Prim.Native.Nat.{ℕ}
use Rattle.laws.specs.Bytes.{Bytes}
use Rattle.pile.specs.Meaning.{ValidRecord}
use Rattle.pile.specs.Pile.{record_at, key_in, request_packet, response_packet}
use Rattle.pile.specs.Valid.{window_at, judgement_of}
use Rattle.pile.proofs.Exactly.{valid-exactly}
use Rattle.pile_report.specs.Meaning.{IsReport, Accepts}
use Rattle.pile_report.specs.Report.{Reports}
use Rattle.pile_report.proofs.Exactly.{report-exactly}
use Rattle.pile_signed.specs.OwnAnswers.{own_answers}
use Rattle.pile_signed.specs.Meaning.{SignedRecord, IsSignedReport}
use Rattle.pile_signed.proofs.Own.{said-delegated, said-responded, own-good}
use Rattle.check_signatures.proofs.Passing.{with-answers, passes-alone}

module _ (pile : List ℕ) where
  module _ (k : ℕ) where
    -- a record
    pub valid-alone : ValidRecord pile (own_answers pile) k ↔ SignedRecord pile k
    valid-alone =
        let r = record_at pile k in
        let alone = passes-alone (key_in r) (request_packet r) (response_packet r) in (
          λ v.
              let o = v.passes in
              record {
                pile-whole = v.pile-good.pile-whole;
                there = v.there;
                undamaged = v.undamaged;
                passes =
                    alone.0
                    (with-answers (sym (said-delegated pile k v.there) ∙ o.delegation)
                    (sym (said-responded pile k v.there) ∙ o.signature) o);
              },
          λ s.
              let o = alone.1 s.passes in
              record {
                pile-good = own-good pile s.pile-whole;
                there = s.there;
                undamaged = s.undamaged;
                passes =
                    with-answers (said-delegated pile k s.there ∙ o.delegation)
                    (said-responded pile k s.there ∙ o.signature) o;
              },
        )

    -- and so it is judged valid, of a pile of bytes, exactly where that sentence holds
    pub judged-alone : Bytes pile
        → (judgement_of pile (own_answers pile) k).verdict ≡ Ok (window_at pile k) ↔ SignedRecord pile k
    judged-alone bytes =
        let e = valid-exactly pile (own_answers pile) k bytes in
        (λ v. valid-alone.0 (e.0 v), λ s. e.1 (valid-alone.1 s))

  -- a report
  pub report-alone : IsReport pile (own_answers pile) ↔ IsSignedReport pile
  report-alone = (
    λ d.
        record {
          all_valid = λ k l. (valid-alone k).0 (d.all_valid k l);
          all-linked = d.all-linked;
          rand = d.rand;
          i = d.i;
          j = d.j;
          order = d.order;
          inside = d.inside;
          contradict = d.contradict;
        },
    λ d.
        record {
          all_valid = λ k l. (valid-alone k).1 (d.all_valid k l);
          all-linked = d.all-linked;
          rand = d.rand;
          i = d.i;
          j = d.j;
          order = d.order;
          inside = d.inside;
          contradict = d.contradict;
        },
  )

  -- so the check of a pile of bytes names a pair exactly where it is a report with nothing beside it
  pub named-alone : Bytes pile → (r : Result (ℕ × ℕ) (Refusal × ℕ)) → Reports pile (own_answers pile) r → Accepts r ↔ IsSignedReport pile
  named-alone bytes r s =
      let e = report-exactly pile (own_answers pile) bytes r s in
      (λ a. report-alone.0 (e.0 a), λ d. e.1 (report-alone.1 d))
