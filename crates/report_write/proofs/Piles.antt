-- A pile that the check of a report accepts can be written; and the writer's answer is settled.
use Rattle.check_response.specs.declared.Window.{Window}
use Rattle.std.specs.Prelude.{Err, Ok, Result}
use Prim.Native.Nat.{ℕ, ◌+◌, ◌*◌, ◌≤◌, ◌<◌}
use mathlib.Core.Path.{◌≡◌, refl, sym, subst, ◌∙◌, ap}
use mathlib.Core.Bool.{Bool, true, false, cond}
use mathlib.Core.List.{List, []}
use native.Mathlib.Omega.{arith}
use lib.Dec.{T, eqb, ltb}
use borrow.Author.Tests.{lt-ltb, le-ltb}
use lib.ListN.{length, length-take, length-drop}
use Rattle.laws.specs.Pasted.{fronted}
use Rattle.laws.specs.Written.{written}
use Rattle.laws.proofs.First.{row-quiet, test-quiet}
use Rattle.refusal.specs.Refusal.{refusal, refusals}
use Rattle.refusal.specs.declared.Refusal.{Refusal}
use Rattle.check_response.proofs.Lent.{by-valid}
use Rattle.pile.specs.Pile.{records_in, record_at}
use Rattle.pile.specs.Meaning.{Undamaged}
use Rattle.pile.specs.Valid.{judge_code, record_code, judgement_of}
use Rattle.pile.proofs.Exactly.{undamaged-exactly}
use Rattle.pile_runs.specs.Clash.{valid}
use Rattle.pile_report.specs.Report.{judged, Reports}
use Rattle.pile_report.proofs.Says.{not-not, report-once}
use Rattle.report_write.specs.Entries.{text_of}
use Rattle.report_write.specs.Published.{roomed, published_of, Publishes, published_number, published_bytes}
use Rattle.report_write.specs.Pieces.{Recorded, Writable}

-- a record to which no code applies is whole
code-undamaged : (pile answers : List ℕ) (k : ℕ) → (judge_code pile answers k).code ≡ 0 → Undamaged (record_at pile k)
unfolding judge_code record_code
code-undamaged pile answers k z =
    let a = row-quiet refusals _ _ z in
    let b = row-quiet refusals _ _ (row-quiet refusals _ _ a.1).0 in
    (undamaged-exactly (record_at pile k)).0 (test-quiet refusals _ _ tt b.0)

pub valid-undamaged : (pile answers : List ℕ) (k : ℕ) → T (valid (judged pile answers k)) → Undamaged (record_at pile k)
unfolding judgement_of
valid-undamaged pile answers k t = go (judged pile answers k) refl
  where
    go : (x : Result Window Refusal) → judged pile answers k ≡ x → Undamaged (record_at pile k)
    go (Ok w) e = code-undamaged pile answers k (by-valid (judge_code pile answers k) _ w e).0
    go (Err why) e = absurd (subst (λ (y : Result Window Refusal). T (valid y)) e t)

pub record-long : (pile : List ℕ) (k : ℕ) → 4096 * k + 4096 ≤ length pile → length (record_at pile k) ≡ 4096
unfolding record_at
record-long pile k h = simp (length-take, length-drop) (omega arith)

pub recorded : (pile answers : List ℕ) (k : ℕ) → k < records_in pile → T (valid (judged pile answers k))
    → Recorded pile k
recorded pile answers k h t =
    let u = valid-undamaged pile answers k t in
    let i : 4096 * k + 4096 ≤ length pile = omega arith in
    record {
      inside = i;
      fits = record { long = record-long pile k i; request = u.request-fits; response = u.response-fits };
    }

pub writable : (pile answers : List ℕ) (i j : ℕ) → Reports pile answers (Ok (i, j)) → Writable pile
writable pile answers i j r =
    let w = r.0.pile-whole in
    record {
      piled = record {
        some_left = w.from;
        each = λ k h. each k h;
      };
      few = w.to;
    }
  where
    each : (k : ℕ) → k < records_in pile → Recorded pile (0 + k)
    each k h =
        let e : k ≡ 0 + k = omega arith in
        rw e at (recorded pile answers k h (not-not (valid (judged pile answers k)) (r.1.0 k h)))

-- ---- the returns of the writers
pub report-short : (pile out : List ℕ) {n : ℕ} → n ≡ length (text_of pile) → length out < n
    → (◌≡◌ {A = Result ℕ (Refusal × ℕ)} (Err (refusal 19, 0)) (roomed (text_of pile) (length out))) × (out ≡ written 19 (text_of pile) out)
report-short pile out e h = (rw (lt-ltb (length out) (length (text_of pile)) (omega arith)) refl, refl)

pub report-done : {to : List ℕ} (pile out : List ℕ) {n : ℕ} → n ≡ length (text_of pile) → n ≤ length out
    → to ≡ fronted (text_of pile) out
    → (Ok n ≡ roomed (text_of pile) (length out)) × (to ≡ written 0 (text_of pile) out)
report-done pile out e h f = (rw (le-ltb (length out) (length (text_of pile)) (omega arith)) (ap Ok e), f)

room-bytes : (pile out : List ℕ) (room : ℕ) → (b : Bool)
    → written (published_number (cond b (Err (refusal 19, 0)) (Ok (length (text_of pile))))) (text_of pile) out
    ≡ written (published_number (cond b (Err (refusal 19, 0)) (Ok (length (text_of pile)))))
    (published_bytes (cond b (Err (refusal 19, 0)) (Ok (length (text_of pile)))) pile) out
room-bytes pile out room true = refl
room-bytes pile out room false = refl

-- what is written for a pile that was accepted is what the answer says
pub pair_left : {r : Result ℕ (Refusal × ℕ)} {to : List ℕ} (pile out : List ℕ) → r ≡ roomed (text_of pile) (length out)
    → to ≡ written (published_number r) (text_of pile) out
    → to ≡ written (published_number r) (published_bytes r pile) out
pair_left {r} {to} pile out e h =
    let k : to ≡ written (published_number (roomed (text_of pile) (length out))) (text_of pile) out = rw e at h in
    rw e (k ∙ room-bytes pile out (length out) (ltb (length out) (length (text_of pile))))

-- a refusal with any number leaves the buffer
pub refused-left : (why : Refusal) (out : List ℕ) → out ≡ written why.code [] out
refused-left why out = by (eqb why.code 0)
  where
    by : (b : Bool) → out ≡ cond b (fronted [] out) out
    by true = refl
    by false = refl

-- one answer only is right
pub publishes-once : (pile answers : List ℕ) (room : ℕ) (r s : Result ℕ (Refusal × ℕ)) → Publishes pile answers room r
    → Publishes pile answers room s → r ≡ s
publishes-once pile answers room r s p q =
    p.answer
    ∙ ap (published_of pile room) (report-once pile answers p.report q.report p.checked q.checked)
    ∙ sym q.answer

module _ {x : Result (ℕ × ℕ) (Refusal × ℕ)} (pile answers : List ℕ) (checked : Reports pile answers x) where
  pub pair-writable : {i j : ℕ} → x ≡ Ok (i, j) → Writable pile
  pair-writable {i} {j} e = writable pile answers i j (subst (Reports pile answers) e checked)

  pub publishes-by : {y : Result (ℕ × ℕ) (Refusal × ℕ)} {r : Result ℕ (Refusal × ℕ)} (room : ℕ) → x ≡ y → r ≡ published_of pile room y
      → Publishes pile answers room r
  publishes-by room e h = record { report = x; checked = checked; answer = h ∙ ap (published_of pile room) (sym e) }
