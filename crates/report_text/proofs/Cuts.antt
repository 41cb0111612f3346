-- The text of a run that convicts: its records can be written, and the writer's answer is that of the cut.
use Rattle.std.specs.Prelude.{Err, None, Ok, Option, Result, Some}
use Prim.Native.Nat.{ℕ, ◌+◌, ◌*◌, ◌-◌, ◌≤◌, ◌<◌}
use mathlib.Core.Path.{◌≡◌, refl, sym, subst, ◌∙◌, ap}
use mathlib.Core.Bool.{Bool, true, false, cond}
use mathlib.Core.List.{List, []}
use native.Mathlib.Omega.{arith}
use lib.Dec.{ltb}
use lib.ListN.{length, take, drop}
use lib.Seq.{take-take, drop-drop}
use Rattle.laws.specs.Pasted.{part}
use Rattle.laws.specs.Written.{written}
use Rattle.laws.proofs.Pasted.{length_part}
use Rattle.laws.proofs.Pieces.{drop-take}
use Rattle.refusal.specs.Refusal.{refusal}
use Rattle.refusal.specs.declared.Refusal.{Refusal}
use Rattle.pile.specs.Pile.{records_in, record_at}
use Rattle.pile.specs.Meaning.{GoodPile}
use Rattle.pile_runs.specs.Spans.{Answers}
use Rattle.pile_report.specs.Taking.{ConvictsIn, code-15, code-18, Takes}
use Rattle.pile_report.proofs.Runs.{takes-once}
use Rattle.report_write.specs.Entries.{text_of}
use Rattle.report_write.specs.Pieces.{Recorded, Piled, Writable}
use Rattle.report_write.specs.Published.{published_number}
use Rattle.report_write.specs.Published.{roomed as publishRoomed}
use Rattle.report_write.proofs.Piles.{valid-undamaged, record-long, refused-left}
use Rattle.report_text.specs.Forwarded.{run_roomed, cut_of, CutsText, forwarded_number, forwarded_bytes}

-- ---- what the writer answers, told of the run
abbrev pub forward_of : ℕ → ℕ → Result ℕ (Refusal × ℕ) → Result (ℕ × ℕ × ℕ) Refusal
forward_of i j (Ok n) = Ok (i, j, n)
forward_of i j (Err (why, k)) = Err why

answer-of : (i j n : ℕ) (b : Bool)
    → forward_of i j (cond b (Err ((refusal 19), 0)) (Ok n)) ≡ cond b (Err (refusal 19)) (Ok (i, j, n))
answer-of i j n true = refl
answer-of i j n false = refl

left-of : {to : List ℕ} (i j n : ℕ) (text out : List ℕ) (b : Bool)
    → to ≡ written (published_number (cond b (Err ((refusal 19), 0)) (Ok n))) text out
    → to ≡ written (forwarded_number (cond b (Err (refusal 19)) (Ok (i, j, n)))) text out
left-of i j n text out true h = h
left-of i j n text out false h = h

pub cut-arm : {p x : Result ℕ (Refusal × ℕ)} {to : List ℕ} (i j : ℕ) (text out : List ℕ) → p ≡ publishRoomed text (length out)
    → to ≡ written (published_number p) text out → p ≡ x
    → (forward_of i j x ≡ run_roomed i j text (length out))
    × (to ≡ written (forwarded_number (forward_of i j x)) text out)
cut-arm {p} {x} {to} i j text out h l e =
    let b = ltb (length out) (length text) in
    let a : forward_of i j x ≡ run_roomed i j text (length out)
    = ap (forward_of i j) (sym e ∙ h) ∙ answer-of i j (length text) (ltb (length out) (length text)) in
    let k : to ≡ written (published_number (publishRoomed text (length out))) text out = rw h at l in
    (a, rw a (left-of i j (length text) text out (ltb (length out) (length text)) k))

-- ---- a run that convicts can be written
standing-record : (pile : List ℕ) (i j k : ℕ) → i ≤ j → k ≤ j - i
    → record_at (part (4096 * i) (4096 * j + 4096) pile) k ≡ record_at pile (i + k)
unfolding record_at
standing-record pile i j k h there =
    let e : 4096 * j + 4096 - 4096 * i ≡ 4096 * k + (4096 * j + 4096 - 4096 * i - 4096 * k) = omega arith in
    let f : 4096 * i + 4096 * k ≡ 4096 * (i + k) = omega arith in
    ap (λ (x : ℕ). take 4096 (drop (4096 * k) (take x (drop (4096 * i) pile)))) e
    ∙ ap (take 4096) (drop-take (4096 * k) (4096 * j + 4096 - 4096 * i - 4096 * k) (drop (4096 * i) pile))
    ∙ take-take 4096 (4096 * j + 4096 - 4096 * i - 4096 * k) (drop (4096 * k) (drop (4096 * i) pile)) (omega arith)
    ∙ ap (take 4096) (drop-drop (4096 * k) (4096 * i) pile ∙ ap (λ (x : ℕ). drop x pile) f)

pub cut-writable : (pile answers : List ℕ) (i j : ℕ) → GoodPile pile answers → ConvictsIn pile answers i j
    → (i ≤ j) × ((4096 * j + 4096 ≤ length pile) × Writable (part (4096 * i) (4096 * j + 4096) pile))
cut-writable pile answers i j g v = (order, (inside, record { piled = piled; few = few }))
  where
    order : i ≤ j
    order = omega (arith, v.from, v.order, v.to)

    inside : 4096 * j + 4096 ≤ length pile
    inside = omega (arith, v.inside)

    long : length (part (4096 * i) (4096 * j + 4096) pile) ≡ 4096 * j + 4096 - 4096 * i
    long = length_part pile (4096 * i) (4096 * j + 4096) (omega (arith, order)) inside

    count : records_in (part (4096 * i) (4096 * j + 4096) pile) ≡ j - i + 1
    count = omega (arith, long, order)

    few : records_in (part (4096 * i) (4096 * j + 4096) pile) ≤ 16
    few = omega (arith, count, v.inside, g.pile-whole.to)

    each : (k : ℕ) → k < j - i + 1 → Recorded (part (4096 * i) (4096 * j + 4096) pile) k
    each k h =
        let u =
        valid-undamaged pile answers (i + k) (v.clean.all_valid (i + k) (omega arith) (omega (arith, order))) in
        let is = standing-record pile i j k order (omega arith) in
        record {
          inside = omega (arith, long, order);
          fits = rw is (record {
            long = record-long pile (i + k) (omega (arith, order, inside));
            request = u.request-fits;
            response = u.response-fits;
          });
        }

    piled : Piled (part (4096 * i) (4096 * j + 4096) pile) 0 (records_in (part (4096 * i) (4096 * j + 4096) pile))
    piled =
        record {
          some_left = omega (arith, count);
          each = λ k h. let e : k ≡ 0 + k = omega arith in rw e at (each k (omega (arith, count)));
        }

-- ---- the answers on a pile
module _ (pile answers out : List ℕ) where
  -- whatever the cutter refuses
  cut-refused : (why : Refusal) → Takes pile answers (length pile) (Err why)
      → CutsText pile answers (length out) (Err why) × (out ≡ written why.code [] out)
  cut-refused why t = (record { cut = Err why; right = t; answer = refl }, refused-left why out)

  pub cut-bad : {why : Refusal} → why ≡ refusal 15 → (GoodPile pile answers → ⊥)
      → CutsText pile answers (length out) (Err why) × (out ≡ written why.code [] out)
  cut-bad {why} e f = cut-refused why (rw e (code-15 f))

  module _ (g : GoodPile pile answers) where
    pub cut-none : {x : Option (ℕ × ℕ)} {why : Refusal} → Answers (ConvictsIn pile answers) x → x ≡ None → why ≡ refusal 18
        → CutsText pile answers (length out) (Err why) × (out ≡ written why.code [] out)
    cut-none {why = why} a e r =
        cut-refused why (rw r (code-18 g (omega arith) (subst (Answers (ConvictsIn pile answers)) e a)))

    bytes_of : {to : List ℕ} (i j : ℕ) (b : Bool)
        → to ≡ written
        (forwarded_number (cond b (Err (refusal 19)) (Ok (i, j, (length (text_of (part (4096 * i) (4096 * j + 4096) pile)))))))
        (text_of (part (4096 * i) (4096 * j + 4096) pile)) out
        → to ≡ written
        (forwarded_number (cond b (Err (refusal 19)) (Ok (i, j, (length (text_of (part (4096 * i) (4096 * j + 4096) pile)))))))
        (forwarded_bytes (cond b (Err (refusal 19)) (Ok (i, j, (length (text_of (part (4096 * i) (4096 * j + 4096) pile)))))) pile) out
    bytes_of i j true h = h
    bytes_of i j false h = h

    pub cut-run : {x : Option (ℕ × ℕ)} {r : Result (ℕ × ℕ × ℕ) Refusal} {to : List ℕ} (i j : ℕ) → Answers (ConvictsIn pile answers) x
        → x ≡ Some (i, j)
        → r ≡ run_roomed i j (text_of (part (4096 * i) (4096 * j + 4096) pile)) (length out)
        → to ≡ written (forwarded_number r) (text_of (part (4096 * i) (4096 * j + 4096) pile)) out
        → CutsText pile answers (length out) r × (to ≡ written (forwarded_number r) (forwarded_bytes r pile) out)
    cut-run {x} {r} {to} i j a e h l =
        let k : to ≡ written
        (forwarded_number (run_roomed i j (text_of (part (4096 * i) (4096 * j + 4096) pile)) (length out)))
        (text_of (part (4096 * i) (4096 * j + 4096) pile)) out = rw h at l in (
          record {
            cut = Ok (i, j);
            right = (
              g,
              omega arith,
              subst (Answers (ConvictsIn pile answers)) e a,
            );
            answer = h;
          },
          rw h (bytes_of i j (ltb (length out) (length (text_of (part (4096 * i) (4096 * j + 4096) pile)))) k),
        )

-- one answer only is right
pub cuts-once : (pile answers : List ℕ) (room : ℕ) (r s : Result (ℕ × ℕ × ℕ) Refusal) → CutsText pile answers room r
    → CutsText pile answers room s → r ≡ s
cuts-once pile answers room r s p q =
    p.answer ∙ ap (cut_of pile room) (takes-once pile answers (length pile) p.cut q.cut p.right q.right)
    ∙ sym q.answer
