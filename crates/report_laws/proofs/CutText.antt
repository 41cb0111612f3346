-- `cut_text` is read, cut and write: the text that it writes is the one that `write_report` writes of the run that
-- `cut_run` cuts out of the text's records, and the two answer alike.
use Rattle.refusal.specs.declared.Refusal.{Refusal}
use Rattle.std.specs.Prelude.{Err, Ok, Result}
use Prim.Native.Nat.{ℕ, zero, suc, ◌+◌, ◌*◌, ◌-◌, ◌/◌, ◌≤◌, ◌<◌}
use mathlib.Core.Path.{◌≡◌, refl, sym, subst, ◌∙◌, ap, ap₂}
use mathlib.Core.Bool.{Bool, true, false, cond}
use mathlib.Core.List.{List, [], ◌∷◌}
use native.Mathlib.Nat.{add_assoc}
use native.Mathlib.Omega.{arith}
use lib.Dec.{ltb}
use lib.ListN.{length, take, drop, replicate, length-take, length-drop}
use lib.Seq.{take_at, drop-drop, get_or-drop}
use Rattle.laws.specs.Bytes.{Bytes}
use Rattle.laws.specs.Numbers.{le}
use Rattle.laws.specs.Pasted.{part, pasted}
use Rattle.laws.proofs.Pasted.{length_part, length-pasted}
use Rattle.laws.proofs.Pieces.{pasted-behind, take-of-pasted}
use Rattle.refusal.specs.Refusal.{refusal}
use Rattle.pile.specs.Pile.{records_in, record_at, key_in, request_packet}
use Rattle.report_read.specs.Entry.{Entry}
use Rattle.report_read.specs.Entry.{entries_of}
use Rattle.report_read.specs.Read.{read_of}
use Rattle.report_write.specs.Entries.{entry_of, entries_in, text_of}
use Rattle.report_write.specs.Text.{entries_text, json_of}
use Rattle.report_write.specs.Published.{Publishes, published_bytes}
use Rattle.report_write.specs.Published.{roomed as publishRoomed}
use Rattle.report_write.proofs.Piles.{publishes-once}
use Rattle.pile_report.specs.Taking.{Takes, run_bytes, run_answers}
use Rattle.pile_report.proofs.Behind.{Alike, same-response}
use Rattle.pile_report.proofs.Runs.{takes-once}
use Rattle.pile_report.proofs.CutStands.{taken-run, cut-names}
use Rattle.pile_signed.specs.OwnAnswers.{own_answers}
use Rattle.pile_signed.proofs.OwnRuns.{own-run}
use Rattle.report_text.specs.Forwarded.{ForwardsBy, cut_of, CutsText, Forwards, pile_of, forwarded_bytes}
use Rattle.report_text.proofs.Cuts.{forward_of}
use Rattle.report_laws.specs.Reported.{Readable}
use Rattle.report_laws.proofs.Bytes.{text-bytes}
use Rattle.report_laws.proofs.Codes.{read-exactly}

-- ---- the rand of the first record is not written
le-drop : (k n : ℕ) (s : List ℕ) (at : ℕ) → le k (drop n s) at ≡ le k s (n + at)
unfolding le
le-drop zero n s at = refl
le-drop (suc k) n s at = rw (le-drop k n s at, get_or-drop n s (at + k) 0, add_assoc n at k)

same-request : {r s : List ℕ} → Alike r s → request_packet r ≡ request_packet s
unfolding request_packet
same-request {r} {s} a =
    let n : le 4 r 64 ≡ le 4 s 64
    = sym (le-drop 4 64 r 0) ∙ ap (λ (l : List ℕ). le 4 l 0) a.behind ∙ le-drop 4 64 s 0 in
    let d : drop 96 r ≡ drop 96 s = sym (drop-drop 32 64 r) ∙ ap (drop 32) a.behind ∙ drop-drop 32 64 s in
    ap₂ (λ (m : ℕ) (l : List ℕ). take m (take 2000 l)) n d

rand-unwritten : (e f : Entry) (es : List Entry) (t : List ℕ) → e.key ≡ f.key → e.request ≡ f.request
    → e.response ≡ f.response → entries_text true e es t ≡ entries_text true f es t
unfolding entries_text
rand-unwritten e f [] t k q a = rw (k, q, a) refl
rand-unwritten e f (g ∷ es) t k q a = rw (k, q, a) refl

module _ (st : List ℕ) (long : 4096 ≤ length st) where
  first-record : record_at (pasted st 32 (replicate 32 0)) 0 ≡ pasted (record_at st 0) 32 (replicate 32 0)
  unfolding record_at
  first-record = take-of-pasted st (replicate 32 0) 32 (omega arith) 4096 (omega arith)

  record-holds : length (record_at st 0) ≡ 4096
  unfolding record_at
  record-holds = simp (length-take, length-drop) (omega arith)

  first_alike : Alike (record_at (pasted st 32 (replicate 32 0)) 0) (record_at st 0)
  first_alike = record {
    behind =
        ap (drop 64) first-record
        ∙ pasted-behind (record_at st 0) (replicate 32 0) 32 (omega (arith, record-holds)) 64 (omega arith);
  }

  first_key : key_in (record_at (pasted st 32 (replicate 32 0)) 0) ≡ key_in (record_at st 0)
  unfolding pasted
  first_key =
      ap (take 32) first-record
      ∙ take_at (take 32 (record_at st 0)) _ 32 (length-take 32 (record_at st 0) ∙ omega (arith, record-holds))

  later-record : (k : ℕ) → 0 < k → record_at (pasted st 32 (replicate 32 0)) k ≡ record_at st k
  unfolding record_at
  later-record k h =
      ap (take 4096) (pasted-behind st (replicate 32 0) 32 (omega arith) (4096 * k) (omega arith))

  later-entries : (n k : ℕ) → 0 < k → entries_in n (pasted st 32 (replicate 32 0)) k ≡ entries_in n st k
  unfolding entries_in
  later-entries zero k h = refl
  later-entries (suc n) k h =
      ap₂ (λ (r : List ℕ) (es : List Entry). entry_of r ∷ es) (later-record k h) (later-entries n (k + 1) (omega arith))

  same-json : (n : ℕ) → json_of (entries_in n (pasted st 32 (replicate 32 0)) 0) ≡ json_of (entries_in n st 0)
  unfolding entries_in json_of entry_of
  same-json zero = refl
  same-json (suc n) =
      rw (later-entries n 1 (omega arith))
      (rw (rand-unwritten (entry_of (record_at (pasted st 32 (replicate 32 0)) 0)) (entry_of (record_at st 0))
      (entries_in n st 1) (125 ∷ []) first_key (same-request first_alike) (same-response first_alike))
      refl)

  same_text : text_of (pasted st 32 (replicate 32 0)) ≡ text_of st
  unfolding text_of
  same_text =
      let l = length-pasted st (replicate 32 0) 32 (omega arith) in
      ap (λ (n : ℕ). json_of (entries_in (n / 4096) (pasted st 32 (replicate 32 0)) 0)) l ∙ same-json (records_in st)

-- ---- where the cutter takes a run out of a pile, which is bytes:
module _ (pile answers : List ℕ) (bytes : Bytes pile) (i j : ℕ)
    (t : Takes pile answers (length pile) (Ok (i, j))) where
  -- the text of the run that is cut out is the text of its records as they stand,
  pub run-text : text_of (run_bytes i j pile) ≡ text_of (part (4096 * i) (4096 * j + 4096) pile)
  unfolding run_bytes
  run-text =
      let r = taken-run pile answers bytes (length pile) i j t in
      let l = length_part pile (4096 * i) (4096 * j + 4096) (omega (arith, r.order)) (omega (arith, r.inside)) in
      same_text (part (4096 * i) (4096 * j + 4096) pile) (omega (arith, l, r.order))

  -- and that is what `write_report` answers of it, with the answers of its records
  pub run-published : (room : ℕ) → Publishes (run_bytes i j pile) (run_answers i j answers) room
      (publishRoomed (text_of (part (4096 * i) (4096 * j + 4096) pile)) room)
  run-published room = record {
    report = Ok (0, (j - i));
    checked = cut-names pile answers bytes (length pile) i j t;
    answer = ap (λ (x : List ℕ). publishRoomed x room) (sym run-text);
  }

  -- So the answer on the text of the pile and the writer's on the run are the same,
  room-same : (n : ℕ) (b : Bool)
      → cond b (Err (refusal 19)) (Ok (i, j, n))
      ≡ forward_of i j (cond b (Err ((refusal 19), 0)) (Ok n))
  room-same n true = refl
  room-same n false = refl

  pub cut-answer : (room : ℕ) (r : Result (ℕ × ℕ × ℕ) Refusal) (p : Result ℕ (Refusal × ℕ)) → CutsText pile answers room r
      → Publishes (run_bytes i j pile) (run_answers i j answers) room p → r ≡ forward_of i j p
  cut-answer room r p c w =
      let same = takes-once pile answers (length pile) c.cut (Ok (i, j)) c.right t in
      let once = publishes-once (run_bytes i j pile) (run_answers i j answers) room p _ w (run-published room) in
      c.answer ∙ ap (cut_of pile room) same
      ∙ room-same (length (text_of (part (4096 * i) (4096 * j + 4096) pile)))
      (ltb room (length (text_of (part (4096 * i) (4096 * j + 4096) pile))))
      ∙ ap (forward_of i j) (sym once)

  -- and so is what they write
  pub cut-bytes : (p : Result ℕ (Refusal × ℕ)) → forwarded_bytes (forward_of i j p) pile ≡ published_bytes p (run_bytes i j pile)
  cut-bytes (Ok n) = sym run-text
  cut-bytes (Err (why, k)) = refl

-- ---- where a text is read, and the cutter takes a run out of its records:
module _ (text answers : List ℕ) (n i j : ℕ) (read : Readable text 65536 n)
    (t : Takes (pile_of text) answers (length (pile_of text)) (Ok (i, j))) where
  -- `cut_text` answers, and writes, what `write_report` does of that run with the answers of its records
  pub text-is-cut-and-written : (room : ℕ) (r : Result (ℕ × ℕ × ℕ) Refusal) (p : Result ℕ (Refusal × ℕ)) → Forwards text answers room r
      → Publishes (run_bytes i j (pile_of text)) (run_answers i j answers) room p
      → (r ≡ forward_of i j p) × (forwarded_bytes r (pile_of text) ≡ published_bytes p (run_bytes i j (pile_of text)))
  text-is-cut-and-written room r p f w =
      let c : CutsText (pile_of text) answers room r = rw ((read-exactly text 65536 n).1 read) at f in
      let e = cut-answer (pile_of text) answers (text-bytes text) i j t room r p c w in (
        e,
        ap (λ (x : Result (ℕ × ℕ × ℕ) Refusal). forwarded_bytes x (pile_of text)) e
            ∙ cut-bytes (pile_of text) answers (text-bytes text) i j t p,
      )

-- the same with no answers lent: `cut_signed_text` answers, and writes, what `write_signed_report` does of the run that
-- `cut_signed_run` takes
pub signed-text-is-cut-and-written : (text : List ℕ) (n i j : ℕ) → Readable text 65536 n
    → Takes (pile_of text) (own_answers (pile_of text)) (length (pile_of text)) (Ok (i, j))
    → (room : ℕ) (r : Result (ℕ × ℕ × ℕ) Refusal) (p : Result ℕ (Refusal × ℕ)) → Forwards text (own_answers (pile_of text)) room r
    → Publishes (run_bytes i j (pile_of text)) (own_answers (run_bytes i j (pile_of text))) room p
    → (r ≡ forward_of i j p) × (forwarded_bytes r (pile_of text) ≡ published_bytes p (run_bytes i j (pile_of text)))
signed-text-is-cut-and-written text n i j read t room r p f w =
    let own = own-run (taken-run (pile_of text) (own_answers (pile_of text)) (text-bytes text) _ i j t) in
    text-is-cut-and-written text (own_answers (pile_of text)) n i j read t room r p f
    (subst (λ (a : List ℕ). Publishes (run_bytes i j (pile_of text)) a room p) own w)

-- ---- And where `cut_text` answers a run, the cutter takes that run out of the text's records, and `write_report`
-- answers as many bytes of it.
-- what an answer says
abbrev said : Result (ℕ × ℕ × ℕ) Refusal → ℕ × ℕ × ℕ
said (Ok x) = x
said (Err why) = (0, 0, 0)

told-run : {i j n : ℕ} (a b m : ℕ) (x : Bool)
    → ◌≡◌ {A = Result (ℕ × ℕ × ℕ) Refusal} (Ok (i, j, n)) (cond x (Err (refusal 19)) (Ok (a, b, m)))
    → (x ≡ false) × ◌≡◌ {A = Result (ℕ × ℕ) Refusal} (Ok (a, b)) (Ok (i, j)) × (n ≡ m)
told-run a b m true e = cc
told-run {i} {j} {n} a b m false e =
    let q : ◌≡◌ {A = ℕ × ℕ × ℕ} (i, j, n) (a, b, m) = ap said e in
    let r : ◌≡◌ {A = ℕ × ℕ} (i, j) (a, b) = ap (λ (x : ℕ × ℕ × ℕ). (x.0, x.1)) q in
    (refl, ap Ok (sym r), ap (λ (x : ℕ × ℕ × ℕ). x.2) q)

module _ (pile answers : List ℕ) (bytes : Bytes pile) (room i j n : ℕ) where
  taken-so : (x : Result (ℕ × ℕ) Refusal) → Takes pile answers (length pile) x
      → ◌≡◌ {A = Result (ℕ × ℕ × ℕ) Refusal} (Ok (i, j, n)) (cut_of pile room x)
      → Takes pile answers (length pile) (Ok (i, j))
      × ◌≡◌ {A = Result (ℕ × ℕ × ℕ) Refusal} (Ok (i, j, n)) (cut_of pile room (Ok (i, j)))
  taken-so (Ok (a, b)) t e =
      let q =
      told-run a b (length (text_of (part (4096 * a) (4096 * b + 4096) pile)))
      (ltb room (length (text_of (part (4096 * a) (4096 * b + 4096) pile)))) e in
      (subst (Takes pile answers (length pile)) q.1 t, e ∙ ap (cut_of pile room) q.1)
  taken-so (Err why) t e = let z : ◌≡◌ {A = ℕ} 0 1 = cc in absurd (omega arith)

  pub run-was-cut : CutsText pile answers room (Ok (i, j, n))
      → Takes pile answers (length pile) (Ok (i, j))
      × Publishes (run_bytes i j pile) (run_answers i j answers) room (Ok n)
  run-was-cut c =
      let t = taken-so c.cut c.right c.answer in
      let q =
      told-run i j (length (text_of (part (4096 * i) (4096 * j + 4096) pile)))
      (ltb room (length (text_of (part (4096 * i) (4096 * j + 4096) pile)))) t.1 in
      let w = run-published pile answers bytes i j t.0 room in
      (t.0, record { report = w.report; checked = w.checked; answer = so q.0 q.2 ∙ w.answer })
    where
      so : ltb room (length (text_of (part (4096 * i) (4096 * j + 4096) pile))) ≡ false
          → n ≡ length (text_of (part (4096 * i) (4096 * j + 4096) pile))
          → Ok n ≡ publishRoomed (text_of (part (4096 * i) (4096 * j + 4096) pile)) room
      so f l = rw f (ap Ok l)

pub text-was-cut : (text answers : List ℕ) (room i j n : ℕ) → Forwards text answers room (Ok (i, j, n))
    → Takes (pile_of text) answers (length (pile_of text)) (Ok (i, j))
    × Publishes (run_bytes i j (pile_of text)) (run_answers i j answers) room (Ok n)
text-was-cut text answers room i j n f =
    run-was-cut (pile_of text) answers (text-bytes text) room i j n (by (read_of (entries_of text) 65536) f)
  where
    by : (x : Result ℕ Refusal) → ForwardsBy x (pile_of text) answers room (Ok (i, j, n))
        → CutsText (pile_of text) answers room (Ok (i, j, n))
    by (Ok m) f = f
    by (Err why) f = let z : ◌≡◌ {A = ℕ} 0 1 = cc in absurd (omega arith)
