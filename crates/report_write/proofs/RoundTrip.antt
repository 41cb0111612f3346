-- What is written is read as the same bytes: a report turned to JSON and back is the same pile; and a text that is
-- read,
-- written from its records and read again has the same entries.
use Rattle.std.specs.Prelude.{Ok}
use Prim.Native.Nat.{ℕ, zero, suc, ◌+◌, ◌*◌, ◌-◌, ◌≤◌, ◌<◌}
use mathlib.Core.Path.{◌≡◌, refl, sym, ◌∙◌, ap, ap₂}
use mathlib.Core.Bool.{Bool, true, false}
use mathlib.Core.List.{List, [], ◌∷◌, ◌++◌, append_assoc}
use native.Mathlib.Nat.{not-suc-le-zero}
use native.Mathlib.Omega.{arith}
use borrow.Author.Tests.{le-ltb, ne_eqb, ltb-false}
use lib.ListN.{length, take, drop, get_or, replicate, length-append}
use lib.Seq.{take_at, drop_at}
use Rattle.laws.specs.Bytes.{Bytes}
use Rattle.laws.specs.Pasted.{part}
use Rattle.laws.specs.Pick.{pick, either}
use Rattle.laws.proofs.Bytes.{bytes_take, bytes_drop}
use Rattle.laws.proofs.Pasted.{length_part}
use Rattle.report_read.specs.Entry.{Entry, these, entries_of}
use Rattle.report_read.specs.Read.{is_big, any_big, read_of, pile_bytes}
use Rattle.report_read.specs.Record.{record_of, records_of}
use Rattle.report_read.proofs.Elements.{neither_left, neither_right}
use Rattle.pile.specs.Pile.{records_in, record_at, request_length, response_length, request_packet, response_packet}
use Rattle.pile.specs.Meaning.{Undamaged, WholePile}
use Rattle.pile.proofs.Exactly.{rand-exactly}
use Rattle.pile_runs.specs.Clash.{valid}
use Rattle.pile_report.specs.Report.{judged, joined, Reports}
use Rattle.pile_report.proofs.Says.{not-not}
use Rattle.pile_report.proofs.Exactly.{joined-first}
use Rattle.laws.proofs.Holds.{holds-exactly}
use Rattle.report_write.specs.Entries.{entry_of, entries_in, text_of}
use Rattle.report_write.specs.Pieces.{Fits}
use Rattle.report_write.specs.Text.{json_of}
use Rattle.report_write.proofs.Objects.{packet-most}
use Rattle.report_write.proofs.Piles.{valid-undamaged, record-long}
use Rattle.report_write.proofs.Again.{again, text-fine}
use Rattle.report_write.proofs.Records.{records-pile, part-zero, entry-record}
use Rattle.report_write.proofs.Records.{record-long as entry-long}
use Rattle.report_write.proofs.Round.{Whole, Fine, one_entry, entry-then, round}

-- ---- what is asked of a pile here, and that a report has it
record Sound (pile : List ℕ) : Type 0 where
  are : Bytes pile
  whole : WholePile pile
  undamaged : (k : ℕ) → k < records_in pile → Undamaged (record_at pile k)
  zero-rand : (i : ℕ) → 32 ≤ i → i < 64 → get_or (record_at pile 0) i 0 ≡ 0

sound : (pile answers : List ℕ) (i j : ℕ) → Bytes pile → Reports pile answers (Ok (i, j)) → Sound pile
sound pile answers i j b r = record {
  are = b;
  whole = r.0.pile-whole;
  undamaged = λ k h. valid-undamaged pile answers k (not-not (valid (judged pile answers k)) (r.1.0 k h));
  zero-rand =
      let t = not-not (joined pile 0) (r.1.1 0 r.0.pile-whole.from) in
      ((rand-exactly pile).0 (sym (joined-first pile) ∙ (holds-exactly (joined pile 0)).1 t)).rand;
}

module _ (pile : List ℕ) (s : Sound pile) where
  inside : (k : ℕ) → k < records_in pile → 4096 * k + 4096 ≤ length pile
  inside k h = omega arith

  at-bytes : (k : ℕ) → Bytes (record_at pile k)
  unfolding record_at
  at-bytes k = bytes_take (drop (4096 * k) pile) (bytes_drop pile s.are (4096 * k)) 4096

  part_bytes : (k a e : ℕ) → Bytes (part a e (record_at pile k))
  part_bytes k a e = bytes_take (drop a (record_at pile k)) (bytes_drop (record_at pile k) (at-bytes k) a) (e - a)

  whole-at : (first : Bool) (k : ℕ) → k < records_in pile → (first ≡ true → k ≡ 0)
      → Whole first (entry_of (record_at pile k))
  unfolding entry_of request_packet response_packet
  whole-at first k h f =
      let l = record-long pile k (inside k h) in
      record {
        rand = part_bytes k 32 64;
        rand32 = length_part (record_at pile k) 32 64 (omega arith) (omega arith);
        zero-first = λ z. zero-part (f z);
        key = part_bytes k 0 32;
        key32 = length_part (record_at pile k) 0 32 (omega arith) (omega arith);
        request = bytes_take (part 96 2096 (record_at pile k)) (part_bytes k 96 2096) (request_length (record_at pile k));
        response =
            bytes_take (part 2096 4096 (record_at pile k)) (part_bytes k 2096 4096) (response_length (record_at pile k));
      }
    where
      zero-part : k ≡ 0 → part 32 64 (record_at pile k) ≡ replicate 32 0
      zero-part e =
          let l = record-long pile k (inside k h) in
          part-zero (record_at pile k) 32 64 (omega arith) (omega arith)
          (λ i p q. ap (λ (m : ℕ). get_or (record_at pile m) i 0) e ∙ s.zero-rand i p q)

  fine-from : (first : Bool) (n k : ℕ) → k + n < records_in pile → (first ≡ true → k ≡ 0)
      → Fine first (entry_of (record_at pile k)) (entries_in n pile (k + 1))
  unfolding entries_in
  fine-from first zero k h f = one_entry (whole-at first k (omega arith) f)
  fine-from first (suc n) k h f =
      entry-then (whole-at first k (omega arith) f) (fine-from false n (k + 1) (omega arith) (λ z. absurd (no z)))
    where
      no : ◌≡◌ {A = Bool} false true → ⊥
      no z = let q : ◌≡◌ {A = ℕ} 0 1 = cc in omega arith

  -- what is read of the text
  read-from : (n : ℕ) → n ≤ records_in pile → 0 < n
      → entries_of (json_of (entries_in n pile 0)) ≡ these (entries_in n pile 0)
  unfolding entries_in
  read-from zero h z = absurd (not-suc-le-zero z)
  read-from (suc n) h z =
      round (entry_of (record_at pile 0)) (entries_in n pile 1) (fine-from true n 0 (omega arith) (λ e. refl))

  entries-back : entries_of (text_of pile) ≡ these (entries_in (records_in pile) pile 0)
  unfolding text_of
  entries-back = read-from (records_in pile) (omega arith) s.whole.from

  entries-long : (n k : ℕ) → length (entries_in n pile k) ≡ n
  unfolding entries_in
  entries-long zero k = refl
  entries-long (suc n) k = ap suc (entries-long n (k + 1))

  none-big : (n k : ℕ) → k + n ≤ records_in pile → any_big (entries_in n pile k) ≡ false
  unfolding entries_in any_big is_big either entry_of
  none-big zero k h = refl
  none-big (suc n) k h =
      let u = s.undamaged k (omega arith) in
      let f : Fits (record_at pile k) =
      record {
        long = record-long pile k
            (inside k (omega arith));
        request = u.request-fits;
        response = u.response-fits;
      } in
      let m = packet-most (record_at pile k) f in
      rw (
        le-ltb 2000 (length (request_packet (record_at pile k))) m.0,
        le-ltb 2000 (length (response_packet (record_at pile k))) m.1,
      )
      (none-big n (k + 1) (omega arith))

  bytes_back : pile_bytes (entries_of (text_of pile)) ≡ pile
  unfolding pile_bytes
  bytes_back = rw entries-back (records-pile pile s.are (omega (arith, s.whole.exact)) (λ k h. s.undamaged k h))

  count-back : (room : ℕ) → length pile ≤ room → read_of (entries_of (text_of pile)) room ≡ Ok (records_in pile)
  unfolding read_of pick
  count-back room h =
      let l = entries-long (records_in pile) 0 in
      let a = s.whole.from in
      let b = s.whole.to in
      let x = s.whole.exact in
      rw entries-back
      (rw (
        l,
        ne_eqb (records_in pile) 0 (λ z. omega arith),
        le-ltb 16 (records_in pile) b,
        none-big (records_in pile) 0 (omega arith),
        le-ltb room (records_in pile * 4096) (omega arith),
      ) refl)

-- a report turned to JSON and back: the same pile, byte for byte, and as many records
pub report-back : (pile answers : List ℕ) (i j room : ℕ) → Bytes pile → Reports pile answers (Ok (i, j))
    → length pile ≤ room
    → (read_of (entries_of (text_of pile)) room ≡ Ok (records_in pile)) ×
    (pile_bytes (entries_of (text_of pile)) ≡ pile)
report-back pile answers i j room b r h =
    let s = sound pile answers i j b r in (count-back pile s room h, bytes_back pile s)

-- ---- a text that is read
record-here : (p x q : List ℕ) (k : ℕ) → length p ≡ 4096 * k → length x ≡ 4096 → record_at (p ++ (x ++ q)) k ≡ x
unfolding record_at
record-here p x q k l e = ap (take 4096) (drop_at p (x ++ q) (4096 * k) l) ∙ take_at x q 4096 e

-- the entries of the records of entries are these entries
entries-of : {first : Bool} (e : Entry) (es : List Entry) → Fine first e es → any_big (e ∷ es) ≡ false
    → (p : List ℕ) (k : ℕ) → length p ≡ 4096 * k
    → (entries_in (suc (length es)) (p ++ records_of (e ∷ es)) k ≡ e ∷ es)
    × (length (records_of (e ∷ es)) ≡ 4096 * suc (length es))
unfolding entries_in records_of any_big is_big
entries-of e [] (one_entry w) b p k l =
    let hq = ltb-false _ _ (neither_left _ _ (neither_left _ _ b)) in
    let ha = ltb-false _ _ (neither_right _ _ (neither_left _ _ b)) in
    let z = entry-long e w.key32 w.rand32 hq ha in (
      ap (λ (r : List ℕ). entry_of r ∷ []) (record-here p (record_of e) [] k l z)
          ∙ ap (λ (x : Entry). x ∷ []) (entry-record e w.key32 w.rand32 hq ha),
      length-append (record_of e) [] ∙ omega (arith, z),
    )
entries-of e (f ∷ es) (entry-then w v) b p k l =
    let hq = ltb-false _ _ (neither_left _ _ (neither_left _ _ b)) in
    let ha = ltb-false _ _ (neither_right _ _ (neither_left _ _ b)) in
    let z = entry-long e w.key32 w.rand32 hq ha in
    let i = entries-of f es v (neither_right _ _ b) (p ++ record_of e) (k + 1) (length-append p (record_of e)
    ∙ omega (arith, z)) in (
      ap₂ (λ (x : Entry) (y : List Entry). x ∷ y)
          (ap entry_of (record-here p (record_of e) (records_of (f ∷ es)) k l z)
          ∙ entry-record e w.key32 w.rand32 hq ha)
          (ap (λ (r : List ℕ). entries_in (suc (length es)) r (k + 1))
          (sym (append_assoc p (record_of e) (records_of (f ∷ es)))) ∙ i.0),
      length-append (record_of e) (records_of (f ∷ es)) ∙ omega (arith, z, i.1),
    )

-- a text that is read, written from its records, and read again has the same entries, so the same records
pub text-again : (s : List ℕ) (e : Entry) (es : List Entry) → entries_of s ≡ these (e ∷ es) → any_big (e ∷ es) ≡ false
    → entries_of (text_of (records_of (e ∷ es))) ≡ these (e ∷ es)
unfolding text_of
text-again s e es h b =
    let i = entries-of e es (text-fine s e es h) b [] 0 refl in
    let n : records_in (records_of (e ∷ es)) ≡ suc (length es) = omega (arith, i.1) in
    ap (λ (m : ℕ). entries_of (json_of (entries_in m (records_of (e ∷ es)) 0))) n
    ∙ ap (λ (x : List Entry). entries_of (json_of x)) i.0 ∙ again s e es h
