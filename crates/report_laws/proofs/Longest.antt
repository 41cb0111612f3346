-- 87,609 bytes are room for every report: with that much, neither the writer nor the cut of a text answers 19.
use Rattle.refusal.specs.declared.Refusal.{Refusal}
use Rattle.std.specs.Prelude.{Err, Ok, Result}
use Prim.Native.Nat.{ℕ, ◌+◌, ◌*◌, ◌≤◌}
use mathlib.Core.Path.{◌≡◌, refl, sym, ap, ◌∙◌}
use mathlib.Core.Bool.{false}
use mathlib.Core.List.{List}
use native.Mathlib.Omega.{arith}
use borrow.Author.Tests.{le-ltb}
use lib.Dec.{ltb}
use lib.ListN.{length}
use Rattle.laws.specs.Pasted.{part}
use Rattle.report_read.specs.Entry.{entries_of}
use Rattle.report_read.specs.Read.{read_number, read_of}
use Rattle.pile_report.specs.Report.{Reports}
use Rattle.pile_report.specs.Taking.{code-15, code-19, code-18, Takes}
use Rattle.pile_report.proofs.Codes.{refused-most}
use Rattle.report_write.specs.Entries.{text_of}
use Rattle.report_write.specs.Pieces.{Writable}
use Rattle.report_write.specs.Published.{published_of, Publishes, published_number}
use Rattle.report_write.proofs.Lists.{text-most}
use Rattle.report_write.proofs.Piles.{writable}
use Rattle.report_text.specs.Forwarded.{cut_of, CutsText, ForwardsBy, Forwards, pile_of, forwarded_number}
use Rattle.report_text.proofs.Cuts.{cut-writable}
use Rattle.report_laws.proofs.Codes.{short-exactly}

-- the text of a pile that can be written
most : (pile : List ℕ) → Writable pile → length (text_of pile) ≤ 87609
unfolding text_of
most pile w = omega (arith, text-most pile _ w.piled, w.few)

-- a report's text is never longer
pub longest : (pile answers : List ℕ) (i j : ℕ) → Reports pile answers (Ok (i, j)) → length (text_of pile) ≤ 87609
longest pile answers i j r = most pile (writable pile answers i j r)

-- with room for that `write_report` does not answer 19,
pub writer-never-short : (pile answers : List ℕ) (room : ℕ) → 87609 ≤ room → (p : Result ℕ (Refusal × ℕ))
    → Publishes pile answers room p → published_number p ≡ 19 → ⊥
writer-never-short pile answers room h p w n =
    by w.report w.checked (ap published_number (sym w.answer) ∙ n)
  where
    by : (x : Result (ℕ × ℕ) (Refusal × ℕ)) → Reports pile answers x → published_number (published_of pile room x) ≡ 19 → ⊥
    by (Ok (i, j)) r e =
        let l = longest pile answers i j r in
        let q : ltb room (length (text_of pile)) ≡ false = le-ltb room _ (omega (arith, l, h)) in
        let z : ◌≡◌ {A = ℕ} 0 19 = rw q at e in omega arith
    by (Err (why, k)) r e = omega (arith, e, refused-most pile answers why k r)

-- nor does `cut_text`
cut-never-short : (pile answers : List ℕ) (room : ℕ) → 87609 ≤ room → (r : Result (ℕ × ℕ × ℕ) Refusal) → CutsText pile answers room r
    → forwarded_number r ≡ 19 → ⊥
cut-never-short pile answers room h r c n =
    by c.cut c.right (ap forwarded_number (sym c.answer) ∙ n)
  where
    by : (x : Result (ℕ × ℕ) Refusal) → Takes pile answers (length pile) x → forwarded_number (cut_of pile room x) ≡ 19 → ⊥
    by (Ok (i, j)) t e =
        let l = most _ (cut-writable pile answers i j t.0 t.2.holds).1.1 in
        let q : ltb room (length (text_of (part (4096 * i) (4096 * j + 4096) pile))) ≡ false
        = le-ltb room _ (omega (arith, l, h)) in
        let z : ◌≡◌ {A = ℕ} 0 19 = rw q at e in omega arith
    by (Err why) (code-15 bad) e = omega (arith, e)
    by (Err why) (code-19 g short) e = omega arith
    by (Err why) (code-18 g fits none) e = omega (arith, e)

pub text-never-short : (text answers : List ℕ) (room : ℕ) → 87609 ≤ room → (r : Result (ℕ × ℕ × ℕ) Refusal)
    → Forwards text answers room r → forwarded_number r ≡ 19 → ⊥
text-never-short text answers room h r f n = by (read_of (entries_of text) 65536) refl f
  where
    by : (x : Result ℕ Refusal) → read_of (entries_of text) 65536 ≡ x → ForwardsBy x (pile_of text) answers room r → ⊥
    by (Ok m) e f = cut-never-short (pile_of text) answers room h r f n
    by (Err why) e f =
        let told : why.code ≡ 19 = ap forwarded_number (sym f) ∙ n in
        let c = (short-exactly text 65536).0 (ap read_number e ∙ told) in
        omega (arith, c.right.few, c.short)
