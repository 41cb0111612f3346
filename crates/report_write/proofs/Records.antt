-- Records and entries are each other's: a whole record is what its entry is written as, and an entry what is read of
-- its record, by the pile's own definitions.
use Prim.Native.Nat.{ℕ, zero, suc, ◌+◌, ◌*◌, ◌-◌, ◌≤◌, ◌<◌}
use mathlib.Core.Path.{◌≡◌, refl, sym, ◌∙◌, ap, ap₂}
use mathlib.Core.Bool.{false}
use mathlib.Core.List.{List, [], ◌∷◌, ◌++◌, append_assoc, append-nil}
use native.Mathlib.Omega.{arith}
use lib.ListN.{length, take, drop, get_or, replicate, length-take, length-drop, take-append-drop}
use lib.Seq.{take-add, take_all, drop-drop, get_or-take, get_or-drop}
use Rattle.laws.specs.Bytes.{Bytes}
use Rattle.laws.specs.Numbers.{le_bytes}
use Rattle.laws.specs.Pasted.{part}
use Rattle.laws.proofs.Numbers.{le_bytes-le}
use Rattle.laws.proofs.Pasted.{length_part}
use Rattle.laws.proofs.Bytes.{bytes_take, bytes_drop}
use Rattle.report_read.proofs.Areas.{record-parts}
use Rattle.report_read.specs.Entry.{Entry}
use Rattle.report_read.specs.Record.{record_of, records_of}
use Rattle.pile.specs.Recording.{padded, record_bytes}
use Rattle.pile.proofs.Recorded.{length-record, key_reads, rand-reads, request-reads, response-reads, reads_whole}
use Rattle.pile.specs.Pile.{records_in, record_at, key_in, rand_in, request_length, response_length}
use Rattle.pile.specs.Pile.{request_packet, response_packet}
use Rattle.pile.specs.Meaning.{Undamaged}
use Rattle.pile.specs.Valid.{record_bad}
use Rattle.report_write.specs.Entries.{entry_of, entries_in}

-- ---- from a record to its entry and back

-- a list of zeros
all-zero : (n : ℕ) (l : List ℕ) → length l ≡ n → ((i : ℕ) → i < n → get_or l i 0 ≡ 0) → l ≡ replicate n 0
all-zero zero [] e f = refl
all-zero zero (x ∷ l) e f = let z : ◌≡◌ {A = ℕ} 0 1 = omega arith in absurd (omega arith)
all-zero (suc n) [] e f = let z : ◌≡◌ {A = ℕ} 0 1 = omega arith in absurd (omega arith)
all-zero (suc n) (x ∷ l) e f =
    ap₂ (λ (a : ℕ) (m : List ℕ). a ∷ m) (f 0 (omega arith))
    (all-zero n l (omega arith) (λ i h. f (suc i) (omega arith)))

pub part-zero : (r : List ℕ) (a e : ℕ) → a ≤ e → e ≤ length r → ((i : ℕ) → a ≤ i → i < e → get_or r i 0 ≡ 0)
    → part a e r ≡ replicate (e - a) 0
part-zero r a e h k f =
    all-zero (e - a) (part a e r) (length_part r a e h k)
    (λ i g. get_or-take (e - a) (drop a r) i 0 g ∙ get_or-drop a r i 0 ∙ f (a + i) (omega arith) (omega arith))

-- one part behind another
next : (r : List ℕ) (a e : ℕ) → a ≤ e → take a r ++ part a e r ≡ take e r
next r a e h = let q : a + (e - a) ≡ e = omega arith in sym (take-add a (e - a) r) ∙ ap (λ (n : ℕ). take n r) q

full : (n : ℕ) (x : List ℕ) → length x ≡ n → padded n x ≡ x
unfolding padded
full n x e = let z : n - length x ≡ 0 = omega arith in rw z (append-nil x)

-- an area: its packet, and zeros
area : (r : List ℕ) (a e n : ℕ) → a + 2000 ≡ e → e ≤ length r → n ≤ 2000
    → ((i : ℕ) → a + n ≤ i → i < e → get_or r i 0 ≡ 0)
    → padded 2000 (take n (part a e r)) ≡ part a e r
unfolding padded
area r a e n h k m f =
    let w : length (part a e r) ≡ 2000 = length_part r a e (omega arith) k ∙ omega arith in
    let l : length (take n (part a e r)) ≡ n = length-take n (part a e r) ∙ omega arith in
    let d : drop n (part a e r) ≡ replicate (2000 - n) 0 =
    all-zero (2000 - n) (drop n (part a e r)) (length-drop n (part a e r) ∙ omega arith)
    (λ i g. get_or-drop n (part a e r) i 0 ∙ get_or-take (e - a) (drop a r) (n + i) 0 (omega arith)
    ∙ get_or-drop a r (n + i) 0 ∙ f (a + (n + i)) (omega arith) (omega arith)) in
    rw (l, sym d) (take-append-drop n (part a e r))

packet-length : (r : List ℕ) (a e n : ℕ) → a + 2000 ≡ e → e ≤ length r → n ≤ 2000 → length (take n (part a e r)) ≡ n
packet-length r a e n h k m = length-take n (part a e r) ∙ omega (arith, length_part r a e (omega arith) k)

-- a whole record is the record of its entry
pub record-entry : (r : List ℕ) → Bytes r → length r ≡ 4096 → Undamaged r → record_of (entry_of r) ≡ r
unfolding entry_of request_packet response_packet
record-entry r b l u =
    let k : padded 32 (part 0 32 r) ≡ take 32 r =
    full 32 (part 0 32 r) (length_part r 0 32 (omega arith) (omega arith)) in
    let a : padded 32 (part 32 64 r) ≡ part 32 64 r =
    full 32 (part 32 64 r) (length_part r 32 64 (omega arith) (omega arith)) in
    let ql = packet-length r 96 2096 (request_length r) refl (omega arith) u.request-fits in
    let al = packet-length r 2096 4096 (response_length r) refl (omega arith) u.response-fits in
    let qn : le_bytes 4 (length (take (request_length r) (part 96 2096 r))) ≡ part 64 68 r = ap (le_bytes 4) ql
    ∙ le_bytes-le r b 4 64 (omega arith) in
    let an : le_bytes 4 (length (take (response_length r) (part 2096 4096 r))) ≡ part 68 72 r = ap (le_bytes 4) al
    ∙ le_bytes-le r b 4 68 (omega arith) in
    let z : replicate 24 0 ≡ part 72 96 r = sym (part-zero r 72 96 (omega arith) (omega arith) u.gap) in
    let q = area r 96 2096 (request_length r) refl (omega arith) u.request-fits u.request-rest in
    let p = area r 2096 4096 (response_length r) refl (omega arith) u.response-fits u.response-rest in
    record-parts _ ∙ rw (k, a, qn, an, z, q, p) (joined r l)
  where
    joined : (r : List ℕ) → length r ≡ 4096
        → (take 32 r ++ part 32 64 r) ++ (part 64 68 r ++ part 68 72 r) ++ part 72 96 r
        ++ (part 96 2096 r ++ part 2096 4096 r) ≡ r
    joined r l =
        ap (λ (x : List ℕ). x ++ (part 64 68 r ++ part 68 72 r) ++ part 72 96 r
        ++ (part 96 2096 r ++ part 2096 4096 r)) (next r 32 64 (omega arith))
        ∙ ap (λ (x : List ℕ). x ++ part 72 96 r ++ (part 96 2096 r ++ part 2096 4096 r))
        (sym (append_assoc (take 64 r) (part 64 68 r) (part 68 72 r))
        ∙ ap (λ (x : List ℕ). x ++ part 68 72 r) (next r 64 68 (omega arith)) ∙ next r 68 72 (omega arith))
        ∙ ap (λ (x : List ℕ). x ++ (part 96 2096 r ++ part 2096 4096 r)) (next r 72 96 (omega arith))
        ∙ sym (append_assoc (take 96 r) (part 96 2096 r) (part 2096 4096 r))
        ∙ ap (λ (x : List ℕ). x ++ part 2096 4096 r) (next r 96 2096 (omega arith))
        ∙ next r 2096 4096 (omega arith) ∙ take_all 4096 r (omega arith)

-- ---- a whole pile
records-from : (pile : List ℕ) (n k : ℕ) → Bytes pile → 4096 * k + 4096 * n ≤ length pile
    → ((i : ℕ) → k ≤ i → i < k + n → Undamaged (record_at pile i))
    → records_of (entries_in n pile k) ≡ take (4096 * n) (drop (4096 * k) pile)
unfolding records_of entries_in record_at
records-from pile zero k b h f = refl
records-from pile (suc n) k b h f =
    let d = drop (4096 * k) pile in
    let i : length (take 4096 (drop (4096 * k) pile)) ≡ 4096 = length-take 4096 (drop (4096 * k) pile)
    ∙ omega (arith, length-drop (4096 * k) pile) in
    let here : record_of (entry_of (take 4096 (drop (4096 * k) pile))) ≡ take 4096 (drop (4096 * k) pile)
    = record-entry (take 4096 (drop (4096 * k) pile))
    (bytes_take (drop (4096 * k) pile) (bytes_drop pile b (4096 * k)) 4096) i (f k (omega arith) (omega arith)) in
    let rest = records-from pile n (k + 1) b (omega arith) (λ j p q. f j (omega arith) (omega arith)) in
    let e : 4096 * (k + 1) ≡ 4096 * k + 4096 = omega arith in
    let m : 4096 * suc n ≡ 4096 + 4096 * n = omega arith in
    let s : drop (4096 * (k + 1)) pile ≡ drop 4096 (drop (4096 * k) pile)
    = ap (λ (x : ℕ). drop x pile) e ∙ sym (drop-drop 4096 (4096 * k) pile) in
    ap₂ (λ (x y : List ℕ). x ++ y) here (rest ∙ ap (take (4096 * n)) s)
    ∙ sym (take-add 4096 (4096 * n) (drop (4096 * k) pile)) ∙ ap (λ (x : ℕ). take x (drop (4096 * k) pile)) (sym m)

pub records-pile : (pile : List ℕ) → Bytes pile → length pile ≡ 4096 * records_in pile
    → ((k : ℕ) → k < records_in pile → Undamaged (record_at pile k))
    → records_of (entries_in (records_in pile) pile 0) ≡ pile
records-pile pile b l f =
    records-from pile (records_in pile) 0 b (omega arith) (λ i p q. f i (omega arith))
    ∙ take_all (4096 * records_in pile) pile (omega arith)

-- ---- from an entry to its record and back

-- what the pile's definitions read of the record of an entry
module _ (e : Entry) (hk : length e.key ≡ 32) (hr : length e.rand ≡ 32) (hq : length e.request ≤ 2000)
    (ha : length e.response ≤ 2000) where
  -- nothing is missing from its key and its rand
  laid : record_of e ≡ record_bytes e.key e.rand e.request e.response
  unfolding record_of
  laid =
      ap₂ (λ (k r : List ℕ). record_bytes k r e.request e.response) (full 32 e.key hk) (full 32 e.rand hr)

  pub record-long : length (record_of e) ≡ 4096
  record-long = ap length laid ∙ length-record e.key e.rand e.request e.response hk hr hq ha

  pub record-key : key_in (record_of e) ≡ e.key
  record-key = ap key_in laid ∙ key_reads e.key e.rand e.request e.response hk hr hq ha

  pub record-rand : rand_in (record_of e) ≡ e.rand
  record-rand = ap rand_in laid ∙ rand-reads e.key e.rand e.request e.response hk hr hq ha

  pub record-request : request_packet (record_of e) ≡ e.request
  record-request = ap request_packet laid ∙ request-reads e.key e.rand e.request e.response hk hr hq ha

  pub record-response : response_packet (record_of e) ≡ e.response
  record-response = ap response_packet laid ∙ response-reads e.key e.rand e.request e.response hk hr hq ha

  pub entry-record : entry_of (record_of e) ≡ e
  unfolding entry_of
  entry-record = rw (record-key, record-rand, record-request, record-response) refl

  -- and no byte of the record is damaged
  pub record-good : record_bad (record_of e) ≡ false
  record-good = ap record_bad laid ∙ reads_whole e.key e.rand e.request e.response hk hr hq ha
