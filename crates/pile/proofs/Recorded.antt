-- A record that is laid out of its key, its rand and its two packets reads back as just these, and is not damaged; and
-- where it stands in a buffer.
use Prim.Native.Nat.{ℕ, ◌+◌, ◌-◌, ◌*◌, ◌≤◌, ◌<◌}
use mathlib.Core.Path.{◌≡◌, refl, sym, ap, ap₂, ◌∙◌}
use mathlib.Core.Bool.{false, not}
use mathlib.Core.List.{List, [], ◌++◌, append_assoc, append-nil}
use native.Mathlib.Omega.{arith}
use borrow.Author.Tests.{le-ltb}
use lib.ListN.{length, take, drop, replicate, length-append, length-replicate}
use lib.Seq.{take_at, drop_at, take-take, length-take-le}
use Rattle.laws.specs.Numbers.{le_bytes}
use Rattle.laws.specs.Pasted.{part, pasted}
use Rattle.laws.specs.Zeros.{zeros}
use Rattle.laws.proofs.Any.{any-not, any_none}
use Rattle.laws.proofs.Numbers.{length-le_bytes, le-at}
use Rattle.laws.proofs.Pieces.{part_at, drop-take}
use Rattle.laws.proofs.Zeros.{zeros-replicate}
use Rattle.pile.specs.Pile.{record_at, rand_in, request_length, response_length, request_area, response_area}
use Rattle.pile.specs.Pile.{request_packet, response_packet}
use Rattle.pile.specs.Recording.{head_bytes, padded, area_bytes, record_bytes}
use Rattle.pile.specs.Valid.{area_bad, record_bad}
use Rattle.pile.specs.Meaning.{Undamaged}
use Rattle.pile.proofs.Exactly.{undamaged-exactly}

-- ---- how long it is

pub length-heading : (key rand : List ℕ) (n m : ℕ) → length key ≡ 32 → length rand ≡ 32
    → length (head_bytes key rand n m) ≡ 96
unfolding head_bytes
length-heading key rand n m k r = simp (length-append, k, r, length-le_bytes, length-replicate)

pub length-padded : (n : ℕ) (x : List ℕ) → length x ≤ n → length (padded n x) ≡ n
unfolding padded
length-padded n x h = simp (length-append, length-replicate) (omega arith)

pub length-area : (p : List ℕ) → length p ≤ 2000 → length (area_bytes p) ≡ 2000
length-area p h = length-padded 2000 p h

-- ---- what stands in it

-- an area that holds a packet and then zeros
area-good : (p : List ℕ) → length p ≤ 2000 → area_bad (area_bytes p) (length p) ≡ false
unfolding area_bad padded
area-good p h =
    any-not _ (le-ltb 2000 (length p) h)
    (any-not _
    (ap not (ap zeros (drop_at p (replicate (2000 - length p) 0) (length p) refl) ∙ zeros-replicate (2000 - length p)))
    any_none)

area-front : (p : List ℕ) → take (length p) (area_bytes p) ≡ p
unfolding padded
area-front p = take_at p (replicate (2000 - length p) 0) (length p) refl

module _
    (key rand q x : List ℕ) (k32 : length key ≡ 32) (r32 : length rand ≡ 32) (q-fits : length q ≤ 2000)
    (x_Fits : length x ≤ 2000) where
  abbrev r : List ℕ
  r = record_bytes key rand q x

  abbrev q-length : List ℕ
  q-length = le_bytes 4 (length q)

  abbrev x-length : List ℕ
  x-length = le_bytes 4 (length x)

  abbrev gap : List ℕ
  gap = replicate 24 0

  abbrev areas : List ℕ
  areas = area_bytes q ++ area_bytes x

  -- each piece, and what is behind it, to the right
  flat : r ≡ key ++ (rand ++ (q-length ++ (x-length ++ (gap ++ areas))))
  unfolding head_bytes record_bytes
  flat = simp append_assoc

  pub length-record : length (record_bytes key rand q x) ≡ 4096
  unfolding record_bytes
  length-record =
      let h = length-heading key rand (length q) (length x) k32 r32 in
      simp (length-append, h, length-area q q-fits, length-area x x_Fits)

  pub key_reads : take 32 (record_bytes key rand q x) ≡ key
  key_reads = ap (take 32) flat ∙ take_at key _ 32 k32

  pub rand-reads : rand_in (record_bytes key rand q x) ≡ rand
  rand-reads = part_at key rand _ 32 64 flat k32 (omega arith)

  request-counts : request_length r ≡ length q
  request-counts =
      le-at 4 (key ++ rand) (x-length ++ (gap ++ areas)) 64 (length q) (flat ∙ sym (append_assoc key rand _))
      (simp (length-append, k32, r32)) (omega arith)

  response-counts : response_length r ≡ length x
  response-counts =
      le-at 4 (key ++ (rand ++ q-length)) (gap ++ areas) 68 (length x) (flat ∙ simp append_assoc)
      (simp (length-append, k32, r32, length-le_bytes)) (omega arith)

  gap-reads : part 72 96 r ≡ gap
  gap-reads =
      part_at (key ++ (rand ++ (q-length ++ x-length))) gap areas 72 96 (flat ∙ simp append_assoc)
      (simp (length-append, k32, r32, length-le_bytes)) refl

  request-area : request_area r ≡ area_bytes q
  request-area =
      part_at (key ++ (rand ++ (q-length ++ (x-length ++ gap)))) (area_bytes q) (area_bytes x) 96 2096
      (flat ∙ simp append_assoc) (simp (length-append, k32, r32, length-le_bytes, length-replicate))
      (simp (length-area q q-fits))

  response-area : response_area r ≡ area_bytes x
  response-area =
      part_at (key ++ (rand ++ (q-length ++ (x-length ++ (gap ++ area_bytes q))))) (area_bytes x) [] 2096 4096
      (flat ∙ simp (append_assoc, append-nil))
      (simp (length-append, k32, r32, length-le_bytes, length-area q q-fits))
      (simp (length-area x x_Fits))

  pub request-reads : request_packet (record_bytes key rand q x) ≡ q
  unfolding request_packet
  request-reads = ap₂ take request-counts request-area ∙ area-front q

  pub response-reads : response_packet (record_bytes key rand q x) ≡ x
  unfolding response_packet
  response-reads = ap₂ take response-counts response-area ∙ area-front x

  pub reads_whole : record_bad (record_bytes key rand q x) ≡ false
  unfolding record_bad
  reads_whole =
      any-not _ (ap₂ area_bad request-area request-counts ∙ area-good q q-fits)
      (any-not _ (ap₂ area_bad response-area response-counts ∙ area-good x x_Fits)
      (any-not _ (ap not (ap zeros gap-reads ∙ zeros-replicate 24)) any_none))

  pub reads-undamaged : Undamaged (record_bytes key rand q x)
  reads-undamaged = (undamaged-exactly (record_bytes key rand q x)).0 reads_whole

-- ---- records of a buffer

-- record k of the first n bytes
pub record-front : (l : List ℕ) (n k : ℕ) → 4096 * k + 4096 ≤ n → record_at (take n l) k ≡ record_at l k
unfolding record_at
record-front l n k h =
    let e : n ≡ 4096 * k + (n - 4096 * k) = omega arith in
    ap (λ (x : ℕ). take 4096 (drop (4096 * k) (take x l))) e
    ∙ ap (take 4096) (drop-take (4096 * k) (n - 4096 * k) l)
    ∙ take-take 4096 (n - 4096 * k) (drop (4096 * k) l) (omega arith)

-- a record that is put in the place of record s
module _ (b r : List ℕ) (s : ℕ) (room : 4096 * s ≤ length b) where
  front-stays : take (4096 * s) (pasted b (4096 * s) r) ≡ take (4096 * s) b
  unfolding pasted
  front-stays = take_at (take (4096 * s) b) _ (4096 * s) (length-take-le (4096 * s) b room)

  -- those before it stay,
  pub record-before : (k : ℕ) → k < s → record_at (pasted b (4096 * s) r) k ≡ record_at b k
  record-before k h =
      sym (record-front (pasted b (4096 * s) r) (4096 * s) k (omega arith))
      ∙ ap (λ (l : List ℕ). record_at l k) front-stays
      ∙ record-front b (4096 * s) k (omega arith)

  -- and it stands in its place
  pub record-here : length r ≡ 4096 → record_at (pasted b (4096 * s) r) s ≡ r
  unfolding pasted record_at
  record-here n =
      ap (take 4096) (drop_at (take (4096 * s) b) _ (4096 * s) (length-take-le (4096 * s) b room))
      ∙ take_at r _ 4096 n
