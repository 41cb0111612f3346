-- Who is left out of a batch, though meant for the server, and why: with each number of siblings for which the packet
-- has room, those that have room for as many make a deeper tree. And who cannot be answered disturbs nobody: whatever
-- stands in the place of packets that are not meant for the server, or too short for the shortest answer, the others
-- are answered as they were.
use mathlib.Core.Bool.{Bool, true, false, cond, ◌&&◌, true≢false}
use mathlib.Core.List.{List, [], ◌∷◌, ◌++◌}
use mathlib.Core.Path.{◌≡◌, refl, sym, ap, ap₂, ◌∙◌}
use Prim.Native.Nat.{ℕ, zero, suc, ◌+◌, ◌*◌, ◌≤◌, ◌<◌}
use native.Mathlib.Nat.{le_antisymm}
use native.Mathlib.Omega.{arith}
use borrow.Author.Tests.{le-leb, leb-true, leb-false}
use lib.Dec.{leb}
use lib.ListN.{length}
use Rattle.laws.specs.Least.{least}
use Rattle.laws.proofs.Holds.{both, fails-exactly}
use Rattle.laws.proofs.Least.{least-le, least-none, least_first, least-same}
use Rattle.laws.proofs.Split.{split}
use Rattle.hash.specs.Hashes.{leaf_of}
use Rattle.tree.specs.Tree.{depth_of, root_of}
use Rattle.server_batch.specs.Answering.{signature_over}
use Rattle.server_batch.specs.Batch.{Batch, count, size_at, packet_at, meant_at, answered_at, enough_with, longest, answers}
use Rattle.server_batch.specs.Batch.{leaves, root_in, answer_at}
use Rattle.server_batch.specs.Picking.{how_many, picked}
use Rattle.server_batch.proofs.Batched.{many-same}
use Rattle.server_batch_laws.specs.Call.{Call, least_of, answered, answer}
use Rattle.server_batch_laws.specs.Claims.{Agree}

-- ---- Who is left out

-- before the first place at which a test holds, it fails
before-least : (p : ℕ → Bool) (n d : ℕ) → d < least p n → p d ≡ false
before-least p n d h =
    split n (least p n)
    (λ g. least-none p n d (le_antisymm (least-le p n) g) (omega (arith, least-le p n)))
    (λ g. (fails-exactly _).1 ((least_first p n refl g).earlier d h))

-- A packet that is meant for the server and not answered, with room for d siblings: the packets with room for as many
-- are too many for d.
module _ (c : Call) (i d : ℕ) (meant : meant_at c.batch i ≡ true) (fails : answered c i ≡ false)
    (room : 264 + 32 * d + length c.cert ≤ size_at c.batch i) where
  shorter : size_at c.batch i < least_of c
  unfolding answered_at
  shorter = leb-false (least_of c) (size_at c.batch i) (sym (rw meant) ∙ fails)

  fewer : d < least (enough_with c.batch (length c.cert)) (depth_of (count c.batch))
  unfolding longest
  fewer = omega (arith, shorter, room)

  pub left_out : d < depth_of (answers c.batch (264 + 32 * d + length c.cert))
  unfolding enough_with
  left_out =
      let enough = enough_with c.batch (length c.cert) in
      leb-false _ d (before-least enough (depth_of (count c.batch)) d fewer)

-- ---- Who is not disturbed

-- what is long enough for more is long enough
able-still : (b : Batch) (s m i : ℕ) → s ≤ m → answered_at b s i ≡ false → answered_at b m i ≡ false
unfolding answered_at
able-still b s m i h fails = by (meant_at b i && leb m (size_at b i)) refl
  where
    by : (t : Bool) → (meant_at b i && leb m (size_at b i)) ≡ t → t ≡ false
    by false e = refl
    by true e =
        let parts = both (meant_at b i) (leb m (size_at b i)) e in
        let long : s ≤ size_at b i = omega (arith, leb-true m (size_at b i) parts.1) in
        absurd (true≢false (sym (rw (parts.0, le-leb s (size_at b i) long)) ∙ fails))

-- tests that agree, and what is picked by them
picked-alike : (p q : ℕ → Bool) (f g : ℕ → List ℕ) → ((i : ℕ) → p i ≡ q i) → ((i : ℕ) → p i ≡ true → f i ≡ g i)
    → (n : ℕ) → picked p f n ≡ picked q g n
unfolding picked
picked-alike p q f g same is zero = refl
picked-alike p q f g same is (suc n) =
    ap₂ (λ (t : Bool) (l : List (List ℕ)). cond t (l ++ (f n ∷ [])) l) (same n) (picked-alike p q f g same is n)
    ∙ here (q n) (picked q g n) (λ e. is n (same n ∙ e))
  where
    here : (t : Bool) (l : List (List ℕ)) → (t ≡ true → f n ≡ g n) → cond t (l ++ (f n ∷ [])) l ≡ cond t
        (l ++ (g n ∷ [])) l
    here true l e = ap (λ (x : List ℕ). l ++ (x ∷ [])) (e refl)
    here false l e = refl

module _ (b d : Batch) (s : ℕ) (agree : Agree b d s) where
  -- so they agree on who is answered, whatever more is asked,
  module _ (m : ℕ) (more : s ≤ m) where
    at_same : (i : ℕ) → answered_at b m i ≡ answered_at d m i
    unfolding answered_at
    at_same i = by (answered_at b s i) refl
      where
        by : (t : Bool) → answered_at b s i ≡ t
            → (meant_at b i && leb m (size_at b i)) ≡ (meant_at d i && leb m (size_at d i))
        by true e =
            let mine = both (meant_at b i) (leb s (size_at b i)) e in
            let other = both (meant_at d i) (leb s (size_at d i)) (sym (agree.able i) ∙ e) in
            rw (mine.0, other.0, agree.sizes i e)
        by false e = able-still b s m i more e ∙ sym (able-still d s m i more (sym (agree.able i) ∙ e))

    places_same : (n : ℕ) → how_many (answered_at b m) n ≡ how_many (answered_at d m) n
    places_same n = many-same (answered_at b m) (answered_at d m) n (λ i h. at_same i)

    answers-same : answers b m ≡ answers d m
    answers-same = places_same (count b) ∙ ap (how_many (answered_at d m)) agree.many

    packet-same : (i : ℕ) → answered_at b m i ≡ true → packet_at b i ≡ packet_at d i
    packet-same i e = agree.packets i (able (answered_at b s i) refl)
      where
        able : (t : Bool) → answered_at b s i ≡ t → t ≡ true
        able true q = refl
        able false q = sym (able-still b s m i more q) ∙ e

    leaves-same : leaves b m ≡ leaves d m
    leaves-same =
        picked-alike (answered_at b m) (answered_at d m) (λ i. leaf_of (packet_at b i)) (λ i. leaf_of (packet_at d i)) at_same
        (λ i e. ap leaf_of (packet-same i e)) (count b)
        ∙ ap (picked (answered_at d m) (λ i. leaf_of (packet_at d i))) agree.many

    root-same : root_in b m ≡ root_in d m
    root-same = ap₂ (λ (xs : List (List ℕ)) (n : ℕ). root_of xs (depth_of n)) leaves-same answers-same

    -- and on the answers
    answer-same : (i midp radi : ℕ) (cert seed : List ℕ) → answered_at b m i ≡ true
        → answer_at b m midp radi cert (signature_over seed (root_in b m) midp radi) i ≡ answer_at d m midp radi cert
        (signature_over seed (root_in d m) midp radi) i
    unfolding answer_at
    answer-same i midp radi cert seed e =
        rw (packet-same i e, places_same i, root-same, leaves-same, answers-same)

  longest-agrees : (c : ℕ) → s ≡ 264 + c → longest b c ≡ longest d c
  unfolding longest enough_with
  longest-agrees c e =
      ap (λ (k : ℕ). 264 + 32 * k + c)
      (least-same (enough_with b c) (enough_with d c) (depth_of (count b))
      (λ k h. ap (λ (n : ℕ). leb (depth_of n) k) (answers-same (264 + 32 * k + c) (omega arith)))
      ∙ ap (λ (n : ℕ). least (enough_with d c) (depth_of n)) agree.many)

  least_more : (c : ℕ) → s ≡ 264 + c → s ≤ longest d c
  unfolding longest
  least_more c e = omega arith

-- Two calls by the same keys and time, whose batches agree on the packets that are meant for the server and not shorter
-- than the shortest answer: the same packets are answered, and with the same bytes.
pub undisturbed : (c d : Call) → c.cert ≡ d.cert → c.seed ≡ d.seed → c.midp ≡ d.midp → c.radi ≡ d.radi
    → Agree c.batch d.batch (264 + length c.cert) → (i : ℕ)
    → (answered c i ≡ answered d i) × (answered c i ≡ true → answer c i ≡ answer d i)
undisturbed c d cert seed midp radi agree i =
    let n = length c.cert in
    let least-is : least_of c ≡ least_of d =
    longest-agrees c.batch d.batch (264 + n) agree n refl
    ∙ ap (λ (l : List ℕ). longest d.batch (length l)) cert in
    let more : 264 + n ≤ least_of d =
    rw (← cert) (least_more c.batch d.batch (264 + n) agree n refl) in
    let same = at_same c.batch d.batch (264 + n) agree (least_of d) more in
    let whole = answer-same c.batch d.batch (264 + n) agree (least_of d) more i d.midp d.radi d.cert
    d.seed in (
      ap (λ (m : ℕ). answered_at c.batch m i) least-is ∙ same i,
      λ e. rw (least-is, cert, seed, midp, radi) (whole (ap (λ (m : ℕ). answered_at c.batch m i) (sym least-is) ∙ e)),
    )
