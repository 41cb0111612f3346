-- Laws for the loop that writes the records, and for the reader's returns.
use Rattle.std.specs.Prelude.{Err, Ok}
use Prim.Native.Nat.{ℕ, zero, suc, ◌+◌, ◌*◌, ◌≤◌, ◌<◌}
use mathlib.Core.Path.{◌≡◌, refl, sym, ◌∙◌, ap}
use mathlib.Core.Bool.{Bool, true, false}
use mathlib.Core.List.{List, [], ◌∷◌, ◌++◌}
use native.Mathlib.Omega.{arith}
use native.Mathlib.Numerals.{add-one}
use lib.Dec.{eqb}
use lib.ListN.{length, get_or, drop, length-append, length-replicate, drop_of_length-le}
use lib.Seq.{drop-cons}
use borrow.Author.Tests.{eqb-true, ne_eqb, lt-ltb, le-ltb, ltb-false}
use Rattle.laws.specs.Pick.{pick, either}
use Rattle.laws.specs.Pasted.{pasted, fronted}
use Rattle.laws.specs.Written.{written}
use Rattle.laws.proofs.Picks.{hit, miss, hit-eq, miss-eq}
use Rattle.laws.proofs.Filled.{Filled, filled-first, filled_next, filled-fit, filled-last}
use Rattle.json_tokens.proofs.Picks.{inside}
use Rattle.base64_strict.specs.Decode.{Decoded, bytes, none}
use Rattle.refusal.specs.Refusal.{refusal}
use Rattle.report_read.specs.declared.Spot.{Spot}
use Rattle.pile.specs.Layout.{RECORD}
use Rattle.report_read.specs.Entry.{member_of, held, is32, rand_good, has_all, entry_at, all_of}
use Rattle.report_read.specs.Entry.{entries_at, unread, entries_of, rand_name}
use Rattle.report_read.specs.Record.{record_of, records_of}
use Rattle.report_read.specs.Read.{is_big, any_big, read_of, pile_bytes}
use Rattle.report_read.specs.Ready.{Ready, Writable, Told, spot_in}
use Rattle.report_read.proofs.Elements.{both_left, both_right, neither_left, neither_right}
use Rattle.report_read.proofs.Areas.{record-length}

held-32 : (d : Decoded) → is32 d ≡ true → length (held d) ≤ 32
unfolding is32 held
held-32 (bytes x) e = omega (arith, eqb-true (length x) 32 e)
held-32 none e = omega arith

rand-32 : (s : List ℕ) (first : Bool) (k : ℕ) → rand_good s first k ≡ true → length (entry_at s first k).rand ≤ 32
unfolding rand_good either entry_at pick
rand-32 s true k e = omega (arith, length-replicate {A = ℕ} 32 0)
rand-32 s false k e = held-32 (member_of s k rand_name) e

pub ready : (s : List ℕ) (first : Bool) (k : ℕ) → has_all s first k ≡ true → is_big (entry_at s first k) ≡ false
    → Ready s first k
unfolding has_all is_big entry_at
ready s first k e b =
    let e₁ = both_right _ _ e in
    let e₂ = both_right _ _ e₁ in
    record {
      inside = inside s refl (eqb-true _ _ (both_left _ _ e)) tt;
      key = held-32 _ (both_left _ _ e₂);
      rand = rand-32 s first k (both_left _ _ e₁);
      request = ltb-false _ _ (neither_left _ _ b);
      response = ltb-false _ _ (neither_right _ _ b);
    }

-- the length of all records
pub records-length : (s : List ℕ) (first : Bool) (ks : List ℕ) → all_of s first ks ≡ true
    → any_big (entries_at s first ks) ≡ false → length (records_of (entries_at s first ks)) ≡ length ks * RECORD
unfolding all_of any_big entries_at records_of
records-length s first [] a b = refl
records-length s first (k ∷ ks) a b =
    length-append (record_of (entry_at s first k)) (records_of (entries_at s false ks))
    ∙ omega (
      arith,
      record-length (ready s first k (both_left _ _ a) (neither_left _ _ b)),
      records-length s false ks (both_right _ _ a) (neither_right _ _ b),
    )

-- ---- The i-th element of a list of entries.
later-all : (s : List ℕ) (ks : List ℕ) (i : ℕ) → all_of s false ks ≡ true → i < length ks → has_all s false (get_or ks i 0) ≡ true
unfolding all_of
later-all s [] i a h = absurd (omega arith)
later-all s (k ∷ ks) zero a h = both_left _ _ a
later-all s (k ∷ ks) (suc i) a h = later-all s ks i (both_right _ _ a) (omega arith)

all-at : (s : List ℕ) (ks : List ℕ) (i : ℕ) → all_of s true ks ≡ true → i < length ks → has_all s (eqb i 0) (get_or ks i 0) ≡ true
unfolding all_of
all-at s [] i a h = absurd (omega arith)
all-at s (k ∷ ks) zero a h = both_left _ _ a
all-at s (k ∷ ks) (suc i) a h = rw (ne_eqb (suc i) 0 (λ q. omega arith)) (later-all s ks i (both_right _ _ a) (omega arith))

later-small : (s : List ℕ) (ks : List ℕ) (i : ℕ) → any_big (entries_at s false ks) ≡ false → i < length ks
    → is_big (entry_at s false (get_or ks i 0)) ≡ false
unfolding any_big entries_at
later-small s [] i a h = absurd (omega arith)
later-small s (k ∷ ks) zero a h = neither_left _ _ a
later-small s (k ∷ ks) (suc i) a h = later-small s ks i (neither_right _ _ a) (omega arith)

small_at : (s : List ℕ) (ks : List ℕ) (i : ℕ) → any_big (entries_at s true ks) ≡ false → i < length ks
    → is_big (entry_at s (eqb i 0) (get_or ks i 0)) ≡ false
unfolding any_big entries_at
small_at s [] i a h = absurd (omega arith)
small_at s (k ∷ ks) zero a h = neither_left _ _ a
small_at s (k ∷ ks) (suc i) a h = rw (ne_eqb (suc i) 0 (λ q. omega arith)) (later-small s ks i (neither_right _ _ a) (omega arith))

-- ---- The state of the writer before the i-th record.
pub record Laying (s ks was : List ℕ) (i : ℕ) (out : List ℕ) : Type 0 where
  pub filled : Filled (records_of (entries_at s true ks)) (records_of (entries_at s (eqb i 0) (drop i ks))) was (i * RECORD) out

module _ {s : List ℕ} {n : ℕ} {es : List Spot} (t : Told s n false es) where
  pub told-length : length (records_of (entries_at s true t.places)) ≡ n * RECORD
  told-length = records-length s true t.places t.all (sym t.keeps.weighed) ∙ ap (λ m. m * RECORD) (sym t.keeps.count)

  pub laying-first : {out : List ℕ} → n * RECORD ≤ length out → Laying s t.places out 0 out
  laying-first l = record { filled = filled-first _ _ (omega (arith, told-length)) }

  module _ {was out : List ℕ} {i : ℕ} (l : Laying s t.places was i out) where
    pub laying-done : n ≤ i → out ≡ fronted (pile_bytes (entries_of s)) was
    unfolding pile_bytes records_of entries_at
    laying-done h =
        let g : length t.places ≤ i = omega (arith, t.keeps.count) in
        rw t.entries (filled-last (rw (drop_of_length-le t.places g) at l.filled))

    module _ (h : i < n) (g : i < 16) where
      inside-places : i < length t.places
      inside-places = omega (arith, t.keeps.count)

      pub laying-writable : Writable s (eqb i 0) (spot_in es i)
      laying-writable =
          let k = t.keeps.spots i h g in
          let a : has_all s (eqb i 0) (spot_in es i).at ≡ true = rw k.0 (all-at s t.places i t.all inside-places) in
          record {
            ready = ready s (eqb i 0) (spot_in es i).at a (rw k.0 (small_at s t.places i (sym t.keeps.weighed) inside-places));
            all = a;
            spot = k.1;
          }

      part : records_of (entries_at s (eqb i 0) (drop i t.places))
          ≡ record_of (entry_at s (eqb i 0) (spot_in es i).at) ++ records_of (entries_at s false (drop (suc i) t.places))
      unfolding records_of entries_at
      part = rw (drop-cons t.places i 0 inside-places, sym (t.keeps.spots i h g).0) refl

      pub laying-fit : i * RECORD + RECORD ≤ length out
      laying-fit =
          omega (
            arith,
            record-length laying-writable.ready,
            filled-fit (record_of (entry_at s (eqb i 0) (spot_in es i).at)) _ l.filled part,
          )

      pub laying-on : {to : List ℕ} → to ≡ pasted out (i * RECORD) (record_of (entry_at s (eqb i 0) (spot_in es i).at))
          → Laying s t.places was (i + 1) to
      laying-on w =
          let f = filled_next (record_of (entry_at s (eqb i 0) (spot_in es i).at)) _ l.filled part w in
          let q : i * RECORD + length (record_of (entry_at s (eqb i 0) (spot_in es i).at)) ≡ (i + 1) * RECORD =
          omega (arith, record-length laying-writable.ready) in
          record { filled = rw (ne_eqb (i + 1) 0 (λ z. omega arith), add-one i) (rw (add-one i) at (rw q at f)) }

-- the same with what is known of the text
pub record Lays (s : List ℕ) (n : ℕ) (es : List Spot) (was : List ℕ) (i : ℕ) (out : List ℕ) : Type 0 where
  pub told : Told s n false es
  pub laying : Laying s told.places was i out

entries-length : (s : List ℕ) (first : Bool) (ks : List ℕ) → length (entries_at s first ks) ≡ length ks
unfolding entries_at
entries-length s first [] = refl
entries-length s first (k ∷ ks) = ap suc (entries-length s false ks)

-- ---- The reader's returns.
pub read_none : (s out : List ℕ) → entries_of s ≡ unread
    → (Err (refusal 24) ≡ read_of (entries_of s) (length out)) × (out ≡ written 24 (pile_bytes (entries_of s)) out)
unfolding read_of pile_bytes
read_none s out e = rw e (refl, refl)

module _ {s : List ℕ} {n : ℕ} {b : Bool} {es : List Spot} (out : List ℕ) (t : Told s n b es) where
  many : n ≡ length (entries_at s true t.places)
  many = t.keeps.count ∙ sym (entries-length s true t.places)

  pub read-few : n ≡ 0
      → (Err (refusal 25) ≡ read_of (entries_of s) (length out)) × (out ≡ written 25 (pile_bytes (entries_of s)) out)
  unfolding read_of pile_bytes
  read-few z = rw t.entries (hit-eq _ many z refl, refl)

  module _ (z : n ≡ 0 → ⊥) where
    pub read-many : 16 < n
        → (Err (refusal 25) ≡ read_of (entries_of s) (length out)) × (out ≡ written 25 (pile_bytes (entries_of s)) out)
    unfolding read_of pile_bytes
    read-many m =
        rw t.entries (
          miss-eq _ many z (hit _ refl (lt-ltb 16 (length (entries_at s true t.places)) (omega (arith, many))) refl),
          refl,
        )

    module _ (m : n ≤ 16) where
      pub read-big : b ≡ true
          → (Err (refusal 25) ≡ read_of (entries_of s) (length out)) × (out ≡ written 25 (pile_bytes (entries_of s)) out)
      unfolding read_of pile_bytes
      read-big i =
          rw t.entries (
            miss-eq _ many z
                (miss _ refl (le-ltb 16 (length (entries_at s true t.places)) (omega (arith, many)))
                (hit _ t.keeps.weighed i refl)),
            refl,
          )

      pub read_short : b ≡ false → length out < n * RECORD
          → (Err (refusal 19) ≡ read_of (entries_of s) (length out)) × (out ≡ written 19 (pile_bytes (entries_of s)) out)
      unfolding read_of pile_bytes
      read_short i l =
          rw t.entries (
            miss-eq _ many z
                (miss _ refl (le-ltb 16 (length (entries_at s true t.places)) (omega (arith, many)))
                (miss _ t.keeps.weighed i
                (hit _ refl (lt-ltb (length out) (length (entries_at s true t.places) * RECORD) (omega (arith, many)))
                refl))),
            refl,
          )

      pub read_done : {to : List ℕ} → b ≡ false → n * RECORD ≤ length out → to ≡ fronted (pile_bytes (entries_of s)) out
          → (Ok n ≡ read_of (entries_of s) (length out)) × (to ≡ written 0 (pile_bytes (entries_of s)) out)
      unfolding read_of
      read_done i l q = (
        rw t.entries (miss-eq _ many z
            (miss _ refl (le-ltb 16 (length (entries_at s true t.places)) (omega (arith, many)))
            (miss _ t.keeps.weighed i
            (miss _ refl (le-ltb (length out) (length (entries_at s true t.places) * RECORD) (omega (arith, many)))
            (ap Ok many))))),
        q,
      )

-- where no packet is too long
pub told-small : {s : List ℕ} {n : ℕ} {b : Bool} {es : List Spot} → Told s n b es → b ≡ false → Told s n false es
told-small t h = rw h at t
