-- The records of a text that is read are bytes, whatever the text.
use Prim.Native.Nat.{ℕ, zero, suc, ◌-◌, ◌/◌, ◌<◌}
use mathlib.Core.Path.{◌≡◌, refl}
use mathlib.Core.Bool.{Bool}
use mathlib.Core.List.{List, [], ◌∷◌, ◌++◌}
use native.Mathlib.Omega.{arith}
use lib.ListN.{length, get_or, replicate}
use Rattle.laws.specs.Bytes.{Bytes}
use Rattle.laws.specs.Numbers.{le_bytes}
use Rattle.report_read.specs.Entry.{Entry, Entries, these, unread, entries_of}
use Rattle.report_read.specs.Read.{pile_bytes}
use Rattle.report_read.specs.Record.{record_of, records_of}
use Rattle.pile.specs.Recording.{padded, head_bytes, record_bytes}
use Rattle.report_write.proofs.Again.{text-fine}
use Rattle.report_write.proofs.Round.{Whole, Fine, one_entry, entry-then}

none-bytes : (k : ℕ) → get_or {A = ℕ} [] k 0 < 256
none-bytes zero = omega arith
none-bytes (suc k) = omega arith

pub append-bytes : (s t : List ℕ) → Bytes s → Bytes t → (k : ℕ) → get_or (s ++ t) k 0 < 256
append-bytes [] t a b k = b k
append-bytes (x ∷ s) t a b zero = a zero
append-bytes (x ∷ s) t a b (suc k) = append-bytes s t (λ m. a (suc m)) b k

pub zero-bytes : (n k : ℕ) → get_or (replicate n 0) k 0 < 256
zero-bytes zero k = none-bytes k
zero-bytes (suc n) zero = omega arith
zero-bytes (suc n) (suc k) = zero-bytes n k

number-bytes : (m n k : ℕ) → get_or (le_bytes m n) k 0 < 256
unfolding le_bytes
number-bytes zero n k = none-bytes k
number-bytes (suc m) n zero = omega arith
number-bytes (suc m) n (suc k) = number-bytes m (n / 256) k

-- under a name, so that the lists are found
record AreBytes (s : List ℕ) : Type 0 where
  are : Bytes s

joined : {s t : List ℕ} → AreBytes s → AreBytes t → AreBytes (s ++ t)
joined {s} {t} a b = record { are = append-bytes s t a.are b.are }

zeros : (n : ℕ) → AreBytes (replicate n 0)
zeros n = record { are = zero-bytes n }

number : (m n : ℕ) → AreBytes (le_bytes m n)
number m n = record { are = number-bytes m n }

padded-bytes : (n : ℕ) (x : List ℕ) → Bytes x → AreBytes (padded n x)
unfolding padded
padded-bytes n x b = joined {s = x} (record { are = b }) (zeros (n - length x))

record-bytes : {first : Bool} (e : Entry) → Whole first e → AreBytes (record_of e)
unfolding record_of record_bytes head_bytes
record-bytes e w =
    joined
    (joined
    (joined
    (joined
    (joined (joined (padded-bytes 32 e.key w.key) (padded-bytes 32 e.rand w.rand))
    (number 4 (length e.request)))
    (number 4 (length e.response)))
    (zeros 24))
    (padded-bytes 2000 e.request w.request))
    (padded-bytes 2000 e.response w.response)

records-bytes : {first : Bool} (e : Entry) (es : List Entry) → Fine first e es → AreBytes (records_of (e ∷ es))
unfolding records_of
records-bytes e [] (one_entry w) = joined (record-bytes e w) (record { are = none-bytes })
records-bytes e (f ∷ es) (entry-then w v) = joined (record-bytes e w) (records-bytes f es v)

pub text-bytes : (s : List ℕ) → Bytes (pile_bytes (entries_of s))
unfolding pile_bytes records_of
text-bytes s = by (entries_of s) refl
  where
    by : (x : Entries) → entries_of s ≡ x → Bytes (pile_bytes x)
    by (these []) h = none-bytes
    by (these (e ∷ es)) h = (records-bytes e es (text-fine s e es h)).are
    by unread h = none-bytes
