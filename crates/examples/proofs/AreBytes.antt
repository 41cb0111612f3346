-- Lists whose numbers are bytes: those that a test passes, numbers as they are written, hashes, and messages and
-- packets of bytes.
use mathlib.Core.Bool.{Bool, true, ◌&&◌}
use mathlib.Core.List.{List, [], ◌∷◌, ◌++◌}
use Prim.Native.Nat.{ℕ, zero, suc, ◌/◌, ◌<◌}
use native.Mathlib.Omega.{arith}
use lib.Dec.{T, ltb, ltb→lt}
use lib.ListN.{length, replicate}
use mir.Facts.{and_yes}
use Rattle.laws.specs.Bytes.{Bytes}
use Rattle.laws.specs.Numbers.{le_bytes, be_bytes}
use Rattle.laws.proofs.Bytes.{bytes_take}
use Rattle.sha512.specs.Computation.{digest, Sha512}
use Rattle.hash.specs.Hashes.{H32, leaf_of, link_of}
use Rattle.wire_message.specs.Encode.{Field, words, values, encode}
use Rattle.wire_packet.specs.Packet.{mark, packet_of}

-- the fact as a record, so that antt finds the list
pub record AreBytes (s : List ℕ) : Type 0 where
  pub each : Bytes s

pub bytes-none : AreBytes []
bytes-none = record { each = λ k. omega arith }

bytes-cons : {x : ℕ} {s : List ℕ} → x < 256 → AreBytes s → AreBytes (x ∷ s)
bytes-cons {x} {s} h b = record { each = at }
  where
    at : Bytes (x ∷ s)
    at zero = h
    at (suc k) = b.each k

pub bytes-append : {s t : List ℕ} → AreBytes s → AreBytes t → AreBytes (s ++ t)
bytes-append {s} {t} a b = go s a
  where
    go : (u : List ℕ) → AreBytes u → AreBytes (u ++ t)
    go [] a = b
    go (x ∷ u) a = bytes-cons (a.each 0) (go u (record { each = λ k. a.each (suc k) }))

-- a test that computes
abbrev all_small : List ℕ → Bool
all_small [] = true
all_small (x ∷ s) = ltb x 256 && all_small s

pub bytes-test : (s : List ℕ) → T (all_small s) → AreBytes s
bytes-test [] t = bytes-none
bytes-test (x ∷ s) t =
    let u = and_yes (ltb x 256) (all_small s) t in
    bytes-cons (ltb→lt x 256 u.0) (bytes-test s u.1)

pub bytes-zeros : (n : ℕ) → AreBytes (replicate n 0)
bytes-zeros zero = bytes-none
bytes-zeros (suc n) = bytes-cons (omega arith) (bytes-zeros n)

-- ---- numbers

pub bytes_le : (k n : ℕ) → AreBytes (le_bytes k n)
unfolding le_bytes
bytes_le zero n = bytes-none
bytes_le (suc k) n = bytes-cons (omega arith) (bytes_le k (n / 256))

bytes-be : (k n : ℕ) → AreBytes (be_bytes k n)
unfolding be_bytes
bytes-be zero n = bytes-none
bytes-be (suc k) n = bytes-cons (omega arith) (bytes-be k n)

-- ---- hashes

bytes-digest : (h : List ℕ) → AreBytes (digest h)
unfolding digest
bytes-digest [] = bytes-none
bytes-digest (x ∷ h) = bytes-append (bytes-be 8 x) (bytes-digest h)

bytes-H32 : (m : List ℕ) → AreBytes (H32 m)
unfolding H32 Sha512
bytes-H32 m = record { each = bytes_take (Sha512 m) (bytes-digest _).each 32 }

pub bytes-leaf : (packet : List ℕ) → AreBytes (leaf_of packet)
unfolding leaf_of
bytes-leaf packet = bytes-H32 _

pub bytes_link : (response rand : List ℕ) → AreBytes (link_of response rand)
unfolding link_of
bytes_link response rand = bytes-H32 _

-- ---- messages and packets

bytes-words : (xs : List ℕ) → AreBytes (words xs)
unfolding words
bytes-words [] = bytes-none
bytes-words (x ∷ xs) = bytes-append (bytes_le 4 x) (bytes-words xs)

-- each value is bytes
abbrev pub ValuesAre : List Field → Type 0
ValuesAre [] = Unit {0}
ValuesAre (f ∷ fs) = AreBytes f.value × ValuesAre fs

bytes-values : (fs : List Field) → ValuesAre fs → AreBytes (values fs)
unfolding values
bytes-values [] b = bytes-none
bytes-values (f ∷ fs) b = bytes-append b.0 (bytes-values fs b.1)

pub bytes-encode : (fs : List Field) → ValuesAre fs → AreBytes (encode fs)
unfolding encode
bytes-encode fs b = bytes-append (bytes-words _) (bytes-values fs b)

pub bytes-packet : (m : List ℕ) → AreBytes m → AreBytes (packet_of m)
unfolding packet_of
bytes-packet m b = bytes-append (bytes-test mark tt) (bytes-append (bytes_le 4 (length m)) b)
