-- What the loop keeps that puts leaves, and the laws of its turns.
use mathlib.Core.Bool.{Bool, true, false}
use mathlib.Core.List.{List}
use mathlib.Core.Path.{◌≡◌, refl, sym, ◌∙◌}
use Prim.Native.Nat.{ℕ, ◌+◌, ◌*◌, ◌≤◌, ◌<◌}
use native.Mathlib.Omega.{arith}
use lib.ListN.{length}
use Rattle.laws.specs.Flat.{flat}
use Rattle.laws.specs.Pasted.{pasted}
use Rattle.laws.proofs.Written.{puts_none, puts_one, puts-more, puts-as, puts-length}
use Rattle.server_batch.specs.Picking.{how_many, picked}
use Rattle.server_batch.specs.Steps.{PutLeaf, PutLeaves}
use Rattle.server_batch.proofs.Picked.{more-mark, many-of, picked-flat}

-- ---- One packet

module _ {stays t : Bool} (is : t ≡ stays) (leaf : List ℕ) {o : List ℕ} (k : ℕ) where
  pub leaf-put : {out : List ℕ} → t ≡ true → length leaf ≡ 32 → out ≡ pasted o (32 * k) leaf → 32 * k + 32 ≤ length o
      → PutLeaf stays leaf o k out (k + 1)
  leaf-put holds long e room =
      let q : stays ≡ true = sym is ∙ holds in
      rw q (record { next = refl; puts = puts_one leaf (32 * (k + 1)) e (omega arith) (omega arith) })

  pub leaf-left : t ≡ false → 32 * k ≤ length o → PutLeaf stays leaf o k o k
  leaf-left fails room =
      let q : stays ≡ false = sym is ∙ fails in
      rw q (record { next = omega arith; puts = puts_none o (32 * k) room })

-- ---- One after the other

module _ (stays : ℕ → Bool) (leaf : ℕ → List ℕ) (o : List ℕ) where
  pub leaves-first : PutLeaves stays leaf 0 o o 0
  unfolding how_many picked flat
  leaves-first = record { many = refl; puts = puts_none o 0 (omega arith) }

  module _ (n : ℕ) {k : ℕ} {b : List ℕ} (t : PutLeaves stays leaf n o b k) where
    pub leaves-length : length b ≡ length o
    leaves-length = puts-length t.puts

    pub leaves-room : n < length o → 32 * (n + 1) ≤ length o → 32 * k + 32 ≤ length b
    leaves-room h g = omega (arith, many-of stays n t.many, leaves-length)

    pub leaves-next : {r : ℕ} {c : List ℕ} → PutLeaf (stays n) (leaf n) b k c r → PutLeaves stays leaf (n + 1) o c r
    leaves-next s =
        record {
          many = s.next ∙ more-mark stays n t.many refl;
          puts = puts-as (picked-flat stays leaf n) (puts-more t.puts s.puts);
        }
