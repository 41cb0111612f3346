-- Each contract settles its result, and what is left in the lent buffer.
use mathlib.Core.Path.{refl, sym, ap, ◌∙◌}
use mathlib.Core.List.{List}
use Prim.Native.Nat.{ℕ}
use Rattle.laws.proofs.Once.{Settles}
use Rattle.base64_strict.proofs.decoding.group_of.Kinds as group-of-kinds
use Rattle.base64_strict.proofs.decoding.group_of.Reads as group-of-reads
use Rattle.base64_strict.proofs.letters.is_letter.Kinds as is-letter-kinds
use Rattle.base64_strict.proofs.letters.is_letter.Reads as is-letter-reads
use Rattle.std.specs.Prelude.{None, Option, Some}
use Rattle.base64_strict.specs.declared.Group.{Group}
use Rattle.base64_strict.specs.declared.Group.TheVariants.{Three, Two, One}
use Rattle.base64_strict.proofs.letters.three_of.Kinds as three-of-kinds
use Rattle.base64_strict.proofs.letters.three_of.Reads as three-of-reads
use Rattle.base64_strict.proofs.encoding.encode.Kinds as encode-kinds
use Rattle.base64_strict.proofs.encoding.encode.Reads as encode-reads

pub group-of-once : Settles group-of-kinds.ps group-of-kinds.r group-of-reads.Learnt
group-of-once κs a x u y v p q = (p ∙ sym q, refl)

pub is-letter-once : Settles is-letter-kinds.ps is-letter-kinds.r is-letter-reads.Learnt
is-letter-once κs a x u y v p q = (p ∙ sym q, refl)

-- the bytes of a group of three
three : Option Group → ℕ × ℕ × ℕ
three (Some (Three x y z)) = (x, y, z)
three (Some (Two x y)) = (0, 0, 0)
three (Some (One x)) = (0, 0, 0)
three None = (0, 0, 0)

pub three-of-once : Settles three-of-kinds.ps three-of-kinds.r three-of-reads.Learnt
unfolding three
three-of-once κs a x u y v p q = (ap three (p ∙ sym q), refl)

pub encode-once : Settles encode-kinds.ps encode-kinds.r encode-reads.Learnt
encode-once κs a x u y v p q = (refl, ap (λ (out : List ℕ). (tt, (out, tt))) (p ∙ sym q))
