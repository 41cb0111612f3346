-- Each contract settles its result.
use mathlib.Core.Path.{refl, sym, ◌∙◌}
use Rattle.laws.proofs.Once.{Settles}
use Rattle.json_tokens.proofs.scan.byte.Kinds as byte-kinds
use Rattle.json_tokens.proofs.scan.byte.Reads as byte-Reads
use Rattle.json_tokens.proofs.scan.blanks.Kinds as blanks-kinds
use Rattle.json_tokens.proofs.scan.blanks.Reads as blanks-reads

pub byte-once : Settles byte-kinds.ps byte-kinds.r byte-Reads.Learnt
byte-once κs a x u y v p q = (p ∙ sym q, refl)

pub blanks-once : Settles blanks-kinds.ps blanks-kinds.r blanks-reads.Learnt
blanks-once κs a x u y v p q = (p ∙ sym q, refl)
