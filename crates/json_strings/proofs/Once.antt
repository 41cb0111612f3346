-- Each contract settles its result.
use mathlib.Core.Path.{refl, sym, ◌∙◌}
use Rattle.laws.proofs.Once.{Settles}
use Rattle.json_strings.proofs.strings.unit_of.Kinds as unit-of-kinds
use Rattle.json_strings.proofs.strings.unit_of.Reads as unit-of-reads

pub unit-of-once : Settles unit-of-kinds.ps unit-of-kinds.r unit-of-reads.Learnt
unit-of-once κs a x u y v p q = (p ∙ sym q, refl)
