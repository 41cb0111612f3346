-- Each operation's contract settles its result.
use mathlib.Core.Path.{refl, sym, ◌∙◌}
use Rattle.laws.proofs.Once.{Settles}
use Rattle.hash.proofs.leaf.Kinds as leaf-kinds
use Rattle.hash.proofs.leaf.Reads as leaf-reads
use Rattle.hash.proofs.parent.Kinds as parent-kinds
use Rattle.hash.proofs.parent.Reads as parent-reads
use Rattle.hash.proofs.empty_place.Kinds as empty-place-kinds
use Rattle.hash.proofs.empty_place.Reads as empty-place-reads
use Rattle.hash.proofs.srv_value.Kinds as srv-value-kinds
use Rattle.hash.proofs.srv_value.Reads as srv-value-reads
use Rattle.hash.proofs.link.Kinds as link-kinds
use Rattle.hash.proofs.link.Reads as link-reads
use Rattle.hash.proofs.start_leaf.Kinds as start-leaf-kinds
use Rattle.hash.proofs.start_leaf.Reads as start-leaf-reads
use Rattle.hash.proofs.finish_hash.Kinds as finish-hash-kinds
use Rattle.hash.proofs.finish_hash.Reads as finish-hash-reads

pub leaf-once : Settles leaf-kinds.ps leaf-kinds.r leaf-reads.Learnt
leaf-once κs a x u y v p q = (p ∙ sym q, refl)

pub parent-once : Settles parent-kinds.ps parent-kinds.r parent-reads.Learnt
parent-once κs a x u y v p q = (p ∙ sym q, refl)

pub empty-place-once : Settles empty-place-kinds.ps empty-place-kinds.r empty-place-reads.Learnt
empty-place-once κs a x u y v p q = (p ∙ sym q, refl)

pub srv-value-once : Settles srv-value-kinds.ps srv-value-kinds.r srv-value-reads.Learnt
srv-value-once κs a x u y v p q = (p ∙ sym q, refl)

pub link-once : Settles link-kinds.ps link-kinds.r link-reads.Learnt
link-once κs a x u y v p q = (p ∙ sym q, refl)

pub start-leaf-once : Settles start-leaf-kinds.ps start-leaf-kinds.r start-leaf-reads.Learnt
start-leaf-once κs a x u y v p q = (p ∙ sym q, refl)

pub finish-hash-once : Settles finish-hash-kinds.ps finish-hash-kinds.r finish-hash-reads.Learnt
finish-hash-once κs a x u y v p q = (p ∙ sym q, refl)
