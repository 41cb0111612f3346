-- Each contract settles its result.
use mathlib.Core.Path.{refl, sym, ◌∙◌}
use Rattle.laws.proofs.Once.{Settles}
use Rattle.list_address.proofs.address.is_address.Kinds as is-address-kinds
use Rattle.list_address.proofs.address.is_address.Reads as is-address-reads
use Rattle.list_address.proofs.https.is_https.Kinds as is-https-kinds
use Rattle.list_address.proofs.https.is_https.Reads as is-https-reads

pub is-address-once : Settles is-address-kinds.ps is-address-kinds.r is-address-reads.Learnt
is-address-once κs a x u y v p q = (p ∙ sym q, refl)

pub is-https-once : Settles is-https-kinds.ps is-https-kinds.r is-https-reads.Learnt
is-https-once κs a x u y v p q = (p ∙ sym q, refl)
