-- Each operation's contract settles its result.
use mathlib.Core.Path.{refl, sym, ◌∙◌}
use Rattle.laws.proofs.Once.{Settles}
use Rattle.ed25519_sign.proofs.signing.public_key.Kinds as public-key-kinds
use Rattle.ed25519_sign.proofs.signing.public_key.Reads as public-key-reads
use Rattle.ed25519_sign.proofs.signing.sign.Kinds as sign-kinds
use Rattle.ed25519_sign.proofs.signing.sign.Reads as sign_reads
use Rattle.ed25519_sign.proofs.signing.sign_parts.Kinds as sign-parts-kinds
use Rattle.ed25519_sign.proofs.signing.sign_parts.Reads as sign-parts-reads
use Rattle.ed25519_sign.proofs.signing.sign_parts_with.Kinds as sign-parts-with-kinds
use Rattle.ed25519_sign.proofs.signing.sign_parts_with.Reads as sign-parts-with-reads

pub public-key-once : Settles public-key-kinds.ps public-key-kinds.r public-key-reads.Learnt
public-key-once κs a x u y v p q = (p ∙ sym q, refl)

pub sign-once : Settles sign-kinds.ps sign-kinds.r sign_reads.Learnt
sign-once κs a x u y v p q = (p ∙ sym q, refl)

pub sign-parts-once : Settles sign-parts-kinds.ps sign-parts-kinds.r sign-parts-reads.Learnt
sign-parts-once κs a x u y v p q = (p ∙ sym q, refl)

pub sign-parts-with-once : Settles sign-parts-with-kinds.ps sign-parts-with-kinds.r sign-parts-with-reads.Learnt
sign-parts-with-once κs a x u y v p q = (p ∙ sym q, refl)
