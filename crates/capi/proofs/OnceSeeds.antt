-- Each export's contract settles what it leaves in the lent buffer: those that sign.
use Prim.Native.Nat.{ℕ}
use mathlib.Core.Path.{refl, sym, ap, ◌∙◌}
use mathlib.Core.List.{List}
use Rattle.laws.proofs.Once.{Settles}
use Rattle.capi.proofs.seeds.tb_public_key.Kinds as tb-public-key-kinds
use Rattle.capi.proofs.seeds.tb_public_key.Reads as tb-public-key-reads
use Rattle.capi.proofs.seeds.tb_sign.Kinds as tb-sign-kinds
use Rattle.capi.proofs.seeds.tb_sign.Reads as tb-sign-reads
use Rattle.capi.proofs.seeds.tb_sign_parts.Kinds as tb-sign-parts-kinds
use Rattle.capi.proofs.seeds.tb_sign_parts.Reads as tb-sign-parts-reads

pub tb-public-key-once : Settles tb-public-key-kinds.ps tb-public-key-kinds.r tb-public-key-reads.Learnt
tb-public-key-once κs a x u y v p q = (refl, ap (λ (out : List ℕ). (tt, (out, tt))) (p ∙ sym q))

pub tb-sign-once : Settles tb-sign-kinds.ps tb-sign-kinds.r tb-sign-reads.Learnt
tb-sign-once κs a x u y v p q = (refl, ap (λ (out : List ℕ). (tt, (tt, (out, tt)))) (p ∙ sym q))

pub tb-sign-parts-once : Settles tb-sign-parts-kinds.ps tb-sign-parts-kinds.r tb-sign-parts-reads.Learnt
tb-sign-parts-once κs a x u y v p q = (refl, ap (λ (out : List ℕ). (tt, (tt, (tt, (out, tt))))) (p ∙ sym q))
