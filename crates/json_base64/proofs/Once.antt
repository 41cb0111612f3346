-- Each contract settles its result, and what is left in the lent buffer.
use mathlib.Core.Path.{refl, sym, ap, ◌∙◌}
use mathlib.Core.List.{List}
use Prim.Native.Nat.{ℕ}
use Rattle.laws.proofs.Once.{Settles}
use Rattle.json_base64.proofs.sizing.size_of.Kinds as size-of-kinds
use Rattle.json_base64.proofs.sizing.size_of.Reads as size-of-reads
use Rattle.json_base64.proofs.decoding.decode.Kinds as decode-kinds
use Rattle.json_base64.proofs.decoding.decode.Reads as decode-reads
use Rattle.json_base64.proofs.decoding.fill.Kinds as fill-kinds
use Rattle.json_base64.proofs.decoding.fill.Reads as fill-reads

pub size-of-once : Settles size-of-kinds.ps size-of-kinds.r size-of-reads.Learnt
size-of-once κs a x u y v p q = (p ∙ sym q, refl)

pub decode-once : Settles decode-kinds.ps decode-kinds.r decode-reads.Learnt
decode-once κs a x u y v p q = (refl, ap (λ (out : List ℕ). (tt, (tt, (out, tt)))) (p ∙ sym q))

pub fill-once : Settles fill-kinds.ps fill-kinds.r fill-reads.Learnt
fill-once κs a x u y v p q = (refl, ap (λ (out : List ℕ). (tt, (tt, (out, tt)))) (p ∙ sym q))
