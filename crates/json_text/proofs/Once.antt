-- Each contract settles its result, and what is left in the lent buffer.
use mathlib.Core.Path.{refl, sym, ap, ◌∙◌}
use mathlib.Core.List.{List}
use Prim.Native.Nat.{ℕ}
use Rattle.laws.proofs.Once.{Settles}
use Rattle.json_text.proofs.texts.text_size.Kinds as text-size-kinds
use Rattle.json_text.proofs.texts.text_size.Reads as text-size-reads
use Rattle.json_text.proofs.texts.put_text.Kinds as put-text-kinds
use Rattle.json_text.proofs.texts.put_text.Reads as put-text-reads

pub text-size-once : Settles text-size-kinds.ps text-size-kinds.r text-size-reads.Learnt
text-size-once κs a x u y v p q = (p ∙ sym q, refl)

pub put-text-once : Settles put-text-kinds.ps put-text-kinds.r put-text-reads.Learnt
put-text-once κs a x u y v p q = (refl, ap (λ (out : List ℕ). (tt, (tt, (out, tt)))) (p ∙ sym q))
