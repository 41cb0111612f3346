-- Each contract settles its result, and what is left in the lent buffer.
use mathlib.Core.Path.{refl, sym, ap, ◌∙◌}
use mathlib.Core.List.{List}
use Prim.Native.Nat.{ℕ}
use Rattle.laws.proofs.Once.{Settles}
use Rattle.json_quote.proofs.utf8.is_utf8.Kinds as is-utf8-kinds
use Rattle.json_quote.proofs.utf8.is_utf8.Reads as is-utf8-reads
use Rattle.json_quote.proofs.spending.spend.Kinds as spend-kinds
use Rattle.json_quote.proofs.spending.spend.Reads as spend-reads
use Rattle.json_quote.proofs.spending.quoted_room.Kinds as quoted-room-kinds
use Rattle.json_quote.proofs.spending.quoted_room.Reads as quoted-room-reads
use Rattle.json_quote.proofs.quoting.put_quoted.Kinds as put-quoted-kinds
use Rattle.json_quote.proofs.quoting.put_quoted.Reads as put-quoted-reads

pub is-utf8-once : Settles is-utf8-kinds.ps is-utf8-kinds.r is-utf8-reads.Learnt
is-utf8-once κs a x u y v p q = (p ∙ sym q, refl)

pub spend-once : Settles spend-kinds.ps spend-kinds.r spend-reads.Learnt
spend-once κs a x u y v p q = (p ∙ sym q, refl)

pub quoted-room-once : Settles quoted-room-kinds.ps quoted-room-kinds.r quoted-room-reads.Learnt
quoted-room-once κs a x u y v p q = (p ∙ sym q, refl)

pub put-quoted-once : Settles put-quoted-kinds.ps put-quoted-kinds.r put-quoted-reads.Learnt
put-quoted-once κs a x u y v p q =
    (p.ends ∙ sym q.ends, ap (λ (out : List ℕ). (out, (tt, (tt, tt)))) (p.is ∙ sym q.is))
