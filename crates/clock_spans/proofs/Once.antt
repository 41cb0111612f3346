-- Each operation's contract settles its result.
use mathlib.Core.Path.{refl, sym, ◌∙◌}
use Rattle.laws.proofs.Once.{Settles}
use Rattle.clock_spans.proofs.drifting.high_later.Kinds as high-later-kinds
use Rattle.clock_spans.proofs.drifting.high_later.Reads as high-later-reads
use Rattle.clock_spans.proofs.drifting.low_later.Kinds as low-later-kinds
use Rattle.clock_spans.proofs.drifting.low_later.Reads as low-later-reads
use Rattle.clock_spans.proofs.spanning.is_used.Kinds as is-used-kinds
use Rattle.clock_spans.proofs.spanning.is_used.Reads as is-used-reads
use Rattle.clock_spans.proofs.spanning.server_span.Kinds as server-span-kinds
use Rattle.clock_spans.proofs.spanning.server_span.Reads as server-span-reads

pub low-later-once : Settles low-later-kinds.ps low-later-kinds.r low-later-reads.Learnt
low-later-once κs a x u y v p q = (p ∙ sym q, refl)

pub high-later-once : Settles high-later-kinds.ps high-later-kinds.r high-later-reads.Learnt
high-later-once κs a x u y v p q = (p ∙ sym q, refl)

pub is-used-once : Settles is-used-kinds.ps is-used-kinds.r is-used-reads.Learnt
is-used-once κs a x u y v p q = (p ∙ sym q, refl)

pub server-span-once : Settles server-span-kinds.ps server-span-kinds.r server-span-reads.Learnt
server-span-once κs a x u y v p q = (p ∙ sym q, refl)
