-- Each contract settles its result, and what is left in the lent buffer.
use mathlib.Core.Path.{sym, ap, ◌∙◌}
use mathlib.Core.List.{List}
use Prim.Native.Nat.{ℕ}
use Rattle.laws.proofs.Once.{Settles}
use Rattle.list_parts.proofs.parts.server_name.Kinds as server-name-kinds
use Rattle.list_parts.proofs.parts.server_name.Reads as server-name-reads
use Rattle.list_parts.proofs.parts.server_address.Kinds as server-address-kinds
use Rattle.list_parts.proofs.parts.server_address.Reads as server-address-reads
use Rattle.list_parts.proofs.parts.list_source.Kinds as list-source-kinds
use Rattle.list_parts.proofs.parts.list_source.Reads as list-source-reads
use Rattle.list_parts.proofs.parts.list_reports.Kinds as list-reports-kinds
use Rattle.list_parts.proofs.parts.list_reports.Reads as list-reports-reads

pub server-name-once : Settles server-name-kinds.ps server-name-kinds.r server-name-reads.Learnt
server-name-once κs a x u y v p q =
    let same = p.0 ∙ sym q.0 in (same, ap (λ (out : List ℕ). (tt, (tt, (out, tt)))) (cc))

pub server-address-once : Settles server-address-kinds.ps server-address-kinds.r server-address-reads.Learnt
server-address-once κs a x u y v p q =
    let same = p.0 ∙ sym q.0 in (same, ap (λ (out : List ℕ). (tt, (tt, (tt, (out, tt))))) (cc))

pub list-source-once : Settles list-source-kinds.ps list-source-kinds.r list-source-reads.Learnt
list-source-once κs a x u y v p q =
    let same = p.0 ∙ sym q.0 in (same, ap (λ (out : List ℕ). (tt, (tt, (out, tt)))) (cc))

pub list-reports-once : Settles list-reports-kinds.ps list-reports-kinds.r list-reports-reads.Learnt
list-reports-once κs a x u y v p q =
    let same = p.0 ∙ sym q.0 in (same, ap (λ (out : List ℕ). (tt, (out, tt))) (cc))
