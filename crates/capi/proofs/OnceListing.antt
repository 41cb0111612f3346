-- The contracts of the exports of server lists settle the result, and what is left in the lent buffer.
use Prim.Native.Nat.{ℕ}
use mathlib.Core.Path.{sym, ap, ◌∙◌}
use mathlib.Core.List.{List}
use Rattle.laws.proofs.Once.{Settles}
use Rattle.capi.proofs.listing.tb_read_servers.Kinds as tb-read-servers-kinds
use Rattle.capi.proofs.listing.tb_read_servers.Reads as tb-read-servers-reads
use Rattle.capi.proofs.listing.tb_server_name.Kinds as tb-server-name-kinds
use Rattle.capi.proofs.listing.tb_server_name.Reads as tb-server-name-reads
use Rattle.capi.proofs.listing.tb_server_address.Kinds as tb-server-address-kinds
use Rattle.capi.proofs.listing.tb_server_address.Reads as tb-server-address-reads
use Rattle.capi.proofs.listing.tb_list_source.Kinds as tb-list-source-kinds
use Rattle.capi.proofs.listing.tb_list_source.Reads as tb-list-source-reads
use Rattle.capi.proofs.listing.tb_list_reports.Kinds as tb-list-reports-kinds
use Rattle.capi.proofs.listing.tb_list_reports.Reads as tb-list-reports-reads
use Rattle.capi.proofs.listing.tb_write_server.Kinds as tb-write-server-kinds
use Rattle.capi.proofs.listing.tb_write_server.Reads as tb-write-server-reads
use Rattle.capi.proofs.listing.tb_write_servers.Kinds as tb-write-servers-kinds
use Rattle.capi.proofs.listing.tb_write_servers.Reads as tb-write-servers-reads

pub tb-read-servers-once : Settles tb-read-servers-kinds.ps tb-read-servers-kinds.r tb-read-servers-reads.Learnt
tb-read-servers-once κs a x u y v p q =
    let same = p.0 ∙ sym q.0 in (same, ap (λ (out : List ℕ). (tt, (out, tt))) (cc))

pub tb-server-name-once : Settles tb-server-name-kinds.ps tb-server-name-kinds.r tb-server-name-reads.Learnt
tb-server-name-once κs a x u y v p q =
    let same = p.0 ∙ sym q.0 in (same, ap (λ (out : List ℕ). (tt, (tt, (out, tt)))) (cc))

pub tb-server-address-once : Settles tb-server-address-kinds.ps tb-server-address-kinds.r tb-server-address-reads.Learnt
tb-server-address-once κs a x u y v p q =
    let same = p.0 ∙ sym q.0 in (same, ap (λ (out : List ℕ). (tt, (tt, (tt, (out, tt))))) (cc))

pub tb-list-source-once : Settles tb-list-source-kinds.ps tb-list-source-kinds.r tb-list-source-reads.Learnt
tb-list-source-once κs a x u y v p q =
    let same = p.0 ∙ sym q.0 in (same, ap (λ (out : List ℕ). (tt, (tt, (out, tt)))) (cc))

pub tb-list-reports-once : Settles tb-list-reports-kinds.ps tb-list-reports-kinds.r tb-list-reports-reads.Learnt
tb-list-reports-once κs a x u y v p q =
    let same = p.0 ∙ sym q.0 in (same, ap (λ (out : List ℕ). (tt, (out, tt))) (cc))

pub tb-write-server-once : Settles tb-write-server-kinds.ps tb-write-server-kinds.r tb-write-server-reads.Learnt
tb-write-server-once κs a x u y v p q =
    let same = p.0 ∙ sym q.0 in (same, ap (λ (out : List ℕ). (tt, (tt, (tt, (tt, (out, tt)))))) (cc))

pub tb-write-servers-once : Settles tb-write-servers-kinds.ps tb-write-servers-kinds.r tb-write-servers-reads.Learnt
tb-write-servers-once κs a x u y v p q =
    let same = p.0 ∙ sym q.0 in (same, ap (λ (out : List ℕ). (tt, (tt, (tt, (tt, (tt, (tt, (tt, (tt, (out, tt)))))))))) (cc))
