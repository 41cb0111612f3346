-- Each export's contract settles its result, and what it leaves in the lent buffers.
use Prim.Native.Nat.{ℕ}
use mathlib.Core.Path.{refl, sym, ap, ◌∙◌}
use mathlib.Core.List.{List}
use lib.ListN.{length}
use Rattle.laws.proofs.Once.{Settles}
use Rattle.sha512.specs.declared.Running.{Running}
use Rattle.pile_tally.specs.declared.Tally.{Tally}
use Rattle.pile_tally.specs.declared.Tallied.{Tallied}
use Rattle.pile_report.proofs.Says.{report-once}
use Rattle.pile_report.proofs.Runs.{takes-once}
use Rattle.c_evidence.specs.Piling.{tb_reported}
use Rattle.capi.proofs.hashing.tb_sha512.Kinds as tb-sha512-kinds
use Rattle.capi.proofs.hashing.tb_sha512.Reads as tb-sha512-reads
use Rattle.capi.proofs.hashing.tb_leaf.Kinds as tb-leaf-kinds
use Rattle.capi.proofs.hashing.tb_leaf.Reads as tb-leaf-reads
use Rattle.capi.proofs.hashing.tb_parent.Kinds as tb-parent-kinds
use Rattle.capi.proofs.hashing.tb_parent.Reads as tb-parent-reads
use Rattle.capi.proofs.hashing.tb_empty_place.Kinds as tb-empty-place-kinds
use Rattle.capi.proofs.hashing.tb_empty_place.Reads as tb-empty-place-reads
use Rattle.capi.proofs.hashing.tb_srv_value.Kinds as tb-srv-value-kinds
use Rattle.capi.proofs.hashing.tb_srv_value.Reads as tb-srv-value-reads
use Rattle.capi.proofs.hashing.tb_link.Kinds as tb-link-kinds
use Rattle.capi.proofs.hashing.tb_link.Reads as tb-link-reads
use Rattle.capi.proofs.pieces.tb_sha512_start_fields.Kinds as tb-sha512-start-fields-kinds
use Rattle.capi.proofs.pieces.tb_sha512_start_fields.Reads as tb-sha512-start-fields-reads
use Rattle.capi.proofs.pieces.tb_leaf_start_fields.Kinds as tb-leaf-start-fields-kinds
use Rattle.capi.proofs.pieces.tb_leaf_start_fields.Reads as tb-leaf-start-fields-reads
use Rattle.capi.proofs.pieces.tb_sha512_take_fields.Kinds as tb-sha512-take-fields-kinds
use Rattle.capi.proofs.pieces.tb_sha512_take_fields.Reads as tb-sha512-take-fields-reads
use Rattle.capi.proofs.pieces.tb_sha512_finish_fields.Kinds as tb-sha512-finish-fields-kinds
use Rattle.capi.proofs.pieces.tb_sha512_finish_fields.Reads as tb-sha512-finish-fields-reads
use Rattle.capi.proofs.pieces.tb_hash_finish_fields.Kinds as tb-hash-finish-fields-kinds
use Rattle.capi.proofs.pieces.tb_hash_finish_fields.Reads as tb-hash-finish-fields-reads
use Rattle.capi.proofs.reading.tb_read_request.Kinds as tb-read-request-kinds
use Rattle.capi.proofs.reading.tb_read_request.Reads as tb-read-request-reads
use Rattle.capi.proofs.reading.tb_read_response.Kinds as tb-read-response-kinds
use Rattle.capi.proofs.reading.tb_read_response.Reads as tb-read-response-reads
use Rattle.capi.proofs.reading.tb_signed_parts.Kinds as tb-signed-parts-kinds
use Rattle.capi.proofs.reading.tb_signed_parts.Reads as tb-signed-parts-reads
use Rattle.capi.proofs.serving.tb_write_srep.Kinds as tb-write-srep-kinds
use Rattle.capi.proofs.serving.tb_write_srep.Reads as tb-write-srep-reads
use Rattle.capi.proofs.serving.tb_write_dele.Kinds as tb-write-dele-kinds
use Rattle.capi.proofs.serving.tb_write_dele.Reads as tb-write-dele-reads
use Rattle.capi.proofs.serving.tb_write_cert.Kinds as tb-write-cert-kinds
use Rattle.capi.proofs.serving.tb_write_cert.Reads as tb-write-cert-reads
use Rattle.capi.proofs.serving.tb_write_response.Kinds as tb-write-response-kinds
use Rattle.capi.proofs.serving.tb_write_response.Reads as tb-write-response-reads
use Rattle.capi.proofs.writing.tb_write_request.Kinds as tb-write-request-kinds
use Rattle.capi.proofs.writing.tb_write_request.Reads as tb-write-request-reads
use Rattle.capi.proofs.writing.tb_delegation_text.Kinds as tb-delegation-text-kinds
use Rattle.capi.proofs.writing.tb_delegation_text.Reads as tb-delegation-text-reads
use Rattle.capi.proofs.writing.tb_response_text.Kinds as tb-response-text-kinds
use Rattle.capi.proofs.writing.tb_response_text.Reads as tb-response-text-reads
use Rattle.capi.proofs.building.tb_leads.Kinds as tb-leads-kinds
use Rattle.capi.proofs.building.tb_leads.Reads as tb-leads-reads
use Rattle.capi.proofs.building.tb_root.Kinds as tb-root-kinds
use Rattle.capi.proofs.building.tb_root.Reads as tb-root-reads
use Rattle.capi.proofs.building.tb_path.Kinds as tb-path-kinds
use Rattle.capi.proofs.building.tb_path.Reads as tb-path-reads
use Rattle.capi.proofs.building.tb_rows.Kinds as tb-rows-kinds
use Rattle.capi.proofs.building.tb_rows.Reads as tb-rows-reads
use Rattle.capi.proofs.building.tb_path_from.Kinds as tb-path-from-kinds
use Rattle.capi.proofs.building.tb_path_from.Reads as tb-path-from-reads
use Rattle.capi.proofs.judging.tb_check_response.Kinds as tb-check-response-kinds
use Rattle.capi.proofs.judging.tb_check_response.Reads as tb-check-response-reads
use Rattle.capi.proofs.reusing.tb_may_use_fields.Kinds as tb-may-use-fields-kinds
use Rattle.capi.proofs.reusing.tb_may_use_fields.Reads as tb-may-use-fields-reads
use Rattle.capi.proofs.reusing.tb_same_delegation_fields.Kinds as tb-same-delegation-fields-kinds
use Rattle.capi.proofs.reusing.tb_same_delegation_fields.Reads as tb-same-delegation-fields-reads
use Rattle.capi.proofs.finding.tb_find_server.Kinds as tb-find-server-kinds
use Rattle.capi.proofs.finding.tb_find_server.Reads as tb-find-server-reads
use Rattle.capi.proofs.stamping.tb_old_window.Kinds as tb-old-window-kinds
use Rattle.capi.proofs.stamping.tb_old_window.Reads as tb-old-window-reads
use Rattle.capi.proofs.piling.tb_pile_code.Kinds as tb-pile-code-kinds
use Rattle.capi.proofs.piling.tb_pile_code.Reads as tb-pile-code-reads
use Rattle.capi.proofs.piling.tb_judge.Kinds as tb-judge-kinds
use Rattle.capi.proofs.piling.tb_judge.Reads as tb-judge-reads
use Rattle.capi.proofs.piling.tb_linked.Kinds as tb-linked-kinds
use Rattle.capi.proofs.piling.tb_linked.Reads as tb-linked-reads
use Rattle.capi.proofs.piling.tb_first_rand_zero.Kinds as tb-first-rand-zero-kinds
use Rattle.capi.proofs.piling.tb_first_rand_zero.Reads as tb-first-rand-zero-reads
use Rattle.capi.proofs.piling.tb_contradicts.Kinds as tb-contradicts-kinds
use Rattle.capi.proofs.piling.tb_contradicts.Reads as tb-contradicts-reads
use Rattle.capi.proofs.piling.tb_check_report.Kinds as tb-check-report-kinds
use Rattle.capi.proofs.piling.tb_check_report.Reads as tb-check-report-reads
use Rattle.capi.proofs.piling.tb_cut_run.Kinds as tb-cut-run-kinds
use Rattle.capi.proofs.piling.tb_cut_run.Reads as tb-cut-run-reads
use Rattle.capi.proofs.tallying.tb_tally_start_field.Kinds as tb-tally-start-field-kinds
use Rattle.capi.proofs.tallying.tb_tally_start_field.Reads as tb-tally-start-field-reads
use Rattle.capi.proofs.tallying.tb_tally_take_field.Kinds as tb-tally-take-field-kinds
use Rattle.capi.proofs.tallying.tb_tally_take_field.Reads as tb-tally-take-field-reads
use Rattle.capi.proofs.tallying.tb_pile_contradicts.Kinds as tb-pile-contradicts-kinds
use Rattle.capi.proofs.tallying.tb_pile_contradicts.Reads as tb-pile-contradicts-reads

pub tb-sha512-once : Settles tb-sha512-kinds.ps tb-sha512-kinds.r tb-sha512-reads.Learnt
tb-sha512-once κs a x u y v p q = (refl, ap (λ (out : List ℕ). (tt, (out, tt))) (p ∙ sym q))

pub tb-leaf-once : Settles tb-leaf-kinds.ps tb-leaf-kinds.r tb-leaf-reads.Learnt
tb-leaf-once κs a x u y v p q = (refl, ap (λ (out : List ℕ). (tt, (out, tt))) (p ∙ sym q))

pub tb-parent-once : Settles tb-parent-kinds.ps tb-parent-kinds.r tb-parent-reads.Learnt
tb-parent-once κs a x u y v p q = (refl, ap (λ (out : List ℕ). (tt, (tt, (out, tt)))) (p ∙ sym q))

pub tb-empty-place-once : Settles tb-empty-place-kinds.ps tb-empty-place-kinds.r tb-empty-place-reads.Learnt
tb-empty-place-once κs a x u y v p q = (refl, ap (λ (out : List ℕ). (out, tt)) (p ∙ sym q))

pub tb-srv-value-once : Settles tb-srv-value-kinds.ps tb-srv-value-kinds.r tb-srv-value-reads.Learnt
tb-srv-value-once κs a x u y v p q = (refl, ap (λ (out : List ℕ). (tt, (out, tt))) (p ∙ sym q))

pub tb-link-once : Settles tb-link-kinds.ps tb-link-kinds.r tb-link-reads.Learnt
tb-link-once κs a x u y v p q = (refl, ap (λ (out : List ℕ). (tt, (tt, (out, tt)))) (p ∙ sym q))

pub tb-sha512-start-fields-once : Settles tb-sha512-start-fields-kinds.ps tb-sha512-start-fields-kinds.r
    tb-sha512-start-fields-reads.Learnt
tb-sha512-start-fields-once κs a x u y v p q =
    (refl, ap (λ (r : Running). (r.h, (r.rest, (r.count, tt)))) (p ∙ sym q))

pub tb-leaf-start-fields-once : Settles tb-leaf-start-fields-kinds.ps tb-leaf-start-fields-kinds.r
    tb-leaf-start-fields-reads.Learnt
tb-leaf-start-fields-once κs a x u y v p q =
    (refl, ap (λ (r : Running). (r.h, (r.rest, (r.count, tt)))) (p ∙ sym q))

pub tb-sha512-take-fields-once : Settles tb-sha512-take-fields-kinds.ps tb-sha512-take-fields-kinds.r
    tb-sha512-take-fields-reads.Learnt
tb-sha512-take-fields-once κs a x u y v p q =
    (p.0 ∙ sym q.0, ap (λ (r : Running). (r.h, (r.rest, (r.count, (tt, tt))))) (p.1 ∙ sym q.1))

pub tb-sha512-finish-fields-once : Settles tb-sha512-finish-fields-kinds.ps tb-sha512-finish-fields-kinds.r
    tb-sha512-finish-fields-reads.Learnt
tb-sha512-finish-fields-once κs a x u y v p q =
    (refl, ap (λ (out : List ℕ). (tt, (tt, (tt, (out, tt))))) (p ∙ sym q))

pub tb-hash-finish-fields-once : Settles tb-hash-finish-fields-kinds.ps tb-hash-finish-fields-kinds.r
    tb-hash-finish-fields-reads.Learnt
tb-hash-finish-fields-once κs a x u y v p q =
    (refl, ap (λ (hash : List ℕ). (tt, (tt, (tt, (hash, tt))))) (p ∙ sym q))

pub tb-read-request-once : Settles tb-read-request-kinds.ps tb-read-request-kinds.r tb-read-request-reads.Learnt
tb-read-request-once κs a x u y v p q = (p ∙ sym q, refl)

pub tb-read-response-once : Settles tb-read-response-kinds.ps tb-read-response-kinds.r tb-read-response-reads.Learnt
tb-read-response-once κs a x u y v p q = (p ∙ sym q, refl)

pub tb-signed-parts-once : Settles tb-signed-parts-kinds.ps tb-signed-parts-kinds.r tb-signed-parts-reads.Learnt
tb-signed-parts-once κs a x u y v p q = (p ∙ sym q, refl)

pub tb-write-request-once : Settles tb-write-request-kinds.ps tb-write-request-kinds.r tb-write-request-reads.Learnt
tb-write-request-once κs a x u y v p q =
    let same = p.0 ∙ sym q.0 in
    (same, ap (λ (out : List ℕ). (tt, (tt, (out, tt)))) (p.1 ∙ sym (rw (q.0 ∙ sym p.0) at q.1)))

pub tb-write-srep-once : Settles tb-write-srep-kinds.ps tb-write-srep-kinds.r tb-write-srep-reads.Learnt
tb-write-srep-once κs a x u y v p q =
    let same = p.0 ∙ sym q.0 in
    (same, ap (λ (out : List ℕ). (tt, (tt, (tt, (out, tt))))) (p.1 ∙ sym (rw (q.0 ∙ sym p.0) at q.1)))

pub tb-write-dele-once : Settles tb-write-dele-kinds.ps tb-write-dele-kinds.r tb-write-dele-reads.Learnt
tb-write-dele-once κs a x u y v p q =
    let same = p.0 ∙ sym q.0 in
    (same, ap (λ (out : List ℕ). (tt, (tt, (tt, (out, tt))))) (p.1 ∙ sym (rw (q.0 ∙ sym p.0) at q.1)))

pub tb-write-cert-once : Settles tb-write-cert-kinds.ps tb-write-cert-kinds.r tb-write-cert-reads.Learnt
tb-write-cert-once κs a x u y v p q =
    let same = p.0 ∙ sym q.0 in
    (same, ap (λ (out : List ℕ). (tt, (tt, (tt, (tt, (out, tt)))))) (p.1 ∙ sym (rw (q.0 ∙ sym p.0) at q.1)))

pub tb-write-response-once : Settles tb-write-response-kinds.ps tb-write-response-kinds.r tb-write-response-reads.Learnt
tb-write-response-once κs a x u y v p q =
    let same = p.0 ∙ sym q.0 in
    (same, ap (λ (out : List ℕ). (tt, (tt, (tt, (tt, (tt, (tt, (tt, (tt, (out, tt)))))))))) (p.1 ∙ sym (rw (q.0 ∙ sym p.0) at q.1)))

pub tb-delegation-text-once :
    Settles tb-delegation-text-kinds.ps tb-delegation-text-kinds.r tb-delegation-text-reads.Learnt
tb-delegation-text-once κs a x u y v p q =
    let same = p.0 ∙ sym q.0 in
    (same, ap (λ (out : List ℕ). (tt, (out, tt))) (p.1 ∙ sym (rw (q.0 ∙ sym p.0) at q.1)))

pub tb-response-text-once : Settles tb-response-text-kinds.ps tb-response-text-kinds.r tb-response-text-reads.Learnt
tb-response-text-once κs a x u y v p q =
    let same = p.0 ∙ sym q.0 in
    (same, ap (λ (out : List ℕ). (tt, (out, tt))) (p.1 ∙ sym (rw (q.0 ∙ sym p.0) at q.1)))

pub tb-leads-once : Settles tb-leads-kinds.ps tb-leads-kinds.r tb-leads-reads.Learnt
tb-leads-once κs a x u y v p q = (p ∙ sym q, refl)

pub tb-root-once : Settles tb-root-kinds.ps tb-root-kinds.r tb-root-reads.Learnt
tb-root-once κs a x u y v p q = (p ∙ sym q, refl)

pub tb-path-once : Settles tb-path-kinds.ps tb-path-kinds.r tb-path-reads.Learnt
tb-path-once κs a x u y v p q =
    let same = p.0 ∙ sym q.0 in
    (same, ap (λ (out : List ℕ). (tt, (tt, (out, tt)))) (p.1 ∙ sym (rw (q.0 ∙ sym p.0) at q.1)))

pub tb-rows-once : Settles tb-rows-kinds.ps tb-rows-kinds.r tb-rows-reads.Learnt
tb-rows-once κs a x u y v p q =
    let same = p.0 ∙ sym q.0 in
    (same, ap (λ (out : List ℕ). (tt, (out, tt))) (p.1 ∙ sym (rw (q.0 ∙ sym p.0) at q.1)))

pub tb-path-from-once : Settles tb-path-from-kinds.ps tb-path-from-kinds.r tb-path-from-reads.Learnt
tb-path-from-once κs a x u y v p q =
    let same = p.0 ∙ sym q.0 in
    (same, ap (λ (out : List ℕ). (tt, (tt, (tt, (out, tt))))) (p.1 ∙ sym (rw (q.0 ∙ sym p.0) at q.1)))

pub tb-check-response-once : Settles tb-check-response-kinds.ps tb-check-response-kinds.r tb-check-response-reads.Learnt
tb-check-response-once κs a x u y v p q = (p ∙ sym q, refl)

pub tb-may-use-fields-once : Settles tb-may-use-fields-kinds.ps tb-may-use-fields-kinds.r tb-may-use-fields-reads.Learnt
tb-may-use-fields-once κs a x u y v p q = (p ∙ sym q, refl)

pub tb-same-delegation-fields-once :
    Settles tb-same-delegation-fields-kinds.ps tb-same-delegation-fields-kinds.r tb-same-delegation-fields-reads.Learnt
tb-same-delegation-fields-once κs a x u y v p q = (p ∙ sym q, refl)

pub tb-find-server-once : Settles tb-find-server-kinds.ps tb-find-server-kinds.r tb-find-server-reads.Learnt
tb-find-server-once κs a x u y v p q = (p ∙ sym q, refl)

pub tb-old-window-once : Settles tb-old-window-kinds.ps tb-old-window-kinds.r tb-old-window-reads.Learnt
tb-old-window-once κs a x u y v p q = (p ∙ sym q, refl)

pub tb-pile-code-once : Settles tb-pile-code-kinds.ps tb-pile-code-kinds.r tb-pile-code-reads.Learnt
tb-pile-code-once κs a x u y v p q = (p ∙ sym q, refl)

pub tb-judge-once : Settles tb-judge-kinds.ps tb-judge-kinds.r tb-judge-reads.Learnt
tb-judge-once κs a x u y v p q = (p ∙ sym q, refl)

pub tb-linked-once : Settles tb-linked-kinds.ps tb-linked-kinds.r tb-linked-reads.Learnt
tb-linked-once κs a x u y v p q = (p ∙ sym q, refl)

pub tb-first-rand-zero-once :
    Settles tb-first-rand-zero-kinds.ps tb-first-rand-zero-kinds.r tb-first-rand-zero-reads.Learnt
tb-first-rand-zero-once κs a x u y v p q = (p ∙ sym q, refl)

pub tb-contradicts-once : Settles tb-contradicts-kinds.ps tb-contradicts-kinds.r tb-contradicts-reads.Learnt
tb-contradicts-once κs a x u y v p q = (p ∙ sym q, refl)

-- only one answer is right, and so only one struct
pub tb-check-report-once : Settles tb-check-report-kinds.ps tb-check-report-kinds.r tb-check-report-reads.Learnt
tb-check-report-once κs a x u y v p q =
    let same = report-once a.0.now a.1.0.now p.answer q.answer p.right q.right in
    (p.same ∙ ap tb_reported same ∙ sym q.same, refl)

-- of the cutter too, and so only one buffer
pub tb-cut-run-once : Settles tb-cut-run-kinds.ps tb-cut-run-kinds.r tb-cut-run-reads.Learnt
tb-cut-run-once κs a x u y v p q =
    let room = length a.1.1.0.now in
    let same = takes-once a.0.now a.1.0.now room p.answer q.answer p.right q.right in
    (cc, ap (λ (out : List ℕ). (tt, (tt, (out, tt)))) (cc))

pub tb-tally-start-field-once :
    Settles tb-tally-start-field-kinds.ps tb-tally-start-field-kinds.r tb-tally-start-field-reads.Learnt
tb-tally-start-field-once κs a x u y v p q = (refl, ap (λ (t : Tally). (t.most, tt)) (p ∙ sym q))

pub tb-tally-take-field-once :
    Settles tb-tally-take-field-kinds.ps tb-tally-take-field-kinds.r tb-tally-take-field-reads.Learnt
tb-tally-take-field-once κs a x u y v p q =
    let same = p ∙ sym q in (
      ap (λ (t : Tallied). t.contradicts) same,
      ap (λ (t : Tallied). (t.tally.most, (tt, (tt, tt)))) same,
    )

pub tb-pile-contradicts-once :
    Settles tb-pile-contradicts-kinds.ps tb-pile-contradicts-kinds.r tb-pile-contradicts-reads.Learnt
tb-pile-contradicts-once κs a x u y v p q = (p ∙ sym q, refl)
