-- `server_batch::batch::answer_batch` meets its contract. Each way out has its law.
use mathlib.Core.Path.{◌≡◌, refl}
use Rattle.std.specs.Prelude.{Err}
use Rattle.laws.proofs.First.{says-0, says-more, is_last}
use Rattle.refusal.specs.Refusal.{refusals}
use Rattle.refusal.proofs.Passing.{goes-on, error-is, error-refuses}
use Rattle.server_batch.specs.Answering.{batch_code}
use Rattle.server_batch.specs.Batch.{batch}
use Rattle.server_batch.proofs.Told.{sizes-right, told-refused, told-answered}
use borrow.Author.Rules.{rules}
use Rattle.server_batch.proofs.batch.answer_batch.Goals as goal

pub returns-in_err-keys_code : goal.returns-in_err-keys_code
unfolding batch_code
returns-in_err-keys_code c =
    let a = c.args in
    let e = c.in_err-keys_code.field-0.0 in
    let told : c.keys_code.result ≡ Err e = search rules in
    let handed : c.from_residual.result ≡ Err e = search rules in
    let keys = c.keys_code.ensures in
    let more = error-refuses _ keys told in
    let w =
    told-refused (batch a.packets.now a.slot a.lengths.now a.srv) a.cert.now a.seed a.midp a.radi a.room a.rows.now
    a.out.now a.out_lengths.now (says-more refusals _ (error-is _ keys told) more) more in
    rw handed (record { value = w.0; left_by = w.1 })

pub returns-in_err-sizes_code : goal.returns-in_err-sizes_code
unfolding batch_code
returns-in_err-sizes_code c =
    let a = c.args in
    let e = c.in_err-sizes_code.field-0.0 in
    let told : c.sizes_code.result ≡ Err e = search rules in
    let handed : c.from_residual-in_err-sizes_code.result ≡ Err e = search rules in
    let keys = goes-on _ c.keys_code.ensures (search rules) in
    let sizes = c.sizes_code.ensures in
    let w =
    told-refused (batch a.packets.now a.slot a.lengths.now a.srv) a.cert.now a.seed a.midp a.radi a.room a.rows.now
    a.out.now a.out_lengths.now
    (says-0 refusals _ _ refl keys (is_last refusals (error-is _ sizes told))) (error-refuses _ sizes told) in
    rw handed (record { value = w.0; left_by = w.1 })

pub answer_all-requires : goal.answer_all-requires
answer_all-requires c =
    let sizes = sizes-right _ _ _ _ _ _ _ _ refl (goes-on _ c.sizes_code.ensures (search rules)) in
    (sizes.0, sizes.1, sizes.2)

pub returns : goal.returns
unfolding batch_code
returns c =
    let a = c.args in
    let keys = goes-on _ c.keys_code.ensures (search rules) in
    let sizes = goes-on _ c.sizes_code.ensures (search rules) in
    let w =
    told-answered (batch a.packets.now a.slot a.lengths.now a.srv) a.cert.now a.seed a.midp a.radi a.room a.rows.now
    a.out.now a.out_lengths.now
    (says-0 refusals _ _ refl keys (is_last refusals refl)) sizes c.answer_all.ensures in
    record { value = w.0; left_by = w.1 }
