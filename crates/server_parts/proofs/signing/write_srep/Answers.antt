-- `server_parts::signing::write_srep` meets its contract.
use native.Mathlib.Omega.{arith}
use Rattle.laws.proofs.Written.{puts_one}
use Rattle.wire_request.proofs.Answered.{writer-refused, writer-short, writer-done}
use Rattle.server_parts.proofs.Pieces.{length-srep}
use Rattle.server_parts.specs.Signed.{srep_bytes}
use mathlib.Core.Path.{◌≡◌, refl}
use Rattle.std.specs.Prelude.{Err}
use Rattle.refusal.proofs.Passing.{goes-on, error-is, error-refuses}
use borrow.Author.Rules.{rules}
use Rattle.server_parts.proofs.signing.write_srep.Goals as goal

pub returns-in_err-radius_code : goal.returns-in_err-radius_code
returns-in_err-radius_code c =
    let a = c.args in
    let e = c.in_err-radius_code.field-0.0 in
    let told : c.radius_code.result ≡ Err e = search rules in
    let handed : c.from_residual.result ≡ Err e = search rules in
    let is = c.radius_code.ensures in
    let w = writer-refused (srep_bytes a.root a.midp a.radi) a.out.now (error-is _ is told) (error-refuses _ is told) in
    rw handed (record { value = w.0; out_after = w.1 })

pub returns-then-out-lt92 : goal.returns-then-out-lt92
returns-then-out-lt92 c =
    let n = length-srep c.args.root c.args.midp c.args.radi (omega (arith, c.well_formed)) in
    let a = c.args in
    let w =
    writer-short (srep_bytes a.root a.midp a.radi) a.out.now refl (goes-on _ c.radius_code.ensures (search rules))
    c.refuse.ensures (omega arith) in
    record { value = w.0; out_after = w.1 }

pub returns : goal.returns
returns c =
    let n = length-srep c.args.root c.args.midp c.args.radi (omega (arith, c.well_formed)) in
    let w =
    writer-done refl (goes-on _ c.radius_code.ensures (search rules))
    (puts_one (srep_bytes c.args.root c.args.midp c.args.radi) 92 c.put_srep.ensures (omega arith)
    (omega arith)) in
    record { value = w.0; out_after = w.1 }
