-- `server_response::responding::write_response` meets its contract. The four pieces follow each other from the front.
use Prim.Native.Nat.{ℕ, ◌+◌}
use mathlib.Core.List.{List, [], ◌∷◌, ◌++◌}
use mathlib.Core.Path.{◌≡◌, refl, sym, ap, ◌∙◌}
use native.Mathlib.Omega.{arith}
use lib.ListN.{length}
use Rattle.laws.specs.Pasted.{pasted}
use Rattle.laws.proofs.Written.{puts_one, puts-put, puts-as}
use Rattle.wire_message.specs.Encode.{words}
use Rattle.wire_message.specs.Tags.{NONC}
use Rattle.wire_message.specs.Values.{value_of}
use Rattle.server_parts.specs.Signed.{srep_bytes}
use Rattle.server_parts.proofs.Pieces.{length-srep}
use Rattle.wire_request.proofs.Answered.{writer-refused, writer-short, writer-done}
use Rattle.server_response.specs.Response.{reply, response_bytes, nonce_of}
use Rattle.server_response.specs.Steps.{front_bytes}
use Rattle.server_response.proofs.Pieces.{length_front, length-end, response-parts, length-response}
use Rattle.server_response.proofs.Replied.{tests-are, answered-by}
use Rattle.std.specs.Prelude.{Err}
use Rattle.refusal.proofs.Passing.{goes-on, error-is, error-refuses}
use borrow.Author.Rules.{rules}
use Rattle.server_response.proofs.responding.write_response.Goals as goal

pub returns-in_err-tests_code : goal.returns-in_err-tests_code
returns-in_err-tests_code c =
    let a = c.args in
    let l = reply a.request.now a.indx a.root a.path.now a.midp a.radi a.cert.now a.signature in
    let r32 : length a.root ≡ 32 = omega (arith, c.well_formed) in
    let s64 : length a.signature ≡ 64 = omega (arith, c.well_formed) in
    let e = c.in_err-tests_code.field-0.0 in
    let told : c.tests_code.result ≡ Err e = search rules in
    let handed : c.from_residual.result ≡ Err e = search rules in
    let is = c.tests_code.ensures in
    let w = writer-refused (response_bytes l) a.out.now (error-is _ is told ∙ tests-are l r32 s64) (error-refuses _ is told) in
    rw handed (record { value = w.0; out_after = w.1 })

pub overflow_add-n-2 : goal.overflow_add-n-2
overflow_add-n-2 c =
    let a = c.args in
    let l = reply a.request.now a.indx a.root a.path.now a.midp a.radi a.cert.now a.signature in
    let ok =
    answered-by l (omega (arith, c.well_formed)) (omega (arith, c.well_formed)) refl
    (goes-on _ c.tests_code.ensures (search rules)) in
    omega (arith, ok.fits)

pub returns-then-out-n : goal.returns-then-out-n
returns-then-out-n c =
    let a = c.args in
    let l = reply a.request.now a.indx a.root a.path.now a.midp a.radi a.cert.now a.signature in
    let r32 : length a.root ≡ 32 = omega (arith, c.well_formed) in
    let s64 : length a.signature ≡ 64 = omega (arith, c.well_formed) in
    let ok = answered-by l r32 s64 refl (goes-on _ c.tests_code.ensures (search rules)) in
    let n = length-response l ok.sizes in
    let w =
    writer-short (response_bytes l) a.out.now (tests-are l r32 s64) (goes-on _ c.tests_code.ensures (search rules))
    c.refuse.ensures (omega arith) in
    record { value = w.0; out_after = w.1 }

pub body_of-requires : goal.body_of-requires
body_of-requires c =
    let a = c.args in
    let l = reply a.request.now a.indx a.root a.path.now a.midp a.radi a.cert.now a.signature in
    (answered-by l (omega (arith, c.well_formed)) (omega (arith, c.well_formed)) refl
    (goes-on _ c.tests_code.ensures (search rules))).long

pub value32-nonce-requires : goal.value32-nonce-requires
value32-nonce-requires c =
    let a = c.args in
    let l = reply a.request.now a.indx a.root a.path.now a.midp a.radi a.cert.now a.signature in
    let asks =
    (answered-by l (omega (arith, c.well_formed)) (omega (arith, c.well_formed)) refl
    (goes-on _ c.tests_code.ensures (search rules))).asks in
    rw c.body_of.ensures (asks.frame, asks.nonc-long)

pub overflow_cast-path : goal.overflow_cast-path
overflow_cast-path c =
    let a = c.args in
    let l = reply a.request.now a.indx a.root a.path.now a.midp a.radi a.cert.now a.signature in
    let ok =
    answered-by l (omega (arith, c.well_formed)) (omega (arith, c.well_formed)) refl
    (goes-on _ c.tests_code.ensures (search rules)) in
    omega (arith, ok.fits)

pub overflow_cast-cert : goal.overflow_cast-cert
overflow_cast-cert c =
    let a = c.args in
    let l = reply a.request.now a.indx a.root a.path.now a.midp a.radi a.cert.now a.signature in
    let ok =
    answered-by l (omega (arith, c.well_formed)) (omega (arith, c.well_formed)) refl
    (goes-on _ c.tests_code.ensures (search rules)) in
    omega (arith, ok.fits)

pub put_front-requires : goal.put_front-requires
put_front-requires c =
    let a = c.args in
    let l = reply a.request.now a.indx a.root a.path.now a.midp a.radi a.cert.now a.signature in
    let ok =
    answered-by l (omega (arith, c.well_formed)) (omega (arith, c.well_formed)) refl
    (goes-on _ c.tests_code.ensures (search rules)) in
    (omega arith, omega (arith, ok.fits))

pub returns : goal.returns
returns c =
    let g = c.args in
    let a = reply g.request.now g.indx g.root g.path.now g.midp g.radi g.cert.now g.signature in
    let r32 : length a.root ≡ 32 = omega (arith, c.well_formed) in
    let s64 : length a.signature ≡ 64 = omega (arith, c.well_formed) in
    let ok = answered-by a r32 s64 refl (goes-on _ c.tests_code.ensures (search rules)) in
    let o : List ℕ = g.out.now in
    let n = c.value32-nonce.ensures ∙ ap (λ (m : List ℕ). value_of m NONC) c.body_of.ensures in
    let front = ap (λ (l : List ℕ). pasted o 0 (front_bytes a.signature l (length a.path) (length a.cert))) n in
    let n1 =
    length_front a.signature (nonce_of a) (length a.path) (length a.cert) s64
    ok.sizes.nonce-long in
    let w1 = puts_one _ 168 (c.put_front.ensures ∙ front) (omega arith) (omega arith) in
    let w2 = puts-put a.path (168 + length a.path) w1 c.put.ensures refl (omega arith) in
    let n3 = length-srep a.root a.midp a.radi r32 in
    let w3 =
    puts-put (srep_bytes a.root a.midp a.radi) (168 + length a.path + 92) w2 c.put_srep.ensures (omega (arith, n3))
    (omega arith) in
    let n4 = length-end a.cert a.indx in
    let w4 =
    puts-put (a.cert ++ words (a.indx ∷ [])) (264 + length a.path + length a.cert) w3 c.put_end.ensures
    (omega (arith, n4)) (omega arith) in
    let w =
    writer-done (tests-are a r32 s64) (goes-on _ c.tests_code.ensures (search rules))
    (puts-as (sym (response-parts a ok.sizes)) w4) in
    record { value = w.0; out_after = w.1 }
