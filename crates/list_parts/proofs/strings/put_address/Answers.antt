use mathlib.Core.Path.{◌≡◌, refl}
use borrow.Author.Rules.{rules}
use Rattle.std.specs.Prelude.{Err}
use Rattle.refusal.specs.declared.Refusal.{Refusal}
use Rattle.laws.specs.Pick.{pick}
use Rattle.list_read.specs.Server.{of_address}
use Rattle.list_parts.proofs.Given.{tells-put}
use Rattle.list_parts.proofs.strings.put_address.Goals as goal

pub returns-in_err-n : goal.returns-in_err-n
unfolding of_address
returns-in_err-n c =
    let a = c.args in
    let p = c.put_string.ensures in
    let e : Refusal = c.in_err-n.field-0.0 in
    let handed : c.from_residual.result ≡ Err e = search rules in
    let r = tells-put a.s.now a.out.now a.m c.find-protocol.ensures c.string_place.ensures c.is_word-tcp.ensures
    c.find-address.ensures (p.value, p.out_after) (rw (handed, c.in_err-n.was) refl) (rw (handed, c.in_err-n.was) refl) in
    record { value = r.0; out_after = r.1 }

pub returns-then-tcp : goal.returns-then-tcp
unfolding of_address pick
returns-then-tcp c =
    let a = c.args in
    let p = c.put_string.ensures in
    let r = tells-put a.s.now a.out.now a.m c.find-protocol.ensures c.string_place.ensures c.is_word-tcp.ensures
    c.find-address.ensures (p.value, p.out_after) (rw (c.in_ok-n.was, c.if-tcp.true) refl) (rw c.in_ok-n.was refl) in
    record { value = r.0; out_after = r.1 }

pub returns-else-tcp : goal.returns-else-tcp
unfolding of_address pick
returns-else-tcp c =
    let a = c.args in
    let p = c.put_string.ensures in
    let r = tells-put a.s.now a.out.now a.m c.find-protocol.ensures c.string_place.ensures c.is_word-tcp.ensures
    c.find-address.ensures (p.value, p.out_after) (rw (c.in_ok-n.was, c.if-tcp.false) refl) (rw c.in_ok-n.was refl) in
    record { value = r.0; out_after = r.1 }
