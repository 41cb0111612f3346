use mathlib.Core.Path.{◌≡◌, ◌∙◌}
use Rattle.std.specs.Prelude.{Err}
use Rattle.refusal.specs.declared.Refusal.{Refusal}
use Rattle.list_parts.specs.Parts.{address_in, tcp_in}
use Rattle.list_read.specs.Listed.{list_of}
use borrow.Author.Rules.{rules}
use Rattle.list_parts.proofs.Lists.{asked-most, asked-room, server-good, address-at, tcp-at, address-none}
use Rattle.list_parts.proofs.Given.{told-code, told-put, tells_none, tells-same}
use Rattle.list_parts.proofs.parts.server_address.Goals as goal

pub returns-in_err-y : goal.returns-in_err-y
returns-in_err-y c =
    let a = c.args in
    let e : Refusal = c.in_err-y.field-0.0 in
    let handed : c.from_residual.result ≡ Err e = search rules in
    let l = list_of a.text.now in
    let r = told-code a.text.now (address_in l a.i a.j) a.out.now (tcp_in l a.i a.j) c.in_err-y.ensures in
    record { value = handed ∙ r.0; out_after = rw handed r.1 }

pub server_place-requires : goal.server_place-requires
server_place-requires c = (
  asked-most _ c.in_ok-y.ensures,
  asked-room _ c.in_ok-y.ensures,
)

pub returns-in_default : goal.returns-in_default
returns-in_default c =
    let a = c.args in
    let l = list_of a.text.now in
    let r = told-put a.text.now (address_in l a.i a.j) a.out.now (tcp_in l a.i a.j) c.in_ok-y.ensures
    (tells_none _ _ _
    (address-none _ c.in_ok-y.ensures _ c.server_place.ensures _ c.in_default.is)
    c.refuse.ensures) in
    record { value = r.0; out_after = r.1 }

pub address_of-requires : goal.address_of-requires
address_of-requires c =
    server-good _ c.in_ok-y.ensures _ c.server_place.ensures
    c.in-Some.is

pub returns : goal.returns
returns c =
    let a = c.args in
    let l = list_of a.text.now in
    let p = c.address_of.ensures in
    let r = told-put a.text.now (address_in l a.i a.j) a.out.now (tcp_in l a.i a.j) c.in_ok-y.ensures
    (tells-same a.out.now c.address_of.result
    (tcp-at _ c.in_ok-y.ensures _ c.server_place.ensures _ c.in-Some.is)
    (address-at _ c.in_ok-y.ensures _ c.server_place.ensures _ c.in-Some.is)
    (p.value, p.out_after)) in
    record { value = r.0; out_after = r.1 }
