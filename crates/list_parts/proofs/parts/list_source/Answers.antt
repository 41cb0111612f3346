use mathlib.Core.Path.{◌≡◌, ◌∙◌}
use Rattle.std.specs.Prelude.{Err}
use Rattle.refusal.specs.declared.Refusal.{Refusal}
use Rattle.json_text.specs.Octets.{none}
use Rattle.list_parts.specs.Parts.{source_in}
use Rattle.list_read.specs.Listed.{list_of}
use borrow.Author.Rules.{rules}
use mathlib.Core.Path.{refl}
use Rattle.list_parts.proofs.Lists.{source-at, source-none}
use Rattle.list_parts.proofs.Given.{given-code, given-put, puts_none}
use Rattle.list_parts.proofs.parts.list_source.Goals as goal

pub returns-in_err-y : goal.returns-in_err-y
returns-in_err-y c =
    let a = c.args in
    let e : Refusal = c.in_err-y.field-0.0 in
    let handed : c.from_residual.result ≡ Err e = search rules in
    let r = given-code a.text.now (source_in (list_of a.text.now) a.i) a.out.now c.in_err-y.ensures in
    record { value = handed ∙ r.0; out_after = rw handed r.1 }

pub returns-in_default : goal.returns-in_default
returns-in_default c =
    let a = c.args in
    let r = given-put a.text.now (source_in (list_of a.text.now) a.i) a.out.now c.in_ok-y.ensures
    (source-none _ c.in_ok-y.ensures _ c.member_item.ensures c.in_default.is)
    (puts_none none a.out.now refl c.refuse.ensures) in
    record { value = r.0; out_after = r.1 }

pub returns : goal.returns
returns c =
    let a = c.args in
    let p = c.put_string.ensures in
    let r = given-put a.text.now (source_in (list_of a.text.now) a.i) a.out.now c.in_ok-y.ensures
    (source-at _ c.in_ok-y.ensures _ c.member_item.ensures c.in-Some.is)
    (p.value, p.out_after) in
    record { value = r.0; out_after = r.1 }
