use Rattle.list_read.specs.Server.{text_by}
use Rattle.json_strings.specs.Text.{content_at}
use Rattle.json_text.specs.Octets.{text_of}
use borrow.Author.Rules.{rules}
use mathlib.Core.Path.{◌∙◌}
use Rattle.list_parts.proofs.Given.{text_at, text-none, size_none, puts_none, puts-short, puts-room, puts-done}
use Rattle.list_parts.proofs.strings.put_string.Goals as goal

pub returns-in_default : goal.returns-in_default
returns-in_default c =
    let a = c.args in
    let r = puts_none (text_by a.s.now a.f) a.out.now (text-none _ _ c.string_place.ensures c.in_default.is) c.refuse.ensures in
    record { value = r.0; out_after = r.1 }

pub returns-in_default-text_size : goal.returns-in_default-text_size
returns-in_default-text_size c =
    let a = c.args in
    let t = text_at a.s.now a.f c.string_place.ensures c.in-Some.is in
    let r = puts_none (text_by a.s.now a.f) a.out.now (t ∙ size_none _ c.text_size.ensures c.in_default-text_size.is)
    c.refuse-in_default-text_size.ensures in
    record { value = r.0; out_after = r.1 }

pub returns-then-out-n : goal.returns-then-out-n
returns-then-out-n c =
    let a = c.args in
    let t = text_at a.s.now a.f c.string_place.ensures c.in-Some.is in
    let r = puts-short (text_of (content_at a.s.now c.in-Some.p)) a.out.now c.text_size.ensures c.in-Some-text_size.is
    c.if-out-n.true c.refuse-then-out-n.ensures in
    record { value = rw t r.0; out_after = rw t r.1 }

pub put_text-requires : goal.put_text-requires
put_text-requires c =
    puts-room _ _
    c.args.out.now
    c.string_place.ensures
    c.in-Some.is
    c.text_size.ensures
    c.in-Some-text_size.is c.if-out-n.false

pub returns : goal.returns
returns c =
    let a = c.args in
    let t = text_at a.s.now a.f c.string_place.ensures c.in-Some.is in
    let r = puts-done (text_of (content_at a.s.now c.in-Some.p)) a.out.now c.text_size.ensures c.in-Some-text_size.is
    c.if-out-n.false c.put_text.ensures in
    record { value = rw t r.0; out_after = rw t r.1 }
