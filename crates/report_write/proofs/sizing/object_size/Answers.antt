-- `report_write::sizing::object_size` meets its contract.
use borrow.Author.Rules.{rules}
use native.Mathlib.Omega.{arith}
use mathlib.Core.Path.{sym, ap}
use mathlib.Core.Bool.{true, false}
use lib.ListN.{length}
use Rattle.report_write.proofs.Objects.{object-length, packet-most}
use Rattle.report_write.proofs.sizing.object_size.Goals as goal

pub request-requires : goal.request-requires
request-requires c = c.requires.request

pub response-requires : goal.response-requires
response-requires c = c.requires.response

pub overflow_add-result-then-first : goal.overflow_add-result-then-first
overflow_add-result-then-first c =
    let m = packet-most c.args.r.now.bytes.now c.requires in
    let q = ap length c.request.ensures in let a = ap length c.response.ensures in
    search rules

pub returns-then-first : goal.returns-then-first
returns-then-first c =
    let r = c.args.r.now.bytes.now in
    let m = packet-most r c.requires in
    let q = ap length c.request.ensures in
    let a = ap length c.response.ensures in
    let l = rw (sym c.if-first.true) at (object-length true r c.requires) in
    (omega arith, omega arith)

pub overflow_add-result-3 : goal.overflow_add-result-3
overflow_add-result-3 c =
    let m = packet-most c.args.r.now.bytes.now c.requires in
    let q = ap length c.request.ensures in let a = ap length c.response.ensures in
    search rules

pub returns : goal.returns
returns c =
    let r = c.args.r.now.bytes.now in
    let m = packet-most r c.requires in
    let q = ap length c.request.ensures in
    let a = ap length c.response.ensures in
    let l = rw (sym c.if-first.false) at (object-length false r c.requires) in
    (omega arith, omega arith)
