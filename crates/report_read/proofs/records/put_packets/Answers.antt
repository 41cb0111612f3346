use borrow.Author.Rules.{rules}
use mathlib.Core.Path.{◌∙◌, ap}
use Prim.Native.Nat.{◌+◌}
use Rattle.laws.specs.Pasted.{pasted}
use Rattle.report_read.proofs.Areas.{good-request, good-response, short-request, short-response, of-request, of-response}
use Rattle.report_read.proofs.Areas.{packets-pasted}
use Rattle.report_read.proofs.records.put_packets.Goals as goal

pub put_part-requires : goal.put_part-requires
put_part-requires c =
    let r = c.requires.0 in (good-request r, (short-request r, search rules))

pub put_part-requires-2 : goal.put_part-requires-2
put_part-requires-2 c =
    let r = c.requires.0 in (good-response r, (short-response r, search rules))

pub returns : goal.returns
returns c =
    let a = c.args in
    let p = c.requires in
    packets-pasted p.0.ready a.out.now a.at
    (c.put_part.ensures ∙ ap (pasted a.out.now a.at) (of-request p.0 2000))
    (c.put_part-2.ensures ∙ ap (pasted _ (a.at + 2000)) (of-response p.0 2000)) p.1
