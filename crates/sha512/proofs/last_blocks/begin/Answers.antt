-- `sha512::last_blocks::begin` meets its contract.
use Rattle.std.proofs.Common.{length, set, ap, ◌∙◌, arith}
use Rattle.laws.specs.Pasted.{pasted}
use Rattle.sha512.proofs.LastBlocks.{begun-is}
use Rattle.sha512.proofs.last_blocks.begin.Goals as goal

pub returns : goal.returns
returns c =
    let t = c.args.t.now in
    ap (λ l. set l (length t) 0x80) (c.put.ensures ∙ ap (λ l. pasted l 0 t) c.requires.0)
    ∙ begun-is 127 0x80 t (omega (arith, c.requires.1))
