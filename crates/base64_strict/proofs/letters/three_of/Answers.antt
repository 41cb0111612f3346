use mathlib.Core.Path.{◌∙◌}
use Rattle.base64_strict.proofs.Decodes.{group-numbers}
use Rattle.base64_strict.proofs.letters.three_of.Goals as goal

pub returns : goal.returns
returns c =
    c.three.ensures ∙
    group-numbers c.args.a c.args.b c.args.c c.args.d c.requires.0 c.requires.1.0 c.requires.1.1.0
    c.requires.1.1.1 c.number.ensures.0 c.number-2.ensures.0 c.number-3.ensures.0 c.number-4.ensures.0
