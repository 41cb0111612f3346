use mathlib.Core.Path.{refl}
use Rattle.json_strings.proofs.Content.{content-code, content-close, content-ill}
use Rattle.json_base64.proofs.groups.at_end.Goals as goal

pub returns-in-Code : goal.returns-in-Code
returns-in-Code c =
    rw (content-code c.args.s.now c.args.k
    c.unit_of.ensures c.in-Code.is) refl

pub returns-in-Close : goal.returns-in-Close
returns-in-Close c =
    rw (content-close c.args.s.now c.args.k
    c.unit_of.ensures c.in-Close.is) refl

pub returns-in-Ill : goal.returns-in-Ill
returns-in-Ill c =
    rw (content-ill c.args.s.now c.args.k
    c.unit_of.ensures c.in-Ill.is) refl
