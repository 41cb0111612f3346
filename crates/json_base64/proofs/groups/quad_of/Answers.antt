use mathlib.Core.Path.{refl}
use Rattle.json_strings.proofs.Content.{content-close}
use Rattle.json_strings.proofs.Runs.{run_inside, unit-quoted}
use Rattle.json_base64.proofs.groups.quad_of.Goals as goal

pub returns-then-a-eq34 : goal.returns-then-a-eq34
returns-then-a-eq34 c =
    content-close _ _ refl (unit-quoted _ _ c.byte-a.ensures c.if-a-eq34.true)

pub quad_plain-requires : goal.quad_plain-requires
quad_plain-requires c =
    run_inside c.args.s.now _
    c.byte-a.ensures
    c.is_unescaped.ensures c.if-is_unescaped.true
