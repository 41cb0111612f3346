use Prim.Native.Nat.{◌<◌}
use mathlib.Core.Path.{◌∙◌}
use lib.ListN.{length}
use native.Mathlib.Omega.{arith}
use borrow.Author.Rules.{rules}
use Rattle.std.proofs.lemmas.Iterator.{YieldsList-from_slice}
use Rattle.std.proofs.lemmas.Iterator.Search.{all_from_yields_List}
use Rattle.list_address.proofs.Scans.{every_all}
use Rattle.list_address.proofs.Sizes.{run-every}
use Rattle.list_address.proofs.scan.is_run.Goals as goal

pub returns : goal.returns
returns g c p t =
    let e = all_from_yields_List p _ _ c.all.result c.all.ensures.ran (YieldsList-from_slice c.args.s.now cc)
    (λ x b q k. search (rules, t.tells)) in
    let some : 0 < length c.args.s.now = grind arith in
    e ∙ every_all p c.args.s.now ∙ run-every p _ _ some c.if-most-s.false
