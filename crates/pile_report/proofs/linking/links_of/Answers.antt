-- `pile_report::linking::links_of` meets its contract. Each place passed holds its link; the first record has none.
use Rattle.check_response.specs.declared.Window.{Window}
use Rattle.refusal.specs.declared.Refusal.{Refusal}
use Rattle.std.specs.Prelude.{Result}
use Prim.Native.Nat.{◌-◌}
use mathlib.Core.Path.{◌≡◌, refl, ap₂, ◌∙◌}
use mathlib.Core.Bool.{false, ◌&&◌}
use native.Mathlib.Omega.{arith}
use lib.ListN.{length-set}
use borrow.Author.Tests.{ne_eqb}
use Rattle.laws.proofs.Fill.{fill-next}
use Rattle.pile.specs.Links.{linked_of}
use Rattle.pile_runs.specs.Clash.{valid}
use Rattle.pile_runs.specs.Convict.{verdict_in}
use Rattle.pile_runs.proofs.Past.{reads}
use Rattle.pile_report.specs.Promises.{between}
use Rattle.pile_report.proofs.linking.links_of.Goals as goal

pub loop-k-init : goal.loop-k-init
loop-k-init c =
    (omega arith, omega arith, refl, λ i l. let e : i ≡ 0 = omega arith in rw e refl)

pub loop-k-preserved : goal.loop-k-preserved
loop-k-preserved c =
    let loop = c.loop-k in
    let vs = c.args.verdicts in
    let before = reads vs (loop.k - 1) _ (omega arith) in
    let here = reads vs loop.k _ (omega arith) in
    let both = λ (x y : Result Window Refusal). valid x && (valid y && linked_of c.args.pile.now loop.k) in (
      omega arith,
      omega arith,
      simp length-set loop.invariant.2,
      fill-next (between (verdict_in c.args.verdicts) (linked_of c.args.pile.now)) false loop.links
          loop.k c.link_at.result (omega arith) loop.invariant.3
          (rw (ne_eqb loop.k 0 (λ e. omega arith)) (c.link_at.ensures ∙ ap₂ both before here)),
    )

pub returns : goal.returns
returns c = λ i l. c.loop-k.invariant.3 i (omega arith)
