-- `octets::compare::all_zero` meets its contract: what each of the two tests says, and then both.
use Prim.Native.Nat.{◌*◌, ◌/◌}
use lib.Dec.{eqb}
use lib.ListN.{length, drop}
use mathlib.Core.Path.{sym, ◌∙◌}
use borrow.Author.Rules.{rules}
use borrow.Author.Tests.{tests}
use Rattle.std.specs.Simd.{first_chunks}
use Rattle.std.proofs.lemmas.Iterator.{YieldsList-from_slice}
use Rattle.std.proofs.lemmas.Iterator.Search.{all_from_yields_List}
use Rattle.octets.proofs.Zeros.{none, tests_zeros}
use Rattle.octets.proofs.compare.all_zero.Goals as goal

pub returns-then-all : goal.returns-then-all
returns-then-all c =
    let s = c.args.s.now in
    let front = YieldsList-from_slice (first_chunks 8 (length s / 8) s) cc in
    let back = YieldsList-from_slice (drop (length s / 8 * 8) s) cc in
    let known = all_from_yields_List none _ _ _ c.all.ensures.ran front (λ x b q k. search (rules, tests)) in
    all_from_yields_List (λ x. eqb x 0) _ _ _ c.all-then-all.ensures.ran back (λ x b q k. search (rules, tests))
    ∙ tests_zeros s _ (sym c.if-all.true ∙ known)

pub returns-else-all : goal.returns-else-all
returns-else-all c =
    let s = c.args.s.now in
    let front = YieldsList-from_slice (first_chunks 8 (length s / 8) s) cc in
    let known = all_from_yields_List none _ _ _ c.all.ensures.ran front (λ x b q k. search (rules, tests)) in
    c.if-all.false ∙ tests_zeros s _ (sym c.if-all.false ∙ known)
