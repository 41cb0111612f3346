-- check_response/proofs/downgrading/downgrades_to/Answers.antt
-- `check_response::downgrading::downgrades_to` meets its contract.
use Prim.Native.Nat.{ℕ, ◌/◌}
use lib.ListN.{length}
use mathlib.Core.Bool.{Bool}
use mathlib.Core.List.{List}
use mathlib.Core.Path.{◌∙◌}
use mir.Syntax.{w32}
use borrow.Author.Rules.{rules}
use Rattle.std.specs.Int.{from_le_bytes}
use Rattle.std.specs.Simd.{first_chunks}
use Rattle.std.proofs.lemmas.Iterator.{YieldsList-from_slice}
use Rattle.std.proofs.lemmas.Iterator.Search.{any_from_yields_List}
use Rattle.wire_message.proofs.Scans.{words_somewhere}
use Rattle.check_response.specs.Downgrade.{asked_above, downgrades}
use Rattle.check_response.proofs.downgrading.downgrades_to.Goals as goal

pub returns : goal.returns
unfolding downgrades
returns c =
    let a = c.args in
    let vers = a.vers.now in
    let n = length vers / 4 in
    let test : List ℕ → Bool = λ w. asked_above a.ver.now a.chosen (from_le_bytes w32 w) in
    any_from_yields_List test _ _ c.any.result c.any.ensures.ran (YieldsList-from_slice (first_chunks 4 n vers) cc)
    (λ x b q k. search rules)
    ∙ words_somewhere (asked_above a.ver.now a.chosen) vers n
