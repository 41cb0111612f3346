-- wire_packet/proofs/fields/lacks/Answers.antt
-- `wire_packet::fields::lacks` meets its contract.
use Prim.Native.Nat.{ℕ, ◌/◌}
use lib.Dec.{eqb}
use lib.ListN.{length}
use mathlib.Core.Bool.{Bool, not}
use mathlib.Core.List.{List}
use mathlib.Core.Path.{ap, ◌∙◌}
use mir.Syntax.{w32}
use borrow.Author.Rules.{rules}
use borrow.Author.Tests.{tests}
use Rattle.std.specs.Int.{from_le_bytes}
use Rattle.std.specs.Simd.{first_chunks}
use Rattle.std.proofs.lemmas.Iterator.{YieldsList-from_slice}
use Rattle.std.proofs.lemmas.Iterator.Search.{any_from_yields_List}
use Rattle.wire_message.proofs.Scans.{words_somewhere}
use Rattle.wire_packet.specs.Versions.{lacks_version}
use Rattle.wire_packet.proofs.fields.lacks.Goals as goal

pub returns : goal.returns
unfolding lacks_version
returns c =
    let v = c.args.v.now in
    let n = length v / 4 in
    let test : List ℕ → Bool = λ w. eqb (from_le_bytes w32 w) c.args.x in
    ap not
    (any_from_yields_List test _ _ c.any.result c.any.ensures.ran (YieldsList-from_slice (first_chunks 4 n v) cc)
    (λ x b q k. search (rules, tests))
    ∙ words_somewhere (λ y. eqb y c.args.x) v n)
