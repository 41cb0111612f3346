use borrow.Author.Rules.{rules}
use native.Mathlib.Omega.{arith}
use lib.ListN.{length, length-replicate}
use Prim.Native.Nat.{ℕ}
use mathlib.Core.Path.{ap}
use Rattle.json_strings.specs.Text.{content_at}
use Rattle.base64_strict.specs.Decode.{decode64}
use Rattle.json_base64.specs.Sized.{plain}
use Rattle.report_read.proofs.Areas.{fill_done}
use Rattle.report_read.proofs.records.fill_part.Goals as goal

pub returns : goal.returns
returns c =
    let a = c.args in
    fill_done (length a.out.now) (plain (decode64 (content_at a.s.now a.p))) c.clear.ensures
    c.requires.1 c.fill.ensures

pub fill-requires : goal.fill-requires
fill-requires c =
    let p = c.requires in
    let z = c.clear.ensures in
    (p.0, omega (arith, ap length z, length-replicate {A = ℕ} (length c.args.out.now) 0))
