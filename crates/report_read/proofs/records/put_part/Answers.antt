use borrow.Author.Rules.{rules}
use Prim.Native.Nat.{ℕ, ◌+◌, ◌-◌}
use mathlib.Core.Path.{◌∙◌, ap}
use native.Mathlib.Omega.{arith}
use Rattle.laws.proofs.Pasted.{part-back}
use Rattle.json_strings.specs.Text.{content_at}
use Rattle.base64_strict.specs.Decode.{decode64}
use Rattle.json_base64.specs.Sized.{plain}
use Rattle.pile.specs.Recording.{padded}
use Rattle.pile.proofs.Recorded.{length-padded}
use Rattle.report_read.proofs.Areas.{part_length}
use Rattle.report_read.proofs.records.put_part.Goals as goal

pub fill_part-requires : goal.fill_part-requires
fill_part-requires c =
    let a = c.args in
    let p = c.requires in
    let l = part_length a.out.now a.at a.n p.1.1 in
    (p.0, omega arith)

pub returns : goal.returns
returns c =
    let a = c.args in
    let p = c.requires in
    let l = part_length a.out.now a.at a.n p.1.1 in
    let x = plain (decode64 (content_at a.s.now a.p)) in
    part-back a.out.now a.at (a.at + a.n - a.at)
    (c.fill_part.ensures ∙ ap (λ (n : ℕ). padded n x) l) (length-padded a.n x p.1.0
    ∙ omega arith)
