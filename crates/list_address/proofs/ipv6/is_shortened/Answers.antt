use Prim.Native.Nat.{◌+◌}
use mathlib.Core.Path.{◌∙◌, sym}
use native.Mathlib.Omega.{arith}
use Rattle.list_address.proofs.Tails.{tail_all}
use Rattle.list_address.proofs.Pieces.{double-room, front-wrong, back-wrong, around}
use Rattle.list_address.proofs.ipv6.is_shortened.Goals as goal

pub returns-in_default : goal.returns-in_default
returns-in_default c = front-wrong _ _ (sym c.side.ensures.value ∙ c.in_default.is)

pub slice_bounds-side-count : goal.slice_bounds-side-count
slice_bounds-side-count c = let r = double-room _ _ c.requires.1 in omega arith

pub slice_bounds-side-start : goal.slice_bounds-side-start
slice_bounds-side-start c = let r = double-room _ _ c.requires.1 in omega arith

pub returns-in_default-side : goal.returns-in_default-side
returns-in_default-side c =
    back-wrong _ _ (tail_all (c.args.k + 2) c.args.s.now) (sym c.side-2.ensures.value ∙ c.in_default-side.is)

pub returns : goal.returns
returns c =
    around _ _ (tail_all (c.args.k + 2) c.args.s.now) (sym c.side.ensures.value ∙ c.in-Some.is) (sym c.side-2.ensures.value ∙ c.in-Some-side.is)
