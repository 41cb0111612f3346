-- `c_packets::numbers::flag` meets its contract.
use mathlib.Core.Bool.{Bool, true, false}
use mathlib.Core.Path.{◌≡◌, refl, ◌∙◌}
use mir.Val.{bool_byte}
use Rattle.c_packets.specs.Reading.{flag_of}
use borrow.Author.Rules.{rules}
use Rattle.c_packets.proofs.numbers.flag.Goals as goal

-- a `bool` as a number is 1 for yes and 0 for no
flag-is : (b : Bool) → bool_byte b ≡ flag_of b
flag-is true = refl
flag-is false = refl

pub returns : goal.returns
returns c = c.from.ensures ∙ flag-is _
