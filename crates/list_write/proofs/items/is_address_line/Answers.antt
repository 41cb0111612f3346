-- `list_write::items::is_address_line` meets its contract.
use mathlib.Core.Path.{ap}
use mathlib.Core.Bool.{not}
use borrow.Author.Rules.{rules}
use Rattle.list_write.proofs.Tests.{short-line, other-line, long-line, address_line}
use native.Mathlib.Omega.{arith}
use lib.ListN.{length-take}
use Rattle.list_write.proofs.items.is_address_line.Goals as goal

pub returns-then-t-lt4 : goal.returns-then-t-lt4
returns-then-t-lt4 c = short-line _ c.if-t-lt4.true

pub returns-then-not-is_protocol : goal.returns-then-not-is_protocol
returns-then-not-is_protocol c = other-line _ c.is_protocol.ensures (ap not c.if-not-is_protocol.true)

pub returns-then-t-gt-LONGEST : goal.returns-then-t-gt-LONGEST
returns-then-t-gt-LONGEST c =
    long-line _ c.is_protocol.ensures (ap not c.if-not-is_protocol.false) c.if-t-gt-LONGEST.true

pub slice_bounds-is_protocol-end : goal.slice_bounds-is_protocol-end
slice_bounds-is_protocol-end c = simp length-take (omega arith)

pub returns : goal.returns
returns c =
    address_line _ c.is_protocol.ensures (ap not c.if-not-is_protocol.false) c.if-t-gt-LONGEST.false c.if-t-lt4.false
    c.is_address.ensures
