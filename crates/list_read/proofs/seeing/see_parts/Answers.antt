use borrow.Author.Rules.{rules}
use mathlib.Core.Bool.{not}
use mathlib.Core.Path.{ap}
use Rattle.list_read.proofs.Parts.{seen, seen-right}
use Rattle.list_read.proofs.seeing.see_parts.Goals as goal

pub returns-then-not-has_text : goal.returns-then-not-has_text
returns-then-not-has_text c = search (seen, rules)

pub returns-then-not-is_integer : goal.returns-then-not-is_integer
returns-then-not-is_integer c = search (seen, rules)

pub returns-in_err-p : goal.returns-in_err-p
returns-in_err-p c = search (seen, rules)

pub returns-in_err-n : goal.returns-in_err-n
returns-in_err-n c = search (seen, rules)

pub returns-in_err-m : goal.returns-in_err-m
returns-in_err-m c = search (seen, rules)

pub returns : goal.returns
returns c =
    seen-right _ _ _ c.has_text.ensures (ap not c.if-not-has_text.false) c.is_integer.ensures (ap not c.if-not-is_integer.false)
    c.string_place.ensures c.in_ok-p.was c.key_size.ensures c.in_ok-n.was c.addresses_of.ensures c.in_ok-m.was c.may_ask.ensures
