use borrow.Author.Rules.{rules}
use Rattle.json_strings.specs.Sizes.{HexedBy}
use Rattle.json_text.proofs.characters.unit_at.Goals as goal

pub overflow_add-result : goal.overflow_add-result
overflow_add-result c =
    let h : HexedBy _ _ _ = rw c.in-Some.is at c.hex_code.ensures in
    let f = h.fits in search rules

pub returns-in-Some : goal.returns-in-Some
returns-in-Some c = let h : HexedBy _ _ _ = rw c.in-Some.is at c.hex_code.ensures in h.on
