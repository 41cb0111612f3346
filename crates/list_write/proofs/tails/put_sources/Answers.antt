-- `list_write::tails::put_sources` meets its contract.
use borrow.Author.Rules.{rules}
use Rattle.list_write.proofs.Openings.{sources-none, sources-first}
use Rattle.list_write.proofs.Flats.{piece-fits, piece-next, pieces-last}
use Rattle.list_write.proofs.tails.put_sources.Goals as goal

pub returns-then-s-eq0 : goal.returns-then-s-eq0
returns-then-s-eq0 c =
    let a = c.args in
    sources-none a.out.now a.at a.s.now c.if-s-eq0.true c.requires.1

pub put_word-a-requires : goal.put_word-a-requires
put_word-a-requires c =
    let a = c.args in
    let put0 = sources-first a.out.now a.at a.s.now c.if-s-eq0.false c.requires.1 in
    piece-fits _ _ put0

pub put_items-requires : goal.put_items-requires
put_items-requires c =
    let a = c.args in
    let put0 = sources-first a.out.now a.at a.s.now c.if-s-eq0.false c.requires.1 in
    let put1 = piece-next _ _ put0 c.put_word-a.ensures in
    (c.requires.0, piece-fits _ _ put1)

pub returns : goal.returns
returns c =
    let a = c.args in
    let put0 = sources-first a.out.now a.at a.s.now c.if-s-eq0.false c.requires.1 in
    let put1 = piece-next _ _ put0 c.put_word-a.ensures in
    let put2 = piece-next _ _ put1 c.put_items.ensures in
    pieces-last put2
