-- `list_write::tails::put_reports` meets its contract.
use borrow.Author.Rules.{rules}
use Rattle.list_write.proofs.Openings.{reports-none, reports-first}
use Rattle.list_write.proofs.Flats.{piece-fits, piece-next, pieces-last}
use Rattle.list_write.proofs.tails.put_reports.Goals as goal

pub returns-then-u-eq0 : goal.returns-then-u-eq0
returns-then-u-eq0 c =
    let a = c.args in
    reports-none a.out.now a.at a.u.now c.if-u-eq0.true c.requires

pub put_word-a-requires : goal.put_word-a-requires
put_word-a-requires c =
    let a = c.args in
    let put0 = reports-first a.out.now a.at a.u.now c.if-u-eq0.false c.requires in
    piece-fits _ _ put0

pub put_quoted-requires : goal.put_quoted-requires
put_quoted-requires c =
    let a = c.args in
    let put0 = reports-first a.out.now a.at a.u.now c.if-u-eq0.false c.requires in
    let put1 = piece-next _ _ put0 c.put_word-a.ensures in
    piece-fits _ _ put1

pub returns : goal.returns
returns c =
    let a = c.args in
    let put0 = reports-first a.out.now a.at a.u.now c.if-u-eq0.false c.requires in
    let put1 = piece-next _ _ put0 c.put_word-a.ensures in
    let put2 = piece-next _ _ put1 c.put_quoted.ensures in
    pieces-last put2
