-- `list_write::objects::put_head` meets its contract.
use borrow.Author.Rules.{rules}
use Rattle.list_write.proofs.Openings.{head_first}
use Rattle.list_write.proofs.Flats.{piece-fits, piece-next, pieces-last}
use Rattle.list_write.proofs.objects.put_head.Goals as goal

pub put_word-a-requires : goal.put_word-a-requires
put_word-a-requires c =
    let a = c.args in
    let put0 = head_first a.out.now a.at a.name.now a.version c.requires in
    piece-fits _ _ put0

pub put_quoted-b-requires : goal.put_quoted-b-requires
put_quoted-b-requires c =
    let a = c.args in
    let put0 = head_first a.out.now a.at a.name.now a.version c.requires in
    let put1 = piece-next _ _ put0 c.put_word-a.ensures in
    piece-fits _ _ put1

pub put_word-c-requires : goal.put_word-c-requires
put_word-c-requires c =
    let a = c.args in
    let put0 = head_first a.out.now a.at a.name.now a.version c.requires in
    let put1 = piece-next _ _ put0 c.put_word-a.ensures in
    let put2 = piece-next _ _ put1 c.put_quoted-b.ensures in
    piece-fits _ _ put2

pub put_decimal-requires : goal.put_decimal-requires
put_decimal-requires c =
    let a = c.args in
    let put0 = head_first a.out.now a.at a.name.now a.version c.requires in
    let put1 = piece-next _ _ put0 c.put_word-a.ensures in
    let put2 = piece-next _ _ put1 c.put_quoted-b.ensures in
    let put3 = piece-next _ _ put2 c.put_word-c.ensures in
    piece-fits _ _ put3

pub returns : goal.returns
returns c =
    let a = c.args in
    let put0 = head_first a.out.now a.at a.name.now a.version c.requires in
    let put1 = piece-next _ _ put0 c.put_word-a.ensures in
    let put2 = piece-next _ _ put1 c.put_quoted-b.ensures in
    let put3 = piece-next _ _ put2 c.put_word-c.ensures in
    let put4 = piece-next _ _ put3 c.put_decimal.ensures in
    pieces-last put4
