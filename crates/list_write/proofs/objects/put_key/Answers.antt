-- `list_write::objects::put_key` meets its contract.
use borrow.Author.Rules.{rules}
use Rattle.list_write.proofs.Openings.{key-first}
use Rattle.list_write.proofs.Flats.{piece-fits, piece-next, pieces-last}
use Rattle.list_write.proofs.objects.put_key.Goals as goal

pub put_word-a-requires : goal.put_word-a-requires
put_word-a-requires c =
    let a = c.args in
    let put0 = key-first a.out.now a.at a.key.now c.requires in
    piece-fits _ _ put0

pub put_code-b-requires : goal.put_code-b-requires
put_code-b-requires c =
    let a = c.args in
    let put0 = key-first a.out.now a.at a.key.now c.requires in
    let put1 = piece-next _ _ put0 c.put_word-a.ensures in
    piece-fits _ _ put1

pub put_word-requires : goal.put_word-requires
put_word-requires c =
    let a = c.args in
    let put0 = key-first a.out.now a.at a.key.now c.requires in
    let put1 = piece-next _ _ put0 c.put_word-a.ensures in
    let put2 = piece-next _ _ put1 c.put_code-b.ensures in
    piece-fits _ _ put2

pub returns : goal.returns
returns c =
    let a = c.args in
    let put0 = key-first a.out.now a.at a.key.now c.requires in
    let put1 = piece-next _ _ put0 c.put_word-a.ensures in
    let put2 = piece-next _ _ put1 c.put_code-b.ensures in
    let put3 = piece-next _ _ put2 c.put_word.ensures in
    pieces-last put3
