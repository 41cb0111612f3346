-- `list_write::objects::put_server` meets its contract.
use borrow.Author.Rules.{rules}
use Rattle.list_write.proofs.Openings.{server-first}
use Rattle.list_write.specs.Given.{given}
use Rattle.list_write.proofs.Flats.{piece-fits, piece-next, pieces-last}
use Rattle.list_write.proofs.objects.put_server.Goals as goal

pub put_head-a-requires : goal.put_head-a-requires
put_head-a-requires c =
    let a = c.args in
    let put0 = server-first a.out.now a.at
    (given a.server.name.now a.server.version a.server.key.now a.server.addresses.now) c.requires.1 in
    piece-fits _ _ put0

pub put_key-b-requires : goal.put_key-b-requires
put_key-b-requires c =
    let a = c.args in
    let put0 = server-first a.out.now a.at
    (given a.server.name.now a.server.version a.server.key.now a.server.addresses.now) c.requires.1 in
    let put1 = piece-next _ _ put0 c.put_head-a.ensures in
    piece-fits _ _ put1

pub put_items-c-requires : goal.put_items-c-requires
put_items-c-requires c =
    let a = c.args in
    let put0 = server-first a.out.now a.at
    (given a.server.name.now a.server.version a.server.key.now a.server.addresses.now) c.requires.1 in
    let put1 = piece-next _ _ put0 c.put_head-a.ensures in
    let put2 = piece-next _ _ put1 c.put_key-b.ensures in
    (c.requires.0, piece-fits _ _ put2)

pub put_byte-requires : goal.put_byte-requires
put_byte-requires c =
    let a = c.args in
    let put0 = server-first a.out.now a.at
    (given a.server.name.now a.server.version a.server.key.now a.server.addresses.now) c.requires.1 in
    let put1 = piece-next _ _ put0 c.put_head-a.ensures in
    let put2 = piece-next _ _ put1 c.put_key-b.ensures in
    let put3 = piece-next _ _ put2 c.put_items-c.ensures in
    piece-fits _ _ put3

pub returns : goal.returns
returns c =
    let a = c.args in
    let put0 = server-first a.out.now a.at
    (given a.server.name.now a.server.version a.server.key.now a.server.addresses.now) c.requires.1 in
    let put1 = piece-next _ _ put0 c.put_head-a.ensures in
    let put2 = piece-next _ _ put1 c.put_key-b.ensures in
    let put3 = piece-next _ _ put2 c.put_items-c.ensures in
    let put4 = piece-next _ _ put3 c.put_byte.ensures in
    pieces-last put4
