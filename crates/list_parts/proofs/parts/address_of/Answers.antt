use Rattle.list_parts.specs.Parts.{address_of, tcp_of}
use Rattle.list_read.specs.Server.{server_at}
use borrow.Author.Rules.{rules}
use Rattle.list_read.specs.Server.{of_server}
use Rattle.list_parts.proofs.Lists.{server-inside, item-inside, item-address, item-tcp, item-lacks}
use Rattle.list_parts.proofs.Given.{tells_none, tells-same}
use Rattle.list_parts.proofs.parts.address_of.Goals as goal

pub find-addresses-requires : goal.find-addresses-requires
find-addresses-requires c = server-inside _ c.requires

pub returns-in_default : goal.returns-in_default
unfolding of_server
returns-in_default c =
    let a = c.args in
    let v = server_at a.s.now a.k in
    let r = tells_none (tcp_of v a.j) (address_of v a.j) a.out.now
    (item-lacks _ _ _ c.find-addresses.ensures c.member_item.ensures c.in_default.is) c.refuse.ensures in
    record { value = r.0; out_after = r.1 }

pub put_address-requires : goal.put_address-requires
unfolding of_server
put_address-requires c =
    item-inside _ _ _ c.find-addresses.ensures
    c.member_item.ensures
    c.requires c.in-Some.is

pub returns : goal.returns
unfolding of_server
returns c =
    let a = c.args in
    let p = c.put_address.ensures in
    let r = tells-same a.out.now c.put_address.result
    (item-tcp _ _ _ c.find-addresses.ensures c.member_item.ensures c.requires c.in-Some.is)
    (item-address _ _ _ c.find-addresses.ensures c.member_item.ensures c.requires c.in-Some.is)
    (p.value, p.out_after) in
    record { value = r.0; out_after = r.1 }
