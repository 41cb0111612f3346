use mathlib.Core.Path.{◌≡◌, ap}
use borrow.Author.Rules.{rules}
use lib.ListN.{length}
use Rattle.std.specs.Prelude.{Err, Ok}
use Rattle.refusal.proofs.Passing.{goes-on}
use Rattle.list_write.specs.Lent.{lent, givens}
use Rattle.list_write.specs.Lending.{lent_of}
use Rattle.list_write.specs.Texts.{list_text}
use Rattle.list_write.specs.Answers.{list_code, list_answer}
use Rattle.list_write.proofs.Answering.{room-short, room-left, answer-refused, answer-short, answer-done, list-ready}
use Rattle.list_write.proofs.Answering.{list-apart, apart-refused}
use Rattle.list_write.proofs.writing.write_servers.Goals as goal

pub returns-in_default : goal.returns-in_default
unfolding list_answer
returns-in_default c =
    let a = c.args in
    let l = lent a.keys.now a.versions.now a.names.now a.name_lengths.now a.addresses.now a.address_lengths.now in
    let w = apart-refused (list_code l a.sources.now a.reports.now) (list_text (givens l) a.sources.now a.reports.now) a.out.now
    (list-apart l a.sources.now a.reports.now (rw c.in_default.is at c.servers.ensures)) in
    rw c.refuse.ensures (record { value = w.0; out_after = w.1 })

pub returns-in_err-check_list : goal.returns-in_err-check_list
unfolding list_answer
returns-in_err-check_list c =
    let a = c.args in
    let l = lent a.keys.now a.versions.now a.names.now a.name_lengths.now a.addresses.now a.address_lengths.now in
    let fit : lent_of c.in-Some.servers.left ≡ l = ap lent_of (rw c.in-Some.is at c.servers.ensures) in
    let e = c.in_err-check_list.field-0.0 in
    let told : c.check_list.result ≡ Err e = search rules in
    let handed : c.from_residual.result ≡ Err e = search rules in
    let w = answer-refused (list_code l a.sources.now a.reports.now) (rw fit at c.check_list.ensures)
    (list_text (givens l) a.sources.now a.reports.now) a.out.now told in
    rw handed (record { value = w.0; out_after = w.1 })

pub list_room-requires : goal.list_room-requires
list_room-requires c = list-ready _ (goes-on _ c.check_list.ensures (search rules))

pub put_list-requires : goal.put_list-requires
put_list-requires c = record {
  ready = list-ready _ (goes-on _ c.check_list.ensures (search rules));
  room = room-left (length c.args.out.now) _ c.list_room.ensures c.in-Some-list_room.is;
}

pub returns-in-Some-list_room : goal.returns-in-Some-list_room
unfolding list_answer
returns-in-Some-list_room c =
    let a = c.args in
    let l = lent a.keys.now a.versions.now a.names.now a.name_lengths.now a.addresses.now a.address_lengths.now in
    let fit : lent_of c.in-Some.servers.left ≡ l = ap lent_of (rw c.in-Some.is at c.servers.ensures) in
    let w = answer-done (list_code l a.sources.now a.reports.now) (rw fit at c.check_list.ensures)
    (list_text (givens l) a.sources.now a.reports.now) a.out.now (search rules) (rw fit at c.put_list.ensures) in
    record { value = w.0; out_after = w.1 }

pub returns-in-None : goal.returns-in-None
unfolding list_answer
returns-in-None c =
    let a = c.args in
    let l = lent a.keys.now a.versions.now a.names.now a.name_lengths.now a.addresses.now a.address_lengths.now in
    let fit : lent_of c.in-Some.servers.left ≡ l = ap lent_of (rw c.in-Some.is at c.servers.ensures) in
    let w = answer-short (list_code l a.sources.now a.reports.now) (rw fit at c.check_list.ensures)
    (list_text (givens l) a.sources.now a.reports.now) a.out.now (search rules)
    (room-short (length a.out.now) _ (rw fit at c.list_room.ensures) c.in-None.is) in
    rw c.refuse-in-None.ensures (record { value = w.0; out_after = w.1 })
