use borrow.Author.Rules.{rules}
use Rattle.list_write.specs.Facts.{given_left}
use Rattle.list_write.proofs.Answering.{list-first}
use Rattle.list_write.proofs.Flats.{piece-fits, piece-next, pieces-last}
use Rattle.list_write.proofs.whole.put_list.Goals as goal

pub put_word-a-requires : goal.put_word-a-requires
put_word-a-requires c =
    let l = c.args.list in
    let put0 = list-first (given_left l.servers) l.sources.now l.reports.now c.args.out.now c.requires.room in
    piece-fits _ _ put0

pub put_servers-b-requires : goal.put_servers-b-requires
put_servers-b-requires c =
    let l = c.args.list in
    let put0 = list-first (given_left l.servers) l.sources.now l.reports.now c.args.out.now c.requires.room in
    let put1 = piece-next _ _ put0 c.put_word-a.ensures in
    record { good = c.requires.ready.servers; room = piece-fits _ _ put1 }

pub put_sources-c-requires : goal.put_sources-c-requires
put_sources-c-requires c =
    let l = c.args.list in
    let put0 = list-first (given_left l.servers) l.sources.now l.reports.now c.args.out.now c.requires.room in
    let put1 = piece-next _ _ put0 c.put_word-a.ensures in
    let put2 = piece-next _ _ put1 c.put_servers-b.ensures in
    (c.requires.ready.lines, piece-fits _ _ put2)

pub put_reports-d-requires : goal.put_reports-d-requires
put_reports-d-requires c =
    let l = c.args.list in
    let put0 = list-first (given_left l.servers) l.sources.now l.reports.now c.args.out.now c.requires.room in
    let put1 = piece-next _ _ put0 c.put_word-a.ensures in
    let put2 = piece-next _ _ put1 c.put_servers-b.ensures in
    let put3 = piece-next _ _ put2 c.put_sources-c.ensures in
    piece-fits _ _ put3

pub put_byte-requires : goal.put_byte-requires
put_byte-requires c =
    let l = c.args.list in
    let put0 = list-first (given_left l.servers) l.sources.now l.reports.now c.args.out.now c.requires.room in
    let put1 = piece-next _ _ put0 c.put_word-a.ensures in
    let put2 = piece-next _ _ put1 c.put_servers-b.ensures in
    let put3 = piece-next _ _ put2 c.put_sources-c.ensures in
    let put4 = piece-next _ _ put3 c.put_reports-d.ensures in
    piece-fits _ _ put4

pub returns : goal.returns
returns c =
    let l = c.args.list in
    let put0 = list-first (given_left l.servers) l.sources.now l.reports.now c.args.out.now c.requires.room in
    let put1 = piece-next _ _ put0 c.put_word-a.ensures in
    let put2 = piece-next _ _ put1 c.put_servers-b.ensures in
    let put3 = piece-next _ _ put2 c.put_sources-c.ensures in
    let put4 = piece-next _ _ put3 c.put_reports-d.ensures in
    let put5 = piece-next _ _ put4 c.put_byte.ensures in
    pieces-last put5
