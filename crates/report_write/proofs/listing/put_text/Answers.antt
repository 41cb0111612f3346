-- `report_write::listing::put_text` meets its contract: the list follows the opening.
use borrow.Author.Rules.{rules}
use Rattle.report_write.proofs.Lists.{text-fits, list-fits, text-done}
use Rattle.report_write.proofs.listing.put_text.Goals as goal

pub put-requires : goal.put-requires
put-requires c =
    let a = c.args in
    let h = text-fits a.p.now a.out.now a.n c.requires.0 c.requires.1 in search rules

pub slice_bounds-put_list-count : goal.slice_bounds-put_list-count
slice_bounds-put_list-count c =
    let a = c.args in
    let h = text-fits a.p.now a.out.now a.n c.requires.0 c.requires.1 in search rules

pub slice_bounds-put_list-start : goal.slice_bounds-put_list-start
slice_bounds-put_list-start c =
    let a = c.args in
    let h = text-fits a.p.now a.out.now a.n c.requires.0 c.requires.1 in search rules

pub put_list-requires : goal.put_list-requires
put_list-requires c =
    let a = c.args in (
      c.requires.0,
      list-fits a.p.now a.out.now a.n c.requires.0 c.requires.1 c.put.ensures,
    )

pub returns : goal.returns
returns c =
    let a = c.args in
    text-done a.p.now a.out.now a.n c.requires.0 c.requires.1
    c.put.ensures c.put_list.ensures
