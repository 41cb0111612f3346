-- `report_write::pieces::put_object` meets its contract: the packets follow the head, and two bytes the packets.
use borrow.Author.Rules.{rules}
use native.Mathlib.Omega.{arith}
use mathlib.Core.Path.{refl}
use mathlib.Core.List.{[], ◌∷◌, ◌++◌}
use Rattle.laws.proofs.Written.{puts-more, puts-put}
use Rattle.report_write.specs.Entries.{entry_of}
use Rattle.report_write.specs.Pieces.{head_of, packets_of, object_text}
use Rattle.report_write.proofs.Puts.{left-fits, right-fits}
use Rattle.report_write.proofs.pieces.put_object.Goals as goal

pub put_head-h-requires : goal.put_head-h-requires
unfolding object_text
put_head-h-requires c =
    let a = c.args in
    let e = entry_of a.r.now.bytes.now in
    let l =
    left-fits a.at (head_of a.first e ++ packets_of e) (34 ∷ 125 ∷ []) c.requires.1 in
    left-fits a.at (head_of a.first e) (packets_of e) l

pub put_packets-k-requires : goal.put_packets-k-requires
unfolding object_text
put_packets-k-requires c =
    let a = c.args in
    let e = entry_of a.r.now.bytes.now in
    let l =
    left-fits a.at (head_of a.first e
    ++ packets_of e) (34 ∷ 125 ∷ []) c.requires.1 in (
      c.requires.0,
      right-fits (head_of a.first e) (packets_of e) c.put_head-h.ensures l,
    )

pub put-requires : goal.put-requires
unfolding object_text
put-requires c =
    let a = c.args in
    let e = entry_of a.r.now.bytes.now in
    let p =
    puts-more c.put_head-h.ensures
    c.put_packets-k.ensures in
    right-fits (head_of a.first e
    ++ packets_of e) (34 ∷ 125 ∷ []) p
    c.requires.1

pub overflow_add-result : goal.overflow_add-result
unfolding object_text
overflow_add-result c =
    let a =
    c.args in
    let e = entry_of a.r.now.bytes.now in
    let p =
    puts-more
    c.put_head-h.ensures
    c.put_packets-k.ensures in
    let h =
    right-fits (head_of a.first e
    ++ packets_of e) (34 ∷ 125 ∷ []) p
    c.requires.1 in
    search rules

pub returns : goal.returns
unfolding object_text
returns c =
    let a =
    c.args in
    let e = entry_of a.r.now.bytes.now in
    let p =
    puts-more
    c.put_head-h.ensures
    c.put_packets-k.ensures in
    let h =
    right-fits (head_of a.first e
    ++ packets_of e) (34 ∷ 125 ∷ []) p
    c.requires.1 in
    puts-put (34 ∷ 125 ∷ []) _ p c.put.ensures refl (omega (
      arith,
      p.ends,
      c.requires.1,
      h,
    ))
