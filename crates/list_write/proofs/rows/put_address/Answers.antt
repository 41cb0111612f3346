-- `list_write::rows::put_address` meets its contract.
use borrow.Author.Rules.{rules}
use Rattle.list_write.proofs.Openings.{address-first}
use Rattle.list_write.proofs.Tests.{line-long}
use native.Mathlib.Omega.{arith}
use lib.ListN.{length-take}
use Rattle.list_write.proofs.Flats.{piece-fits, piece-next, pieces-last}
use Rattle.list_write.proofs.rows.put_address.Goals as goal

pub slice_bounds-put_word-end-2 : goal.slice_bounds-put_word-end-2
slice_bounds-put_word-end-2 c =
    let h = line-long c.args.t.now c.requires.0 in simp length-take (omega arith)

pub slice_bounds-put_quoted-count : goal.slice_bounds-put_quoted-count
slice_bounds-put_quoted-count c = let h = line-long c.args.t.now c.requires.0 in search rules

pub slice_bounds-put_quoted-start : goal.slice_bounds-put_quoted-start
slice_bounds-put_quoted-start c = let h = line-long c.args.t.now c.requires.0 in search rules

pub put_word-a-requires : goal.put_word-a-requires
put_word-a-requires c =
    let a = c.args in
    let put0 = address-first a.out.now a.at a.t.now c.requires.1 in
    piece-fits _ _ put0

pub put_word-b-requires : goal.put_word-b-requires
put_word-b-requires c =
    let a = c.args in
    let put0 = address-first a.out.now a.at a.t.now c.requires.1 in
    let put1 = piece-next _ _ put0 c.put_word-a.ensures in
    piece-fits _ _ put1

pub put_word-c-requires : goal.put_word-c-requires
put_word-c-requires c =
    let a = c.args in
    let put0 = address-first a.out.now a.at a.t.now c.requires.1 in
    let put1 = piece-next _ _ put0 c.put_word-a.ensures in
    let put2 = piece-next _ _ put1 c.put_word-b.ensures in
    piece-fits _ _ put2

pub put_quoted-d-requires : goal.put_quoted-d-requires
put_quoted-d-requires c =
    let a = c.args in
    let put0 = address-first a.out.now a.at a.t.now c.requires.1 in
    let put1 = piece-next _ _ put0 c.put_word-a.ensures in
    let put2 = piece-next _ _ put1 c.put_word-b.ensures in
    let put3 = piece-next _ _ put2 c.put_word-c.ensures in
    piece-fits _ _ put3

pub put_byte-requires : goal.put_byte-requires
put_byte-requires c =
    let a = c.args in
    let put0 = address-first a.out.now a.at a.t.now c.requires.1 in
    let put1 = piece-next _ _ put0 c.put_word-a.ensures in
    let put2 = piece-next _ _ put1 c.put_word-b.ensures in
    let put3 = piece-next _ _ put2 c.put_word-c.ensures in
    let put4 = piece-next _ _ put3 c.put_quoted-d.ensures in
    piece-fits _ _ put4

pub returns : goal.returns
returns c =
    let a = c.args in
    let put0 = address-first a.out.now a.at a.t.now c.requires.1 in
    let put1 = piece-next _ _ put0 c.put_word-a.ensures in
    let put2 = piece-next _ _ put1 c.put_word-b.ensures in
    let put3 = piece-next _ _ put2 c.put_word-c.ensures in
    let put4 = piece-next _ _ put3 c.put_quoted-d.ensures in
    let put5 = piece-next _ _ put4 c.put_byte.ensures in
    pieces-last put5
