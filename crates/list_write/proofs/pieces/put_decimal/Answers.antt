-- `list_write::pieces::put_decimal` meets its contract.
use borrow.Author.Rules.{rules}
use native.Mathlib.Omega.{arith}
use mathlib.Core.Path.{ap}
use lib.ListN.{length}
use Rattle.laws.proofs.Written.{puts-as}
use Rattle.list_write.proofs.Spelling.{spelt-rest}
use Rattle.list_write.proofs.pieces.put_decimal.Goals as goal

pub slice_bounds-put_word-count : goal.slice_bounds-put_word-count
slice_bounds-put_word-count c =
    let d = c.digits_of-d.ensures in omega (arith, d.inside, d.long)

pub slice_bounds-put_word-start : goal.slice_bounds-put_word-start
slice_bounds-put_word-start c = let d = c.digits_of-d.ensures.inside in search rules

pub slice_bounds-put_word-end : goal.slice_bounds-put_word-end
slice_bounds-put_word-end c = let d = c.digits_of-d.ensures.long in search rules

pub put_word-requires : goal.put_word-requires
put_word-requires c =
    omega (arith, c.requires, ap length (spelt-rest c.digits_of-d.ensures))

pub returns : goal.returns
returns c =
    puts-as (spelt-rest c.digits_of-d.ensures) c.put_word.ensures
