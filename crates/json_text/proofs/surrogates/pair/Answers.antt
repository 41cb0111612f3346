use borrow.Author.Rules.{rules}
use mathlib.Core.Path.{refl}
use Rattle.json_text.specs.Octets.{paired}
use Rattle.json_text.proofs.Joins.{high-from, high-to, low-from, low-to}
use Rattle.json_text.proofs.surrogates.pair.Goals as goal

pub overflow_sub-result : goal.overflow_sub-result
overflow_sub-result c = high-from c.args.h c.requires.0

pub overflow_mul-result : goal.overflow_mul-result
overflow_mul-result c = let g = high-to c.args.h c.requires.0 in search rules

pub overflow_add-result : goal.overflow_add-result
overflow_add-result c = let g = high-to c.args.h c.requires.0 in search rules

pub overflow_sub-result-2 : goal.overflow_sub-result-2
overflow_sub-result-2 c = low-from c.args.l c.requires.1

pub overflow_add-result-2 : goal.overflow_add-result-2
overflow_add-result-2 c =
    let g = high-to c.args.h c.requires.0 in
    let f = low-to c.args.l c.requires.1 in search rules

pub returns : goal.returns
unfolding paired
returns c = refl
