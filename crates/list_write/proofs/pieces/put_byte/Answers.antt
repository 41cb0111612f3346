-- `list_write::pieces::put_byte` meets its contract.
use borrow.Author.Rules.{rules}
use mathlib.Core.Path.{refl}
use native.Mathlib.Numerals.{add-one}
use lib.Seq.{set_split}
use Rattle.laws.specs.Pasted.{pasted}
use Rattle.laws.proofs.Written.{puts_one}
use Rattle.list_write.proofs.pieces.put_byte.Goals as goal

pub returns : goal.returns
unfolding pasted
returns c =
    let a = c.args in
    puts_one _ _ (rw add-one (set_split a.out.now a.at a.b (search rules))) refl c.requires
