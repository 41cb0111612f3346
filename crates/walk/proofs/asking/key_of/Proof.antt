-- `walk::asking::key_of` meets its contract.
use mathlib.Core.Path.{◌≡◌}
use lib.ListN.{length}
use native.Mathlib.Omega.{arith}
use Rattle.walk.specs.State.{key_of}
use Rattle.walk.proofs.Lengths.{server-below}
use borrow.Author.Rules.{rules}
use Rattle.walk.proofs.asking.key_of.Statement.{statement}
use Rattle.walk.proofs.asking.key_of.Tie as tie

long : (s : tie.Start) → length s.args.w.keys ≡ 256
long s = search rules

mul-copy32 : tie.Need-overflow_mul-k
mul-copy32 c =
    let s = c.before.before.before in
    omega (arith, server-below s.args.w s.requires, s.requires.to)

copy32-requires : tie.Need-copy32-requires
copy32-requires c κs =
    let s = c.before.before.before in
    omega (arith, long s, server-below s.args.w s.requires, s.requires.to)

returns : tie.Need-returns
unfolding key_of
returns c = c.copy32.ensures

pub key_of_spec : {M : Type 1} → statement M
key_of_spec =
    tie.close
    (tie.spec
    (λ c. search rules)
    (λ c. search rules)
    mul-copy32
    copy32-requires
    returns)
