-- `walk::taking::accept` meets its contract.
use Rattle.std.specs.Prelude.{Ok}
use mathlib.Core.Path.{refl}
use native.Mathlib.Omega.{arith}
use Rattle.walk.proofs.Accepting.{accepted}
use Rattle.walk.proofs.Lengths.{Long, length-recorded}
use Rattle.walk.proofs.Taken.{taken}
use borrow.Author.Rules.{rules}
use Rattle.walk.proofs.taking.accept.Goals as goal

pub put_record-requires : goal.put_record-requires
put_record-requires c =
    let a = accepted _ c.args.h _ _ refl c.requires.0 in
    (a.goes, c.requires.1, a.short, omega (arith, a.goes.inside, a.fits))

pub said_of-said-requires : goal.said_of-said-requires
said_of-said-requires c =
    let a = accepted _ c.args.h _ _ refl c.requires.0 in
    let x = c.args.response.now in
    let long : Long c.args.w = record { keys = search rules; nonce = search rules; rand = search rules } in
    let n = length-recorded c.args.w long a.goes x a.short c.args.pile.now a.fits in
    (a.goes, rw (c.put_record.ensures, n) a.fits)

pub moved_on-requires : goal.moved_on-requires
moved_on-requires c = (accepted _ c.args.h _ _ refl c.requires.0).goes

pub returns : goal.returns
returns c =
    let t =
    taken c.args.w c.args.h c.args.response.now c.args.pile.now _ (Ok c.said_of-said.result) _ c.requires.0
    c.requires.2 c.put_record.ensures c.said_of-said.ensures c.moved_on.ensures in
    record { said_value = t.0; takes = t.1.0; walk_value = t.1.1.0; pile_after = t.1.1.1 }
