-- `sha512::feeding::update` meets its contract. A part that fills no block waits; one that does goes with what waited.
use Rattle.std.proofs.Common.{ℕ, ◌-◌, ◌%◌, List, length, take, drop, refl, arith, rules}
use Rattle.sha512.proofs.State.{kept-is, moved-is}
use Rattle.sha512.proofs.feeding.update.Goals as goal

pub returns-then-s-e : goal.returns-then-s-e
returns-then-s-e c =
    let a = c.args in
    kept-is a.r a.s.now c.put.new.dst _ (search rules) refl (omega arith) c.put.ensures

pub returns : goal.returns
returns c =
    let r = c.args.r in
    let s : List ℕ = c.args.s.now in
    let e : ℕ = 128 - r.count % 128 in
    moved-is r s c.put-2.new.dst _ (search rules) refl
    c.hash_blocks-x.result c.hash_blocks-y.result c.put-3.new.dst (take (length s - e) (drop e s)) c.if-s-e.false
    c.put-2.ensures c.hash_blocks-x.ensures refl c.hash_blocks-y.ensures c.put-3.ensures
