-- `sha512::tagging::sha512_tagged` meets its contract.
use Rattle.std.proofs.Common.{refl, ap, ◌∙◌, arith, length-take}
use Rattle.sha512.specs.Computation.{digest, Sha512}
use Rattle.sha512.specs.InitialHash.{H0}
use Rattle.sha512.proofs.Tagged.{tagged-short, tagged-long}
use Rattle.sha512.proofs.tagging.sha512_tagged.Goals as goal

pub slice_bounds-sha512-end : goal.slice_bounds-sha512-end
slice_bounds-sha512-end c = simp length-take (omega arith)

pub returns-then-n-lt128 : goal.returns-then-n-lt128
returns-then-n-lt128 c =
    let a = c.args in
    let put = c.put in
    c.sha512.ensures ∙ ap Sha512 (tagged-short a.tag a.a.now put.new.dst (omega arith) put.ensures)

pub slice_bounds-put-end-3 : goal.slice_bounds-put-end-3
slice_bounds-put-end-3 c = simp length-take (omega arith)

pub put-requires-2 : goal.put-requires-2
put-requires-2 c = simp length-take (omega arith)

pub returns : goal.returns
unfolding Sha512
returns c =
    let a = c.args in
    let put = c.put-2 in
    c.digest.ensures
    ∙ ap digest
    (c.last.ensures
    ∙ rw (
      c.hash_open_blocks-y.ensures,
      c.hash_open_blocks-x.ensures,
      c.initial_hash.ensures,
    ) (tagged-long a.tag a.a.now put.new.dst H0 _ (omega arith) put.ensures refl))
