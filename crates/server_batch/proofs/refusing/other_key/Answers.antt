-- `server_batch::refusing::other_key` meets its contract.
use mathlib.Core.Bool.{not}
use mathlib.Core.List.{List}
use mathlib.Core.Path.{ap, ap₂, ◌∙◌}
use Prim.Native.Nat.{ℕ}
use Rattle.laws.specs.Same.{same}
use Rattle.wire_message.specs.Tags.{PUBK}
use Rattle.wire_message.specs.Values.{value_of}
use Rattle.server_batch.specs.Answering.{other_key}
use Rattle.server_batch.proofs.refusing.other_key.Goals as goal

pub value32-theirs-requires : goal.value32-theirs-requires
value32-theirs-requires c =
    let s = c.requires in
    rw c.value_of.ensures (s.dele-frame, s.pubk-long)

pub returns : goal.returns
unfolding other_key
returns c =
    let theirs = c.value32-theirs.ensures ∙ ap (λ (m : List ℕ). value_of m PUBK) c.value_of.ensures in
    ap not (c.equal.ensures ∙ ap₂ same c.args.service.now.own theirs)
