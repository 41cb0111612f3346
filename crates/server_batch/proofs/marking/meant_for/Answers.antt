-- `server_batch::marking::meant_for` meets its contract. Each way out has its law.
use mathlib.Core.List.{List}
use mathlib.Core.Path.{ap, sym, ◌∙◌}
use Prim.Native.Nat.{ℕ}
use Rattle.laws.specs.Same.{same}
use Rattle.wire_message.specs.Tags.{SRV}
use Rattle.wire_message.specs.Values.{has, value_of}
use Rattle.wire_packet.proofs.RequestCodes.{lent-body}
use Rattle.server_batch.proofs.Meant.{meant-bad, meant-same, meant-bare}
use Rattle.server_batch.proofs.marking.meant_for.Goals as goal

pub returns-then-request_bad : goal.returns-then-request_bad
returns-then-request_bad c = meant-bad _ _ c.request_bad.ensures c.if-request_bad.true

pub body_of-m-requires : goal.body_of-m-requires
body_of-m-requires c = (lent-body _ c.request_bad.ensures c.if-request_bad.false).0

pub has_tag-requires : goal.has_tag-requires
has_tag-requires c =
    rw c.body_of-m.ensures (lent-body _ c.request_bad.ensures c.if-request_bad.false).1.frame

pub value32-theirs-requires : goal.value32-theirs-requires
value32-theirs-requires c =
    let asks = (lent-body _ c.request_bad.ensures c.if-request_bad.false).1 in
    let tagged = c.has_tag.ensures ∙ ap (λ (m : List ℕ). has m SRV) c.body_of-m.ensures in
    rw c.body_of-m.ensures (asks.frame, asks.srv-long (sym tagged ∙ c.if-has_tag.true))

pub returns-then-has_tag : goal.returns-then-has_tag
returns-then-has_tag c =
    let srv = c.args.srv in
    let tagged = c.has_tag.ensures ∙ ap (λ (m : List ℕ). has m SRV) c.body_of-m.ensures in
    let theirs = c.value32-theirs.ensures ∙ ap (λ (m : List ℕ). value_of m SRV) c.body_of-m.ensures in
    meant-same _ _ c.request_bad.ensures c.if-request_bad.false tagged c.if-has_tag.true
    (c.equal.ensures ∙ ap (λ (l : List ℕ). same l srv) theirs)

pub returns : goal.returns
returns c =
    let tagged = c.has_tag.ensures ∙ ap (λ (m : List ℕ). has m SRV) c.body_of-m.ensures in
    meant-bare _ _ c.request_bad.ensures c.if-request_bad.false tagged c.if-has_tag.false
