-- `capi::walking::tb_walk_take_fields` meets its contract.
use Rattle.capi.specs.Walking.{walk_of, heard_of}
use Rattle.capi.proofs.Walked.{heard-by, took_of}
use borrow.Author.Rules.{rules}
use Rattle.capi.proofs.walking.tb_walk_take_fields.Goals as goal

pub returns : goal.returns
returns c =
    let a = c.args in
    took_of
    (walk_of a.keys.now a.count a.step.now a.nonce.now a.rand.now a.last.now a.most)
    (heard_of a.delegation a.signature a.sent a.received a.next.now) a.response.now a.pile.now
    c.take-m.result
    (heard-by a.delegation a.signature a.sent a.received a.next.now c.yes.ensures
    c.yes-2.ensures)
    (c.take-m.ensures.said_value, (c.take-m.ensures.takes, (c.take-m.ensures.walk_value, c.take-m.ensures.pile_after))) c.next_in-v.ensures c.into.ensures
