-- `capi::walking::tb_walk_take_signed_fields` meets its contract.
use mathlib.Core.Path.{refl}
use Rattle.walk_signed.specs.Heard.{own_heard}
use Rattle.capi.specs.Walking.{walk_of}
use Rattle.capi.proofs.Walked.{took_of}
use borrow.Author.Rules.{rules}
use Rattle.capi.proofs.walking.tb_walk_take_signed_fields.Goals as goal

pub returns : goal.returns
returns c =
    let a = c.args in
    let w =
    walk_of a.keys.now a.count a.step.now a.nonce.now a.rand.now a.last.now a.most in
    took_of w (own_heard w a.sent a.received a.next.now a.response.now) a.response.now a.pile.now
    c.take_signed-m.result refl (c.take_signed-m.ensures.said_value, (c.take_signed-m.ensures.takes, (c.take_signed-m.ensures.walk_value, c.take_signed-m.ensures.pile_after))) c.next_in-v.ensures c.into.ensures
