-- The columns of a state's windows meet their contract.
use mathlib.Core.Path.{refl}
use Rattle.c_packets.proofs.Crossing.{mapped}
use borrow.Author.Rules.{rules}
use Rattle.c_packets.proofs.clocking.ColumnsFromArrayKept16.from.Goals as goal

pub returns : goal.returns
returns c =
    let ws = c.args.ws in
    let low =
    mapped _ (λ w. w.low) _ ws c.map-low.result (λ p q w n k. search rules) 16 (search rules)
    c.map-low.ensures.items in
    let high =
    mapped _ (λ w. w.high) _ ws c.map-high.result (λ p q w n k. search rules) 16 (search rules)
    c.map-high.ensures.items in
    let maxt =
    mapped _ (λ w. w.maxt) _ ws c.map-maxt.result (λ p q w n k. search rules) 16 (search rules)
    c.map-maxt.ensures.items in
    let sent =
    mapped _ (λ w. w.sent) _ ws c.map-sent.result (λ p q w n k. search rules) 16 (search rules)
    c.map-sent.ensures.items in
    let received =
    mapped _ (λ w. w.received) _ ws c.map-received.result (λ p q w n k. search rules) 16 (search rules)
    c.map-received.ensures.items in
    rw (low, high, maxt, sent, received) refl
