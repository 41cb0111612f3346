-- `ed25519_sign::signing::signed` meets its contract.
use Rattle.std.proofs.Common.{◌++◌}
use Rattle.ed25519_sign.proofs.Steps.{signature-is}
use Rattle.ed25519_sign.proofs.Numbers.{rest_below}
use Rattle.ed25519_sign.proofs.signing.signed.Goals as goal

pub second_half-s-requires : goal.second_half-s-requires
second_half-s-requires c =
    let secret = c.secret_expand-e.ensures in
    let r = c.first_half-f.ensures.number in
    (r.low, rest_below _ r.is, secret.low, c.requires.1)

pub returns : goal.returns
returns c =
    let g = c.args in
    let secret = c.secret_expand-e in
    let begun = c.first_half-f in
    signature-is g.seed secret.result g.key secret.ensures c.requires.0
    (g.context.now ++ g.value.now) begun.result _ _ begun.ensures c.second_half-s.ensures
    c.joined.ensures
