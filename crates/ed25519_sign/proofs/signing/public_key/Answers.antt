-- `ed25519_sign::signing::public_key` meets its contract.
use Rattle.ed25519_sign.proofs.Steps.{public-is}
use Rattle.ed25519_sign.proofs.signing.public_key.Goals as goal

pub returns : goal.returns
returns c =
    let secret = c.secret_expand-e in
    public-is c.args.seed secret.result _ secret.ensures c.encoded_times.ensures
