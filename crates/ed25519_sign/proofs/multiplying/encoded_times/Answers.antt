-- `ed25519_sign::multiplying::encoded_times` meets its contract.
use Rattle.ed25519_sign.specs.Signing.{encoded_times}
use Rattle.ed25519_sign.proofs.multiplying.encoded_times.Goals as goal

pub returns : goal.returns
unfolding encoded_times
returns c = c.encoded.ensures _ c.times_base.ensures.1
