-- `ed25519_sign::halves::first_half` meets its contract.
use mathlib.Core.Path.{ap, ◌∙◌}
use Rattle.ed25519_sign.specs.Signing.{encoded_times}
use Rattle.ed25519_sign.proofs.Numbers.{rest_below, below-fits, number-again}
use Rattle.ed25519_sign.proofs.halves.first_half.Goals as goal

pub bytes_of-s-requires : goal.bytes_of-s-requires
bytes_of-s-requires c =
    let r = c.number_r-r.ensures in
    (r.low, below-fits (rest_below _ r.is))

pub returns : goal.returns
returns c =
    let r = c.number_r-r.ensures in
    record {
      number = r;
      string-is =
          c.encoded_times.ensures
          ∙ ap encoded_times (number-again _ _ (rest_below _ r.is) c.bytes_of-s.ensures ∙ r.is);
    }
