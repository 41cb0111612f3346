-- `ed25519_windows::recoding::five_bits` meets its contract.
use Rattle.ed25519_windows.proofs.OddDigits.{five-bits}
use Rattle.ed25519_windows.proofs.recoding.five_bits.Goals as goal

pub returns : goal.returns
returns c =
    five-bits _ _ _ _ _ _ _ c.bit.ensures c.bit-2.ensures c.bit-3.ensures c.bit-4.ensures c.bit-5.ensures
