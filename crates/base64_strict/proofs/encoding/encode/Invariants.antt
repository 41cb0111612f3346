-- `base64_strict::encoding::encode` meets its contract: what is left to write is the encoding of the bytes that are left.
use lib.ListN.{length}
use Rattle.laws.proofs.Filled.{Filled}
use Rattle.base64_strict.specs.Encode.{encode64}
use Rattle.base64_strict.proofs.encoding.encode.Given as goal

abbrev pub invariant-loop-rest : goal.invariant-loop-rest
invariant-loop-rest l = Filled (encode64 l.s) (encode64 l.rest) l.initial.out l.at l.out

abbrev pub decreases-loop-rest : goal.decreases-loop-rest
decreases-loop-rest l = length l.rest
