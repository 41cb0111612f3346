-- L, the order of the base point, is prime: a chain of six numbers, as that of p in `ed25519_prime_laws` (its
-- `Certificate` says what stands beside each), each of which has the next for a divisor of the number before it. The
-- last is small enough for trial division.
use mathlib.Core.Path.{refl}
use lib.Dec.{lit<}
use Rattle.digits.proofs.Powers.{by_bits}
use Rattle.ed25519_scalar.specs.Order.{L}
use Rattle.ed25519_prime_laws.specs.Prime.{Prime}
use Rattle.ed25519_prime_laws.proofs.Divisors.{by-trial}
use Rattle.ed25519_prime_laws.proofs.Pocklington.{certifies, by-certificate}

-- no number from 2 to 1,201 divides it
l6-prime : Prime 1224481
l6-prime = by-trial 1224481 1200 (lit< tt) tt (lit< tt)

l5-prime : Prime 1257559732178653
unfolding certifies by_bits
l5-prime =
    by-certificate 1257559732178653 1224481
    1027014492
    1252739704402215
    790900187493841 21 l6-prime refl

l4-prime : Prime 4434155615661930479
unfolding certifies by_bits
l4-prime =
    by-certificate 4434155615661930479 1257559732178653
    3526
    415787812636281767
    1010501025739283171 51 l5-prime refl

l3-prime : Prime 172054593956031949258510691
unfolding certifies by_bits
l3-prime =
    by-certificate 172054593956031949258510691 4434155615661930479
    38802110
    81982237619807054769897707
    154275350521713489305385904 62 l4-prime refl

l2-prime : Prime 19757330305831588566944191468367130476339
unfolding certifies by_bits
l2-prime =
    by-certificate 19757330305831588566944191468367130476339 172054593956031949258510691
    114831751082918
    9148758478138211201771971577098600188172
    16371654433361644093796961727196399386194 88 l3-prime refl

l1-prime : Prime 276602624281642239937218680557139826668747
unfolding certifies by_bits
l1-prime =
    by-certificate 276602624281642239937218680557139826668747 19757330305831588566944191468367130476339
    14
    16384
    94074944912245044309966580483695483989395 134 l2-prime refl

pub L-prime : Prime L
unfolding L certifies by_bits
L-prime =
    by-certificate L 276602624281642239937218680557139826668747
    26163907866482859529727157400808004
    2975531125133123119648879457563281269120703404158613135195788908093573672641
    2233364593245673852815932892735013076939656528578070433728021143254617821614 138 l1-prime refl
