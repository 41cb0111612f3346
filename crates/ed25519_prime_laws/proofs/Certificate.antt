-- p = 2^255 - 19 is prime: a chain of four numbers, each of which has the next for a divisor of the number before it.
-- The last is small enough for trial division. Beside a number n and the next, q, stand h with n = 1 + q h, e with e^q
-- = 1 modulo n, the inverse of e - 1, and how many bits q has.
use Prim.Native.Nat.{ℕ}
use mathlib.Core.Path.{refl}
use lib.Dec.{lit<}
use Rattle.digits.proofs.Powers.{by_bits}
use Rattle.ed25519_field.specs.Field.{p}
use Rattle.ed25519_prime_laws.specs.Prime.{Prime}
use Rattle.ed25519_prime_laws.proofs.Divisors.{by-trial}
use Rattle.ed25519_prime_laws.proofs.Pocklington.{certifies, by-certificate}

-- no number from 2 to 3,001 divides it
q4-prime : Prime 8574133
q4-prime = by-trial 8574133 3000 (lit< tt) tt (lit< tt)

q3-prime : Prime 1919519569386763
unfolding certifies by_bits
q3-prime =
    by-certificate 1919519569386763 8574133
    223873314
    1059928654987441
    1290547218147893 24 q4-prime refl

q2-prime : Prime 75445702479781427272750846543864801
unfolding certifies by_bits
q2-prime =
    by-certificate 75445702479781427272750846543864801 1919519569386763
    39304471641247389600
    56747016255153332959347766392083459
    74602835786463724888147869570305675 51 q3-prime refl

q1-prime : Prime 74058212732561358302231226437062788676166966415465897661863160754340907
unfolding certifies by_bits
q1-prime =
    by-certificate 74058212732561358302231226437062788676166966415465897661863160754340907
    75445702479781427272750846543864801
    981609426360740691344999861639072106
    69490809710348678725736597923071784769591275419387514694139338586948360
    70463328703800545008217672123162676565183935400628861884889913886334520 116 q2-prime refl

pub p-prime : Prime p
unfolding p certifies by_bits
p-prime =
    by-certificate p 74058212732561358302231226437062788676166966415465897661863160754340907
    781764
    427094198651976259540344842774561673889945192655078505504941250475370961481
    55540832096118778044507775605005710249233119951144946814680141076505643269084 236 q1-prime refl
