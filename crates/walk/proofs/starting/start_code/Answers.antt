-- `walk::starting::start_code` meets its contract. Each return is the first refusal of the row.
use Prim.Native.Nat.{◌*◌, ◌/◌}
use mathlib.Core.Path.{◌≡◌, refl}
use native.Mathlib.Omega.{arith}
use lib.ListN.{length}
use Rattle.laws.proofs.First.{chain, test-false, less, at_most, is-empty}
use Rattle.refusal.specs.Refusal.{refusal, refusals}
use Rattle.walk.specs.Starting.{start_code}
use Rattle.walk.proofs.Accepting.{few}
use Rattle.walk.proofs.Passed.{refused-as, passed-as}
use Rattle.walk.proofs.starting.start_code.Goals as goal

pub overflow_mul-keys : goal.overflow_mul-keys
overflow_mul-keys c = omega (arith, few _ c.keys_bad.ensures c.if-keys_bad.false)

pub returns-then-keys_bad : goal.returns-then-keys_bad
unfolding start_code
returns-then-keys_bad c =
    let told : c.refuse.result ≡ start_code c.args.keys.now c.args.room = search chain depth 9 in
    refused-as _ c.refuse.ensures tt told

pub returns-then-room-keys : goal.returns-then-room-keys
unfolding start_code
returns-then-room-keys c =
    refused-as _ c.refuse-then-room-keys.ensures tt
    (test-false refusals (refusal 31) _ c.keys_bad.ensures c.if-keys_bad.false
    (less refusals _ (8192 * (length c.args.keys.now / 32)) (refusal 19) _ c.refuse-then-room-keys.ensures tt (omega arith)))

pub returns : goal.returns
unfolding start_code
returns c =
    passed-as _
    (test-false refusals (refusal 31) _ c.keys_bad.ensures c.if-keys_bad.false
    (at_most refusals _ (8192 * (length c.args.keys.now / 32)) (refusal 19) _ (omega arith) (is-empty refusals refl)))
