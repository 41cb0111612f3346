-- `ed25519_base::turns::times_base` meets its contract.
use Rattle.std.proofs.Common.{◌≡◌, length, rules}
use Rattle.ed25519_base.proofs.Words.{comb-last}
use Rattle.ed25519_base.proofs.turns.times_base.Goals as goal

pub returns : goal.returns
returns c =
    let r = c.times_words.ensures in
    let long : length c.args.s.now ≡ 32 = search rules in
    let e = comb-last c.args.s.now _ _ _ _ long c.le64.ensures
    c.le64-2.ensures c.le64-3.ensures c.le64-4.ensures in
    (r.0, rw (← e) r.1)
