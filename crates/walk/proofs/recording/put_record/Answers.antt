-- `walk::recording::put_record` meets its contract.
use mathlib.Core.Path.{◌≡◌, ap₂, ◌∙◌}
use mathlib.Core.List.{List}
use Prim.Native.Nat.{ℕ, ◌+◌, ◌-◌, ◌*◌}
use native.Mathlib.Omega.{arith}
use Rattle.laws.proofs.Pasted.{part-back}
use Rattle.pile.specs.Recording.{record_bytes}
use Rattle.walk.specs.Taking.{record_now}
use Rattle.walk.proofs.Lengths.{Long, length-now}
use borrow.Author.Rules.{rules}
use Rattle.walk.proofs.recording.put_record.Goals as goal

pub returns : goal.returns
unfolding record_now
returns c =
    let w = c.args.w in
    let x = c.args.response.now in
    let long : Long w = record { keys = search rules; nonce = search rules; rand = search rules } in
    let n = length-now w long c.requires.0 x c.requires.2 in
    let e : 4096 ≡ 4096 * w.step + 4096 - 4096 * w.step = omega arith in
    part-back c.args.pile.now (4096 * w.step) (4096 * w.step + 4096 - 4096 * w.step)
    (c.lay.ensures
    ∙ ap₂ (λ (a b : List ℕ). record_bytes a w.rand b x) c.key_of-key.ensures c.requires.1)
    (n ∙ e)
