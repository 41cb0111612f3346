-- `walk::starting::is_same` meets its contract.
use Prim.Native.Nat.{ℕ, ◌+◌, ◌-◌, ◌*◌}
use native.Mathlib.Omega.{arith}
use mathlib.Core.Path.{◌≡◌, ap, ap₂, ◌∙◌}
use mathlib.Core.List.{List}
use lib.ListN.{take, drop}
use Rattle.laws.specs.Same.{same}
use Rattle.walk.specs.State.{key_at}
use Rattle.walk.proofs.starting.is_same.Goals as goal

-- a key as the slice that code takes

piece : (keys : List ℕ) (i : ℕ) → take (32 * i + 32 - 32 * i) (drop (32 * i) keys) ≡ key_at keys i
piece keys i = let e : 32 * i + 32 - 32 * i ≡ 32 = omega arith in ap (λ (n : ℕ). take n (drop (32 * i) keys)) e

pub returns : goal.returns
returns c =
    let keys = c.args.keys.now in
    c.equal.ensures ∙ ap₂ same (piece keys c.args.i) (piece keys c.args.j)
