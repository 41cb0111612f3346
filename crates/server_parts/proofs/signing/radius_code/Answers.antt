-- `server_parts::signing::radius_code` meets its contract.
use mathlib.Core.Path.{◌≡◌, refl, ap}
use native.Mathlib.Omega.{arith}
use Prim.Native.Nat.{ℕ}
use Rattle.std.specs.Prelude.{Err}
use Rattle.laws.specs.First.{when_of}
use Rattle.refusal.specs.Refusal.{passed}
use Rattle.refusal.specs.declared.Refusal.{Refusal}
use Rattle.refusal.proofs.Passing.{refuses, quiet-passes}
use borrow.Author.Tests.{eq-eqb, ne_eqb}
use borrow.Author.Rules.{rules}
use Rattle.server_parts.proofs.signing.radius_code.Goals as goal

pub returns-then-radi-eq0 : goal.returns-then-radi-eq0
unfolding when_of
returns-then-radi-eq0 c =
    let code : c.refuse.result.code ≡ 7 = ap (λ (r : Refusal). r.code) c.refuse.ensures in
    rw (eq-eqb c.args.radi 0 c.if-radi-eq0.true, ← c.refuse.ensures) (refuses (λ z. omega arith))

pub returns : goal.returns
unfolding when_of
returns c = rw (ne_eqb c.args.radi 0 c.if-radi-eq0.false) (quiet-passes passed refl)
