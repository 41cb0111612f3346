-- `clock::keeping::start` meets its contract.
use mathlib.Core.Path.{◌≡◌, refl, sym, ap}
use native.Mathlib.Omega.{arith}
use Rattle.laws.proofs.First.{chain}
use Rattle.refusal.specs.Refusal.{passed}
use Rattle.refusal.specs.declared.Refusal.{Refusal}
use Rattle.clock.specs.State.{start_code, start_of, started_of}
use Rattle.clock.proofs.Takes.{refused, given}
use Rattle.clock.proofs.keeping.start.Goals as goal

pub returns-then-drift-gt999999 : goal.returns-then-drift-gt999999
unfolding start_code started_of
returns-then-drift-gt999999 c =
    let told : c.refuse.result ≡ start_code c.args.drift = search chain depth 9 in
    let code : c.refuse.result.code ≡ 32 = ap (λ (r : Refusal). r.code) c.refuse.ensures in
    refused (start_of c.args.drift) told (λ z. omega arith)

pub returns : goal.returns
unfolding start_code started_of
returns c =
    let told : passed ≡ start_code c.args.drift = search chain depth 9 in
    given _ (ap (λ (r : Refusal). r.code) (sym told)) refl
