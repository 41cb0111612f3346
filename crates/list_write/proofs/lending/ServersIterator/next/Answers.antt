use Prim.Native.Nat.{◌≤◌}
use mathlib.Core.Path.{◌≡◌, ap, ◌∙◌}
use native.Mathlib.Omega.{arith}
use borrow.Author.Rules.{rules}
use lib.ListN.{length}
use Rattle.std.specs.Prelude.{None}
use Rattle.list_write.specs.Lending.{lent_of}
use Rattle.list_write.proofs.Lends.{fitting, first-name, first-lines, first-key, behind-fits, first-is, no-servers}
use Rattle.list_write.proofs.lending.ServersIterator.next.Goals as goal

pub returns-in_err-version-clause-steps : goal.returns-in_err-version-clause-steps
returns-in_err-version-clause-steps c =
    let handed : c.from_residual.result ≡ None = search rules in
    let none = no-servers (lent_of c.args.self.now.left) c.in_err-version.ensures.cases in
    rw handed (none, none)

pub returns-in_err-name_length-clause-steps : goal.returns-in_err-name_length-clause-steps
returns-in_err-name_length-clause-steps c =
    let h = fitting (lent_of c.args.self.now.left) c.args.self.now.whole in
    let e = ap length c.in_ok-version.ensures.cases.0 in
    absurd (omega (arith, e, h.named, c.in_err-name_length.ensures.cases))

pub returns-in_err-address_length-clause-steps : goal.returns-in_err-address_length-clause-steps
returns-in_err-address_length-clause-steps c =
    let h = fitting (lent_of c.args.self.now.left) c.args.self.now.whole in
    let e = ap length c.in_ok-version.ensures.cases.0 in
    absurd (omega (arith, e, h.lined, c.in_err-address_length.ensures.cases))

pub returns-in_err-key-clause-steps : goal.returns-in_err-key-clause-steps
returns-in_err-key-clause-steps c =
    let h = fitting (lent_of c.args.self.now.left) c.args.self.now.whole in
    let e = ap length c.in_ok-version.ensures.cases.0 in
    absurd (omega (arith, e, h.keyed, c.in_err-key.ensures.cases))

pub split_at-requires : goal.split_at-requires
split_at-requires c =
    first-name _ _ _ _ _ _ c.in_ok-version.ensures.cases.0 c.in_ok-name_length.ensures.cases.0
    c.in_ok-address_length.ensures.cases.0 c.args.self.now.whole

pub split_at-requires-2 : goal.split_at-requires-2
split_at-requires-2 c =
    first-lines _ _ _ _ _ _ c.in_ok-version.ensures.cases.0 c.in_ok-name_length.ensures.cases.0
    c.in_ok-address_length.ensures.cases.0 c.args.self.now.whole

pub invariant_of-self : goal.invariant_of-self
invariant_of-self c = record {
  whole = behind-fits _ _ _ _ _ _ c.in_ok-version.ensures.cases.0 c.in_ok-name_length.ensures.cases.0
      c.in_ok-address_length.ensures.cases.0 c.args.self.now.whole
      c.in_ok-key.ensures.cases.1 c.split_at.ensures.back c.split_at-2.ensures.back;
}

pub returns-clause-steps : goal.returns-clause-steps
returns-clause-steps c =
    first-is _ _ _ _ _ _ c.in_ok-version.ensures.cases.0 c.in_ok-name_length.ensures.cases.0
    c.in_ok-address_length.ensures.cases.0 c.args.self.now.whole
    c.in_ok-key.ensures.cases.1 c.split_at.ensures.back c.split_at-2.ensures.back
    c.split_at.ensures.front c.in_ok-key.ensures.cases.0 c.split_at-2.ensures.front

pub returns-clause-goes : goal.returns-clause-goes
returns-clause-goes c =
    let shorter = ap length (first-is _ _ _ _ _ _ c.in_ok-version.ensures.cases.0 c.in_ok-name_length.ensures.cases.0
    c.in_ok-address_length.ensures.cases.0 c.args.self.now.whole
    c.in_ok-key.ensures.cases.1 c.split_at.ensures.back c.split_at-2.ensures.back
    c.split_at.ensures.front c.in_ok-key.ensures.cases.0 c.split_at-2.ensures.front) in
    search rules

pub invariant_of-result : goal.invariant_of-result
invariant_of-result c = record {
  long = ap length c.in_ok-key.ensures.cases.0 ∙ first-key _ _ _ _ _ _ c.in_ok-version.ensures.cases.0 c.in_ok-name_length.ensures.cases.0
      c.in_ok-address_length.ensures.cases.0 c.args.self.now.whole;
}
