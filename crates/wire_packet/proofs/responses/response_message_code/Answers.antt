-- wire_packet/proofs/responses/response_message_code/Answers.antt
-- `wire_packet::responses::response_message_code` meets its contract. Each return is the first refusal of the row.
use Rattle.std.specs.Prelude.{Err}
use Prim.Native.Nat.{ℕ}
use mathlib.Core.Path.{◌≡◌, refl, ap}
use mathlib.Core.Bool.{not}
use lib.Dec.{eqb}
use native.Mathlib.Omega.{arith}
use borrow.Author.Tests.{eq-eqb, ne_eqb}
use Rattle.refusal.proofs.Passing.{passed-on, refused-by, test-on, test-refuses, none-left}
use Rattle.wire_packet.specs.Facts.{Shaped}
use Rattle.wire_packet.specs.Response.{type_in, ver_in, response_message_code}
use Rattle.wire_packet.proofs.ResponseCodes.{shaped-passes}
use borrow.Author.Rules.{rules}
use Rattle.wire_packet.proofs.responses.response_message_code.Goals as goal

-- a number that code has as x is not 1
other : {x n : ℕ} → x ≡ n → not (eqb x 1) ≡ not (eqb n 1)
other e = ap (λ (k : ℕ). not (eqb k 1)) e

pub number32-requires : goal.number32-requires
number32-requires c =
    let s : Shaped c.args.m.now = shaped-passes c.shape_code.ensures (search rules) in
    (s.root-frame, omega (arith, s.type-long))

pub srep_version-requires : goal.srep_version-requires
srep_version-requires c = search (shaped-passes, rules)

pub version_unlisted-requires : goal.version_unlisted-requires
version_unlisted-requires c = search (shaped-passes, rules)

pub returns-in_err-shape_code : goal.returns-in_err-shape_code
unfolding response_message_code
returns-in_err-shape_code c =
    let e = c.in_err-shape_code.field-0.0 in
    let told : c.shape_code.result ≡ Err e = search rules in
    let handed : c.from_residual.result ≡ Err e = search rules in
    rw handed (refused-by _ _ c.shape_code.ensures told)

pub returns-then-number32-ne1 : goal.returns-then-number32-ne1
unfolding response_message_code
returns-then-number32-ne1 c =
    passed-on _ _ _ c.shape_code.ensures (search rules)
    (test-refuses _ _ c.refuse.ensures tt (other c.number32.ensures) (ap not (ne_eqb _ 1 c.if-number32-ne1.true)))

pub returns-then-srep_version-ne1 : goal.returns-then-srep_version-ne1
unfolding response_message_code
returns-then-srep_version-ne1 c =
    passed-on _ _ _ c.shape_code.ensures (search rules)
    (test-on _ _ (other c.number32.ensures) (ap not (eq-eqb _ 1 c.if-number32-ne1.false))
    (test-refuses _ _ c.refuse-then-srep_version-ne1.ensures tt (other c.srep_version.ensures)
    (ap not (ne_eqb _ 1 c.if-srep_version-ne1.true))))

pub returns-then-version_unlisted : goal.returns-then-version_unlisted
unfolding response_message_code
returns-then-version_unlisted c =
    passed-on _ _ _ c.shape_code.ensures (search rules)
    (test-on _ _ (other c.number32.ensures) (ap not (eq-eqb _ 1 c.if-number32-ne1.false))
    (test-on _ _ (other c.srep_version.ensures) (ap not (eq-eqb _ 1 c.if-srep_version-ne1.false))
    (test-refuses _ _ c.refuse-then-version_unlisted.ensures tt c.version_unlisted.ensures c.if-version_unlisted.true)))

pub returns : goal.returns
unfolding response_message_code
returns c =
    passed-on _ _ _ c.shape_code.ensures (search rules)
    (test-on _ _ (other c.number32.ensures) (ap not (eq-eqb _ 1 c.if-number32-ne1.false))
    (test-on _ _ (other c.srep_version.ensures) (ap not (eq-eqb _ 1 c.if-srep_version-ne1.false))
    (test-on _ _ c.version_unlisted.ensures c.if-version_unlisted.false none-left)))
