-- wire_message/proofs/rules/value_code/Answers.antt
-- `wire_message::rules::value_code` meets its contract. A value stands within its message, and so does its refusal.
use Rattle.std.specs.Prelude.{Err}
use Prim.Native.Nat.{◌+◌, ◌^◌, ◌<◌}
use mathlib.Core.Path.{◌≡◌, ap, ◌∙◌}
use mathlib.Core.List.{List}
use Prim.Native.Nat.{ℕ}
use native.Mathlib.Omega.{arith}
use Rattle.refusal.specs.Refusal.{passes, shifted}
use Rattle.refusal.specs.declared.Refusal.{Refusal}
use Rattle.refusal.proofs.Passing.{error-is, shifted-answer}
use Rattle.wire_message.specs.Rules.{message_code}
use Rattle.wire_message.specs.Values.{value_of}
use Rattle.wire_message.proofs.Places.{value-fits}
use borrow.Author.Rules.{rules}
use Rattle.wire_message.proofs.rules.value_code.Goals as goal

pub map_err-requires : goal.map_err-requires
map_err-requires c =
    let a = c.args in
    let told : c.message_code.result ≡ passes (message_code (value_of a.m.now a.tag) a.table.now) =
    c.message_code.ensures ∙ ap (λ (s : List ℕ). passes (message_code s a.table.now)) c.value_of.ensures in
    let fits : (e : Refusal) → c.message_code.result ≡ Err e → e.at + c.value_start-start.result < 2 ^ 64 =
    λ e h. omega (arith, value-fits a.m.now c.requires a.tag a.table.now (error-is _ told h) c.value_start-start.ensures) in
    search (fits, rules)

pub returns : goal.returns
returns c =
    let a = c.args in
    let told : c.message_code.result ≡ passes (message_code (value_of a.m.now a.tag) a.table.now) =
    c.message_code.ensures ∙ ap (λ (s : List ℕ). passes (message_code s a.table.now)) c.value_of.ensures in
    shifted-answer _ _ _ told c.map_err.ensures.cases
    (λ x y h p.
    let by : y ≡ shifted c.value_start-start.result x = search rules in
    by ∙ ap (λ (n : ℕ). shifted n x) c.value_start-start.ensures)
