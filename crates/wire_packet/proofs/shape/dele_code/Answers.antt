-- wire_packet/proofs/shape/dele_code/Answers.antt
-- `wire_packet::shape::dele_code` meets its contract. DELE stands in CERT, and CERT in the message.
use Rattle.std.specs.Prelude.{Err}
use Prim.Native.Nat.{ℕ, ◌+◌, ◌^◌, ◌<◌}
use mathlib.Core.Path.{◌≡◌, ap, ◌∙◌}
use mathlib.Core.List.{List}
use native.Mathlib.Omega.{arith}
use Rattle.refusal.specs.Refusal.{passes, shifted}
use Rattle.refusal.specs.declared.Refusal.{Refusal}
use Rattle.refusal.proofs.Passing.{error-is, shifted-answer, shifted-twice}
use Rattle.wire_message.specs.Rules.{message_code}
use Rattle.wire_message.specs.Tags.{DELE, CERT}
use Rattle.wire_message.specs.Values.{value_of, value_start}
use Rattle.wire_packet.specs.Response.{cert, dele}
use Rattle.wire_packet.specs.Tables.{dele_table}
use Rattle.wire_packet.proofs.PlacesIn.{dele-in-cert}
use borrow.Author.Rules.{rules}
use Rattle.wire_packet.proofs.shape.dele_code.Goals as goal

-- DELE's refusal, told of CERT, which code has as l
in-cert : {l m : List ℕ} → l ≡ m → passes (shifted (value_start l DELE) (message_code (value_of l DELE) dele_table))
    ≡ passes (shifted (value_start m DELE) (message_code (value_of m DELE) dele_table))
in-cert e = ap (λ (s : List ℕ). passes (shifted (value_start s DELE) (message_code (value_of s DELE) dele_table))) e

pub value_code-requires : goal.value_code-requires
value_code-requires c = rw c.value_of.ensures c.requires.1

pub map_err-requires : goal.map_err-requires
map_err-requires c =
    let m = c.args.m.now in
    let told = c.value_code.ensures ∙ in-cert c.value_of.ensures in
    let fits : (e : Refusal) → c.value_code.result ≡ Err e → e.at + c.value_start-start.result < 2 ^ 64 =
    λ e h. omega (arith, dele-in-cert m c.requires.0 c.requires.1 (error-is _ told h) c.value_start-start.ensures) in
    search (fits, rules)

pub returns : goal.returns
returns c =
    let m = c.args.m.now in
    let told = c.value_code.ensures ∙ in-cert c.value_of.ensures in
    shifted-answer (value_start m CERT) _ _ told c.map_err.ensures.cases
    (λ x y h p.
    let by : y ≡ shifted c.value_start-start.result x = search rules in
    by ∙ ap (λ (n : ℕ). shifted n x) c.value_start-start.ensures)
    ∙ ap passes (shifted-twice _ _ (message_code (dele m) dele_table))
