-- `ed25519::verifying::verify_parts` meets its contract.
use Prim.Native.Nat.{ℕ, ◌+◌, ◌-◌, ◌*◌, ◌^◌, ◌≤◌, ◌<◌}
use mathlib.Core.Path.{◌≡◌, ◌∙◌}
use mathlib.Core.List.{List}
use native.Mathlib.Omega.{arith}
use lib.ListN.{length, drop, length-drop}
use lib.Seq.{take_all}
use Rattle.ed25519.proofs.Ways.{parts-1, parts-2, parts-3, parts-4}
use Rattle.ed25519.proofs.verifying.verify_parts.Goals as goal

-- the text is not too long

fits : (x t : List ℕ) → length x * 1 < 2 ^ 63 → length t ≤ 18446744073709551551 - length x
    → 64 + (length x + length t) < 2 ^ 64
fits x t h g = omega arith

pub returns-then-value-context : goal.returns-then-value-context
returns-then-value-context c =
    let g = c.args in
    parts-1 g.key.now g.context.now g.value.now g.signature.now
    (omega (arith, c.if-value-context.true, c.well_formed.1.0.1))

pub returns-then-key-ne32 : goal.returns-then-key-ne32
returns-then-key-ne32 c =
    let g = c.args in
    parts-2 g.key.now g.context.now g.value.now g.signature.now
    (fits g.context.now g.value.now c.well_formed.1.0.1 c.if-value-context.false) c.if-key-ne32.true

pub returns-then-signature-ne64 : goal.returns-then-signature-ne64
returns-then-signature-ne64 c =
    let g = c.args in
    parts-3 g.key.now g.context.now g.value.now g.signature.now
    (fits g.context.now g.value.now c.well_formed.1.0.1 c.if-value-context.false) c.if-key-ne32.false c.if-signature-ne64.true

pub check-requires : goal.check-requires
check-requires c =
    let g = c.args in
    fits g.context.now g.value.now c.well_formed.1.0.1 c.if-value-context.false

pub returns : goal.returns
returns c =
    let g = c.args in
    let s = g.signature.now in
    let a-is : c.copy32-a.result ≡ g.key.now = c.copy32-a.ensures ∙ take_all 32 g.key.now (omega (arith, c.if-key-ne32.false)) in
    let s-is : c.copy32-s.result ≡ drop 32 s =
    c.copy32-s.ensures ∙ take_all 32 (drop 32 s) (rw length-drop (omega (arith, c.if-signature-ne64.false))) in
    parts-4 g.key.now g.context.now g.value.now s
    (fits g.context.now g.value.now c.well_formed.1.0.1 c.if-value-context.false) _ c.if-key-ne32.false
    c.if-signature-ne64.false
    (rw (a-is, c.copy32-r.ensures, s-is) at c.check.ensures)
