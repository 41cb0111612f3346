use borrow.Author.Rules.{rules}
use native.Mathlib.Omega.{arith}
use borrow.Author.Tests.{eqb-true}
use Prim.Native.Nat.{ℕ, ◌+◌, ◌-◌, ◌<◌}
use mathlib.Core.Bool.{Bool, true, false}
use mathlib.Core.List.{List}
use mathlib.Core.Path.{◌≡◌, refl, sym, ◌∙◌, ap}
use lib.ListN.{get_or, take, drop}
use mir.Val.{bool_byte}
use Rattle.std.proofs.lemmas.List.{get_or-take, get_or-drop}
use Rattle.laws.specs.Pick.{pick}
use Rattle.json_tokens.proofs.Counted.{counted_none, counted_next}
use Rattle.json_strings.specs.Text.{unescaped}
use Rattle.json_strings.proofs.unescaped.stretch.Goals as goal

-- a byte of the stretch is a byte of the text
stands : (s : List ℕ) (at i : ℕ) → i < 64 → get_or (take (at + 64 - at) (drop at s)) i 0 ≡ get_or s (at + i) 0
stands s at i h = get_or-take (at + 64 - at) (drop at s) i 0 (omega arith) ∙ get_or-drop at s i 0

one-if : (b : Bool) → bool_byte b ≡ pick b 1 0
unfolding pick
one-if true = refl
one-if false = refl

counts : (s : List ℕ) (at i : ℕ) {n : ℕ} {b : Bool} → i < 64 → b ≡ unescaped (get_or (take (at + 64 - at) (drop at s)) i 0)
    → n ≡ bool_byte b → n ≡ pick (unescaped (get_or s (at + i) 0)) 1 0
counts s at i {b = b} h q e = e ∙ one-if b ∙ ap (λ t. pick t 1 0) (q ∙ ap unescaped (stands s at i h))

pub overflow_add-n : goal.overflow_add-n
overflow_add-n c =
    let k = counted_next c.loop-b.invariant (counts c.args.s.now c.args.at c.loop-b.b-index (omega arith) c.is_unescaped.ensures c.from-n.ensures) in
    let m = k.most in search rules

pub loop-b-init : goal.loop-b-init
loop-b-init c = counted_none

pub loop-b-preserved : goal.loop-b-preserved
loop-b-preserved c = counted_next c.loop-b.invariant (counts c.args.s.now c.args.at c.loop-b.b-index (omega arith) c.is_unescaped.ensures c.from-n.ensures)

pub returns : goal.returns
returns c =
    λ e.
    let m = c.loop-b.invariant.most in
    let i : c.loop-b.b-index ≡ 64 = omega arith in
    rw i at (c.loop-b.invariant.passed (eqb-true _ _ e ∙ sym i))
