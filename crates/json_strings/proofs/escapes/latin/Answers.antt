use borrow.Author.Rules.{rules}
use mathlib.Core.Path.{refl, sym, ◌∙◌}
use borrow.Author.Tests.{ne_eqb}
use Rattle.laws.specs.Pick.{pick}
use Rattle.json_tokens.proofs.Picks.{inside}
use Rattle.json_strings.specs.Text.{latin_at}
use Rattle.json_strings.proofs.Units.{units}
use Rattle.json_strings.proofs.escapes.latin.Goals as goal

pub returns-then-byte-ne92 : goal.returns-then-byte-ne92
unfolding latin_at
returns-then-byte-ne92 c = search (units, rules) depth 14

pub returns-then-byte-ne117 : goal.returns-then-byte-ne117
unfolding latin_at
returns-then-byte-ne117 c = search (units, rules) depth 14

pub returns-then-byte-ne48 : goal.returns-then-byte-ne48
unfolding latin_at
returns-then-byte-ne48 c = search (units, rules) depth 14

pub returns-then-byte-ne48-2 : goal.returns-then-byte-ne48-2
unfolding latin_at
returns-then-byte-ne48-2 c = search (units, rules) depth 14

pub returns-then-h-eq16 : goal.returns-then-h-eq16
unfolding latin_at
returns-then-h-eq16 c = search (units, rules) depth 14

pub returns-then-l-eq16 : goal.returns-then-l-eq16
unfolding latin_at
returns-then-l-eq16 c = search (units, rules) depth 14

pub overflow_add-at : goal.overflow_add-at
overflow_add-at c =
    let i = inside c.args.s.now c.byte.ensures c.if-byte-ne92.false tt in search rules

pub overflow_add-at-2 : goal.overflow_add-at-2
overflow_add-at-2 c =
    let i = inside c.args.s.now c.byte.ensures c.if-byte-ne92.false tt in search rules

pub overflow_add-at-3 : goal.overflow_add-at-3
overflow_add-at-3 c =
    let i = inside c.args.s.now c.byte.ensures c.if-byte-ne92.false tt in search rules

pub overflow_add-at-4 : goal.overflow_add-at-4
overflow_add-at-4 c =
    let i = inside c.args.s.now c.byte.ensures c.if-byte-ne92.false tt in search rules

pub overflow_add-at-5 : goal.overflow_add-at-5
overflow_add-at-5 c =
    let i = inside c.args.s.now c.byte.ensures c.if-byte-ne92.false tt in search rules

pub returns : goal.returns
unfolding latin_at pick
returns c =
    rw (
      sym c.byte.ensures ∙ c.if-byte-ne92.false,
      sym c.byte-2.ensures ∙ c.if-byte-ne117.false,
      sym c.byte-3.ensures ∙ c.if-byte-ne48.false,
      sym c.byte-4.ensures ∙ c.if-byte-ne48-2.false,
      sym c.nibble_at-h.ensures.0,
      ne_eqb _ 16 c.if-h-eq16.false,
      sym c.nibble_at-l.ensures.0,
      ne_eqb _ 16 c.if-l-eq16.false,
    ) refl
