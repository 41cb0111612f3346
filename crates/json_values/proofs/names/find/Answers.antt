use borrow.Author.Rules.{rules}
use mathlib.Core.Path.{◌≡◌, refl, sym, ◌∙◌, ap}
use Rattle.json_values.specs.Members.{value_place, members_of, answer_of, count_of, tally, found_of}
use Rattle.json_values.specs.Value.{member_step, value_at}
use Rattle.json_values.proofs.Ahead.{forth-members}
use Rattle.laws.specs.Pick.{pick}
use Rattle.json_values.proofs.Finds.{tally-more, tally-last, tallied, untallied, starts_last}
use Rattle.json_tokens.proofs.Picks.{picks}
use Rattle.json_tokens.proofs.Turns.{turn-falls, starts_more}
use Rattle.json_values.proofs.names.find.Goals as goal
use Rattle.json_values.proofs.names.find.Goals.{then-is_named, else-is_named}

pub returns-then-b-eq125 : goal.returns-then-b-eq125
unfolding found_of members_of tally answer_of pick
returns-then-b-eq125 c =
    rw (sym c.blanks-first.ensures) (rw (sym c.byte-b.ensures, c.if-b-eq125.true) refl)

pub loop-v-init : goal.loop-v-init
unfolding found_of members_of
loop-v-init c =
    ap (tally _ _ 0 0) (rw (sym c.blanks-first.ensures) (search (picks, rules)))

pub loop-v-smaller : goal.loop-v-smaller
loop-v-smaller c =
    let a =
    c.args in
    let s = a.s.now in
    turn-falls _ (member_step s (value_at s a.depth)) (forth-members s a.depth) _
    c.member.ensures c.in-More.is

pub loop-v-preserved : goal.loop-v-preserved
loop-v-preserved c =
    let a = c.args in
    let s = a.s.now in
    let l = c.loop-v in
    let q : (c.if-is_named.n ≡ count_of c.is_named.result l.n) × (c.if-is_named.v ≡ pick c.is_named.result (value_place s l.k) l.v) =
    elim c.if-is_named.branch [
      | then-is_named w ↦ tallied _ _ _ w.if-is_named.true (w.n-is ∙ w.one_more-n.ensures) (w.v-is ∙ w.value_place-v.ensures)
      | else-is_named w ↦ untallied _ _ _ w.if-is_named.false w.n-is w.v-is
    ] in
    tally-more s a.w.now l.n l.v l.k c.is_named.ensures q.0 q.1 _
    (starts_more _ (member_step s (value_at s a.depth)) (forth-members s a.depth) _
    c.member.ensures c.in-More.is)
    ∙ l.invariant

pub returns-in_default : goal.returns-in_default
returns-in_default c =
    let a = c.args in
    let s = a.s.now in
    let l = c.loop-v in
    let q : (c.if-is_named.n ≡ count_of c.is_named.result l.n) × (c.if-is_named.v ≡ pick c.is_named.result (value_place s l.k) l.v) =
    elim c.if-is_named.branch [
      | then-is_named w ↦ tallied _ _ _ w.if-is_named.true (w.n-is ∙ w.one_more-n.ensures) (w.v-is ∙ w.value_place-v.ensures)
      | else-is_named w ↦ untallied _ _ _ w.if-is_named.false w.n-is w.v-is
    ] in
    tally-last s a.w.now l.n l.v l.k c.is_named.ensures q.0 q.1
    (starts_last _ _ _ c.member.ensures c.in_default.not-More) c.answer.ensures ∙ l.invariant
