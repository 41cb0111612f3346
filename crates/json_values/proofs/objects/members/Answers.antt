-- Six things go on at once: the walk, and what is seen of each of five names.
use borrow.Author.Rules.{rules}
use mathlib.Core.Path.{◌∙◌}
use Rattle.json_values.specs.Value.{member_step, value_at}
use Rattle.json_values.proofs.Ahead.{forth-members}
use Rattle.json_values.proofs.Finds.{members-none, members-some, object-none, object-some}
use Rattle.json_values.proofs.Finds.{sofar-none, sofar-first, sofar-more, sofar-last}
use Rattle.json_tokens.proofs.Picks.{picks}
use Rattle.json_tokens.proofs.Turns.{turn-falls, walked_more, walked_end, walked-wrong, starts_more, starts-end}
use Rattle.json_tokens.proofs.Turns.{starts-wrong}
use Rattle.json_values.proofs.objects.members.Goals as goal

pub returns-then-byte-eq125 : goal.returns-then-byte-eq125
returns-then-byte-eq125 c =
    let a = c.args in
    let z = c.nothing-m.ensures.n_value in
    let g = c.ended.ensures in
    let n =
    members-none a.s.now a.depth a.at c.blanks-first.ensures
    c.byte.ensures c.if-byte-eq125.true in record {
      end_value = g.end_value ∙ object-none a.s.now a.depth a.at c.blanks-first.ensures
          c.byte.ensures c.if-byte-eq125.true;
      a_value = sofar-none _ _ _ _ _ _ n z.0 g.a_value;
      b_value = sofar-none _ _ _ _ _ _ n z.1 g.b_value;
      c_value = sofar-none _ _ _ _ _ _ n z.2 g.c_value;
      d_value = sofar-none _ _ _ _ _ _ n z.3 g.d_value;
      e_value = sofar-none _ _ _ _ _ _ n z.4 g.e_value;
    }

pub loop-j-init : goal.loop-j-init
loop-j-init c =
    let a = c.args in
    let z = c.nothing-m.ensures in
    let n =
    members-some a.s.now a.depth a.at c.blanks-first.ensures c.byte.ensures
    c.if-byte-eq125.false in (
      object-some a.s.now a.depth a.at c.blanks-first.ensures c.byte.ensures
          c.if-byte-eq125.false,
      sofar-first n z.n_value.0 z.v_value.0,
      sofar-first n z.n_value.1 z.v_value.1,
      sofar-first n z.n_value.2 z.v_value.2,
      sofar-first n z.n_value.3 z.v_value.3,
      sofar-first n z.n_value.4 z.v_value.4,
    )

pub loop-j-smaller : goal.loop-j-smaller
loop-j-smaller c =
    let a = c.args in
    let s = a.s.now in
    turn-falls _ (member_step s (value_at s a.depth)) (forth-members s a.depth) _
    c.take-t.ensures.step_value c.in-More.is

pub loop-j-preserved : goal.loop-j-preserved
loop-j-preserved c =
    let a = c.args in
    let s = a.s.now in
    let l = c.loop-j.invariant in
    let t = c.take-t.ensures in
    let g = c.look-m.ensures in
    let n =
    starts_more _ (member_step s (value_at s a.depth)) (forth-members s a.depth) _ t.step_value c.in-More.is in (
      walked_more _ (member_step s (value_at s a.depth)) (forth-members s a.depth) _ t.step_value
          c.in-More.is ∙ l.0,
      sofar-more l.1 t.value_value g.noted n,
      sofar-more l.2 t.value_value g.noted_2 n,
      sofar-more l.3 t.value_value g.noted_3 n,
      sofar-more l.4 t.value_value g.noted_4 n,
      sofar-more l.5 t.value_value g.noted_5 n,
    )

pub returns-in-End : goal.returns-in-End
returns-in-End c =
    let l = c.loop-j.invariant in
    let t = c.take-t.ensures in
    let g = c.look-m.ensures in
    let r = c.ended-in-End.ensures in
    let n = starts-end _ _ _ t.step_value c.in-End.is in record { end_value = r.end_value ∙ walked_end _ _ _ t.step_value c.in-End.is ∙ l.0; a_value = sofar-last l.1 t.value_value g.noted n r.a_value; b_value = sofar-last l.2 t.value_value g.noted_2 n r.b_value; c_value = sofar-last l.3 t.value_value g.noted_3 n r.c_value; d_value = sofar-last l.4 t.value_value g.noted_4 n r.d_value; e_value = sofar-last l.5 t.value_value g.noted_5 n r.e_value }

pub returns-in-Wrong : goal.returns-in-Wrong
returns-in-Wrong c =
    let l = c.loop-j.invariant in
    let t = c.take-t.ensures in
    let g = c.look-m.ensures in
    let r = c.ended-in-Wrong.ensures in
    let n = starts-wrong _ _ _ t.step_value c.in-Wrong.is in record { end_value = r.end_value ∙ walked-wrong _ _ _ t.step_value c.in-Wrong.is ∙ l.0; a_value = sofar-last l.1 t.value_value g.noted n r.a_value; b_value = sofar-last l.2 t.value_value g.noted_2 n r.b_value; c_value = sofar-last l.3 t.value_value g.noted_3 n r.c_value; d_value = sofar-last l.4 t.value_value g.noted_4 n r.d_value; e_value = sofar-last l.5 t.value_value g.noted_5 n r.e_value }

pub overflow_add-first : goal.overflow_add-first
overflow_add-first c = search (picks, rules)

pub look-m-requires : goal.look-m-requires
look-m-requires c = c.take-t.ensures.lettered
