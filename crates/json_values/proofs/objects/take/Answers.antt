use borrow.Author.Rules.{rules}
use mathlib.Core.Path.{sym, ◌∙◌, ap}
use Rattle.json_values.specs.Members.{place_of, value_place}
use Rattle.json_values.specs.Value.{member_step}
use Rattle.json_tokens.specs.Scan.{past_colon}
use Rattle.json_tokens.proofs.Picks.{then-bad, then-past, picks}
use Rattle.json_values.proofs.objects.take.Goals as goal

pub returns-in_default : goal.returns-in_default
unfolding value_place place_of member_step
returns-in_default c =
    record { value_value = ap place_of (then-bad (past_colon _) c.name_end.ensures c.in_default.is); step_value = search (picks, rules) depth 7; lettered = c.measured-name.ensures.lettered }

pub returns-in_default-colon : goal.returns-in_default-colon
unfolding value_place place_of member_step
returns-in_default-colon c =
    record {
      value_value = ap place_of
          (then-past (past_colon _) c.name_end.ensures
          c.in-Some.is (sym c.in_default-colon.is
          ∙ c.colon.ensures));
      step_value = search (picks, rules) depth 7;
      lettered = c.measured-name.ensures.lettered;
    }

pub returns-in_default-value : goal.returns-in_default-value
unfolding value_place place_of member_step
returns-in_default-value c =
    record {
      value_value = ap place_of
          (then-past (past_colon _) c.name_end.ensures c.in-Some.is
          (sym c.in-Some-colon.is ∙ c.colon.ensures));
      step_value = search (picks, rules) depth 7;
      lettered = c.measured-name.ensures.lettered;
    }

pub returns : goal.returns
unfolding value_place place_of member_step
returns c =
    record {
      value_value = ap place_of
          (then-past (past_colon _) c.name_end.ensures c.in-Some.is
          (sym c.in-Some-colon.is ∙ c.colon.ensures));
      step_value = search (picks, rules) depth 7;
      lettered = c.measured-name.ensures.lettered;
    }

pub name_end-requires : goal.name_end-requires
name_end-requires c = c.measured-name.ensures.at_value
