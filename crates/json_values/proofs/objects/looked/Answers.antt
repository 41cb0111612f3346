use mathlib.Core.Path.{refl, sym, ◌∙◌}
use Rattle.laws.specs.Pick.{pick}
use Rattle.json_values.proofs.Finds.{noted-not, noted-twice}
use Rattle.json_values.proofs.objects.looked.Goals as goal

pub returns-then-t-eq2 : goal.returns-then-t-eq2
returns-then-t-eq2 c = noted-twice _ _ _ c.if-t-eq2.true

pub returns-then-is_named : goal.returns-then-is_named
unfolding pick
returns-then-is_named c =
    let y = sym c.is_named.ensures ∙ c.if-is_named.true in record {
      n = rw y c.one_more.ensures;
      v = λ _. rw y refl;
    }

pub returns-else-is_named : goal.returns-else-is_named
returns-else-is_named c =
    noted-not _ _ _ (sym c.is_named.ensures ∙ c.if-is_named.false)
