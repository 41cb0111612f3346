use mathlib.Core.Path.{refl, sym}
use Rattle.json_values.specs.Value.{ends_at, is_text}
use Rattle.json_values.proofs.values.is_text.Goals as goal

pub returns-in_default : goal.returns-in_default
unfolding is_text ends_at
returns-in_default c = rw (sym c.blanks.ensures, sym c.value.ensures, c.in_default.is) refl

pub returns : goal.returns
unfolding is_text ends_at
returns c =
    rw (
      sym c.blanks.ensures,
      sym c.value.ensures,
      c.in-Some.is,
    ) (rw (sym c.blanks-2.ensures) refl)
