-- `capi::walking::tb_walk_ask_fields` meets its contract.
use Rattle.refusal.specs.declared.Refusal.{Refusal}
use Rattle.std.specs.Prelude.{Err, Ok, Result}
use mathlib.Core.Path.{◌≡◌, refl, ap, ◌∙◌}
use Rattle.c_evidence.specs.Walking.{tb_asked}
use Rattle.walk.specs.Asking.{asked_number}
use Rattle.walk.specs.declared.Asked.{Asked}
use borrow.Author.Rules.{rules}
use Rattle.capi.proofs.walking.tb_walk_ask_fields.Goals as goal

told_number : (m : Result Asked Refusal) → asked_number m ≡ (tb_asked m).code
told_number (Ok a) = refl
told_number (Err why) = refl

pub returns : goal.returns
returns c =
    let asked = c.ask.ensures in
    (c.into.ensures ∙ ap tb_asked asked.value, rw (c.into.ensures, ← told_number c.ask.result) asked.out_after)
