-- A `TbTook` of the end of a walk meets its contract.
use Rattle.std.specs.Prelude.{Err}
use mathlib.Core.Path.{◌≡◌, sym, ap, ◌∙◌}
use Prim.Native.Nat.{ℕ}
use borrow.Author.Tests.{eq-eqb, ne_eqb}
use Rattle.check_response.specs.declared.Window.{Window}
use Rattle.refusal.specs.declared.Refusal.{Refusal}
use Rattle.c_evidence.specs.Walking.{stands_at, end_told}
use Rattle.c_evidence.proofs.walking.TbTookFromTuple2WindowReport.from.Goals as goal

-- a refusal: where it is 18, and where it is not
module _ (v : Window) (why : Refusal) (k : ℕ) where
  consistent : why.code ≡ 18 → stands_at 2 v 0 0 ≡ end_told v (Err (why, k))
  consistent e = simp (eq-eqb why.code 18 e)

  altered : (why.code ≡ 18 → ⊥) → stands_at 4 v 0 0 ≡ end_told v (Err (why, k))
  altered e = simp (ne_eqb why.code 18 e)

pub returns-then-why-eq-NO_CONTRADICTION : goal.returns-then-why-eq-NO_CONTRADICTION
returns-then-why-eq-NO_CONTRADICTION c =
    c.stands_at-then-why-eq-NO_CONTRADICTION.ensures
    ∙ consistent c.args.end.0 c.in-Err.why c.in-Err.field-0-1 c.if-why-eq-NO_CONTRADICTION.true
    ∙ sym (ap (end_told c.args.end.0) c.in-Err.is)

pub returns-in-Ok : goal.returns-in-Ok
returns-in-Ok c = c.stands_at.ensures ∙ sym (ap (end_told c.args.end.0) c.in-Ok.is)

pub returns-else-why-eq-NO_CONTRADICTION : goal.returns-else-why-eq-NO_CONTRADICTION
returns-else-why-eq-NO_CONTRADICTION c =
    c.stands_at-in-Err.ensures
    ∙ altered c.args.end.0 c.in-Err.why c.in-Err.field-0-1 c.if-why-eq-NO_CONTRADICTION.false
    ∙ sym (ap (end_told c.args.end.0) c.in-Err.is)
