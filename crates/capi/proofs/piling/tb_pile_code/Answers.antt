-- `capi::piling::tb_pile_code` meets its contract.
use mathlib.Core.Path.{sym, ap, ◌∙◌}
use Rattle.refusal.specs.declared.Refusal.{Refusal}
use Rattle.refusal.proofs.Passing.{goes-on, error-is}
use Rattle.capi.proofs.piling.tb_pile_code.Goals as goal

pub returns-in-Ok : goal.returns-in-Ok
returns-in-Ok c = sym (goes-on _ c.pile_code.ensures c.in-Ok.is)

pub returns-in-Err : goal.returns-in-Err
returns-in-Err c =
    c.number.ensures ∙ ap (λ (why : Refusal). why.code) (error-is _ c.pile_code.ensures c.in-Err.is)
