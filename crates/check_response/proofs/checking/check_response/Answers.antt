-- `check_response::checking::check_response` meets its contract.
use mathlib.Core.Path.{refl, ap, ◌∙◌}
use Rattle.refusal.proofs.Passing.{goes-on, error-is, error-refuses}
use Rattle.check_response.specs.Check.{window_in, pubk_in}
use Rattle.check_response.proofs.Lent.{checked-body, refused-clauses, valid-clauses}
use borrow.Author.Rules.{rules}
use Rattle.check_response.proofs.checking.check_response.Goals as goal

pub returns-in-Err : goal.returns-in-Err
returns-in-Err c =
    let is = c.check_code.ensures in
    let both = refused-clauses _ _ _ _ (error-is _ is c.in-Err.is) (error-refuses _ is c.in-Err.is) in
    record { verdict_value = both.0; value = both.1 }

pub body_of-m-requires : goal.body_of-m-requires
body_of-m-requires c =
    (checked-body _ _ _ _ refl (goes-on _ c.check_code.ensures (search rules))).0

pub window_in-w-requires : goal.window_in-w-requires
window_in-w-requires c =
    rw c.body_of-m.ensures
    (checked-body _ _ _ _ refl (goes-on _ c.check_code.ensures (search rules))).1

pub key_in-key-requires : goal.key_in-key-requires
key_in-key-requires c =
    rw c.body_of-m.ensures
    (checked-body _ _ _ _ refl (goes-on _ c.check_code.ensures (search rules))).1

pub returns-in-Ok : goal.returns-in-Ok
returns-in-Ok c =
    let both =
    valid-clauses _ _ _ _ refl (goes-on _ c.check_code.ensures (search rules))
    (c.window_in-w.ensures ∙ ap window_in c.body_of-m.ensures)
    (c.key_in-key.ensures ∙ ap pubk_in c.body_of-m.ensures) in
    record { verdict_value = both.0; value = both.1 }
