-- `capi::finding::tb_find_server` meets its contract.
use Rattle.std.specs.Prelude.{Ok, Result}
use mathlib.Core.Path.{◌≡◌, refl}
use native.Mathlib.Omega.{arith}
use Rattle.refusal.specs.declared.Refusal.{Refusal}
use Rattle.server_list.specs.declared.Where.{Where}
use Rattle.server_list.specs.declared.Where.TheVariants.{Owner, Shipped}
use Rattle.server_list.proofs.Matching.{within-owner, within-shipped}
use Rattle.server_list.proofs.Seeking.{sought-at}
use Rattle.c_packets.specs.Finding.{tb_found}
use borrow.Author.Rules.{rules}
use Rattle.capi.proofs.finding.tb_find_server.Goals as goal

pub overflow_mul-result : goal.overflow_mul-result
overflow_mul-result c =
    let e : c.search.result ≡ Ok (Owner c.in-Ok-Owner.k) = search rules in
    omega (arith, within-owner _ _ _ e c.search.ensures)

pub overflow_mul-result-in-Ok-Shipped : goal.overflow_mul-result-in-Ok-Shipped
overflow_mul-result-in-Ok-Shipped c =
    let e : c.search.result ≡ Ok (Shipped c.in-Ok-Shipped.k) = search rules in
    omega (arith, within-shipped _ _ _ e c.search.ensures)

pub returns-in-Ok-Owner : goal.returns-in-Ok-Owner
returns-in-Ok-Owner c =
    let w : Result Where Refusal = Ok (Owner c.in-Ok-Owner.k) in
    let e : c.search.result ≡ w = search rules in
    sought-at _ _ _ tb_found w e c.search.ensures refl

pub returns-in-Ok-Shipped : goal.returns-in-Ok-Shipped
returns-in-Ok-Shipped c =
    let w : Result Where Refusal = Ok (Shipped c.in-Ok-Shipped.k) in
    let e : c.search.result ≡ w = search rules in
    sought-at _ _ _ tb_found w e c.search.ensures refl

pub returns-in-Err : goal.returns-in-Err
returns-in-Err c =
    sought-at _ _ _ tb_found _ c.in-Err.is c.search.ensures refl
