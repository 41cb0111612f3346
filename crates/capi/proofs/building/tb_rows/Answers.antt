-- `capi::building::tb_rows` meets its contract.
use Rattle.refusal.specs.declared.Refusal.{Refusal}
use Rattle.std.specs.Prelude.{Result, ℕ}
use mathlib.Core.Path.{ap, ◌∙◌}
use lib.ListN.{length}
use Rattle.tree_build.specs.Building.{rows_bytes}
use Rattle.c_packets.specs.Building.{tb_laid}
use Rattle.capi.proofs.Numbers.{rows_code}
use Rattle.capi.proofs.Rows.{told-length}
use borrow.Author.Rules.{rules}
use Rattle.capi.proofs.building.tb_rows.Goals as goal

pub returns : goal.returns
returns c =
    let called = c.rows in
    let size = c.rows_length-length in
    let a = c.args in
    let is = c.rows_told.ensures in record {
      value = is
          ∙ ap (tb_laid called.result) size.ensures
          ∙ told-length a.leaves.now (length a.out.now) called.result called.ensures.value
          ∙ ap (λ (x : Result ℕ Refusal). tb_laid x (length (rows_bytes a.leaves.now))) called.ensures.value;
      out_after = rw (is, rows_code called.result size.result) called.ensures.out_after;
    }
