-- `c_packets::clocking::rows` meets its contract.
use Rattle.std.proofs.Common.{ext_get_or, sym, ◌∙◌, arith, rules}
use Rattle.laws.proofs.Made.{made}
use Rattle.laws.proofs.Upto.{upto-length, upto-at}
use Rattle.clock.specs.State.{no_window}
use Rattle.c_packets.specs.Clocking.{row_of}
use Rattle.c_packets.proofs.clocking.rows.Goals as goal

pub returns : goal.returns
returns c =
    let of = row_of c.args.k in
    let out = c.from_fn.ensures.items in
    let each = made _ of _ no_window c.from_fn.result (λ i y q k. search rules) 16 out in
    ext_get_or no_window c.from_fn.result _ (out.long ∙ sym (upto-length of 16))
    (λ s h. each s (omega (arith, out.long)) ∙ sym (upto-at of 16 s no_window (omega (arith, out.long))))
