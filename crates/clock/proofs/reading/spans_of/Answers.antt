-- `clock::reading::spans_of` meets its contract.
use Rattle.std.proofs.Common.{ext_get_or, sym, ◌∙◌, arith, rules}
use Rattle.laws.proofs.Made.{made}
use Rattle.laws.proofs.Upto.{upto-length, upto-at}
use Rattle.clock_spans.specs.Spans.{unknown}
use Rattle.clock.specs.Used.{span_of, spans_of}
use Rattle.clock.proofs.reading.spans_of.Goals as goal

pub returns : goal.returns
unfolding spans_of
returns c =
    let of = span_of c.args.clock c.args.t c.args.counting in
    let out = c.from_fn.ensures.items in
    let each = made _ of _ unknown c.from_fn.result (λ i y q k. search rules) 8 out in
    ext_get_or unknown c.from_fn.result _ (out.long ∙ sym (upto-length of 8))
    (λ s h. each s (omega (arith, out.long)) ∙ sym (upto-at of 8 s unknown (omega (arith, out.long))))
