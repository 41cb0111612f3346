-- `pile_signed::listing::answers_in` meets its contract.
use mathlib.Core.Path.{◌≡◌, sym, ap, ap₂, ◌∙◌}
use native.Mathlib.Omega.{arith}
use lib.ListN.{length}
use lib.Seq.{take_all}
use Rattle.pile.specs.Pile.{response_length, response_area, response_packet}
use Rattle.check_signatures.specs.SignatureAnswers.{answers_of}
use Rattle.pile_signed.proofs.listing.answers_in.Goals as goal

pub returns-then-response_length-gt-AREA : goal.returns-then-response_length-gt-AREA
unfolding response_packet
returns-then-response_length-gt-AREA c =
    let r = c.args.r.now.bytes.now in
    let area = c.response_area.ensures in
    let n : length (response_area r) ≡ 2000 = ap length (sym area.0) ∙ area.1 in
    let e : response_packet r ≡ response_area r =
    take_all (response_length r) (response_area r) (omega (arith, c.if-response_length-gt-AREA.true, c.response_length.ensures)) in
    c.answers.ensures ∙ ap₂ answers_of c.copy32.ensures (area.0 ∙ sym e)

pub response-requires : goal.response-requires
response-requires c =
    omega (arith, c.if-response_length-gt-AREA.false, c.response_length.ensures)

pub returns : goal.returns
returns c =
    c.answers-2.ensures ∙ ap₂ answers_of c.copy32-2.ensures c.response.ensures
