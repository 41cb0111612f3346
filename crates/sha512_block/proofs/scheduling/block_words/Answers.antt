-- `sha512_block::scheduling::block_words` meets its contract: word t is made at place t.
use Rattle.std.proofs.Common.{ext_get_or, sym, ◌∙◌, arith, rules}
use Rattle.laws.proofs.Made.{made}
use Rattle.sha512_block.specs.Schedule.{block_word, first_words}
use Rattle.sha512_block.proofs.Schedule.{words_long, own_word}
use Rattle.sha512_block.proofs.scheduling.block_words.Goals as goal

pub returns : goal.returns
returns c =
    let b = c.args.b.now in
    let out = c.from_fn.ensures.items in
    let each = made _ (block_word b) _ 0 c.from_fn.result (λ i y q k. search rules) 16 out in
    ext_get_or 0 c.from_fn.result (first_words b 16) (out.long ∙ sym (words_long b 16))
    (λ t h. each t (omega (arith, out.long)) ∙ sym (own_word b t (omega (arith, out.long))))
