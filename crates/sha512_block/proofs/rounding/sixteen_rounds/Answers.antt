-- `sha512_block::rounding::sixteen_rounds` meets its contract. Each call is one step more.
use Rattle.sha512_block.specs.Rolling.{round_step}
use Rattle.sha512_block.proofs.Steps.{step-none, step-more}
use Rattle.sha512_block.proofs.rounding.sixteen_rounds.Goals as goal

pub returns : goal.returns
returns c =
    let a = c.args in
    let s0 = step-none (round_step a.w.now) a.t a.s in
    let s1 = step-more s0 c.one_round-s1.ensures in
    let s2 = step-more s1 c.one_round-s2.ensures in
    let s3 = step-more s2 c.one_round-s3.ensures in
    let s4 = step-more s3 c.one_round-s4.ensures in
    let s5 = step-more s4 c.one_round-s5.ensures in
    let s6 = step-more s5 c.one_round-s6.ensures in
    let s7 = step-more s6 c.one_round-s7.ensures in
    let s8 = step-more s7 c.one_round-s8.ensures in
    let s9 = step-more s8 c.one_round-s9.ensures in
    let s10 = step-more s9 c.one_round-s10.ensures in
    let s11 = step-more s10 c.one_round-s11.ensures in
    let s12 = step-more s11 c.one_round-s12.ensures in
    let s13 = step-more s12 c.one_round-s13.ensures in
    let s14 = step-more s13 c.one_round-s14.ensures in
    let s15 = step-more s14 c.one_round-s15.ensures in
    (step-more s15 c.one_round.ensures).is
