-- `sha512_block::rounding::sixteen_turns` meets its contract. Each call is one step more.
use Rattle.sha512_block.specs.Rolling.{turning, turn_step}
use Rattle.sha512_block.proofs.Steps.{step-none, step-more}
use Rattle.sha512_block.proofs.rounding.sixteen_turns.Goals as goal

pub returns : goal.returns
returns c =
    let a = c.args in
    let s0 = step-none turn_step a.t (turning a.s a.w.now) in
    let s1 = step-more s0 c.turn-s1.ensures.w_after in
    let s2 = step-more s1 c.turn-s2.ensures.w_after in
    let s3 = step-more s2 c.turn-s3.ensures.w_after in
    let s4 = step-more s3 c.turn-s4.ensures.w_after in
    let s5 = step-more s4 c.turn-s5.ensures.w_after in
    let s6 = step-more s5 c.turn-s6.ensures.w_after in
    let s7 = step-more s6 c.turn-s7.ensures.w_after in
    let s8 = step-more s7 c.turn-s8.ensures.w_after in
    let s9 = step-more s8 c.turn-s9.ensures.w_after in
    let s10 = step-more s9 c.turn-s10.ensures.w_after in
    let s11 = step-more s10 c.turn-s11.ensures.w_after in
    let s12 = step-more s11 c.turn-s12.ensures.w_after in
    let s13 = step-more s12 c.turn-s13.ensures.w_after in
    let s14 = step-more s13 c.turn-s14.ensures.w_after in
    let s15 = step-more s14 c.turn-s15.ensures.w_after in
    (step-more s15 c.turn.ensures.w_after).is
