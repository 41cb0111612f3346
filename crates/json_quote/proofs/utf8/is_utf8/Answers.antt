-- `json_quote::utf8::is_utf8` meets its contract: the walk from k on says what the whole one does.
use mathlib.Core.Path.{refl, ◌∙◌}
use mathlib.Core.Bool.{true, false}
use Rattle.json_tokens.proofs.Turns.{walked_more, turn-falls, walked_end, walked-wrong}
use Rattle.json_quote.specs.Utf8.{char_step}
use Rattle.json_quote.proofs.Chars.{forth-char, reached-as}
use Rattle.json_quote.proofs.utf8.is_utf8.Goals as goal

pub loop-j-init : goal.loop-j-init
loop-j-init c = refl

pub loop-j-smaller : goal.loop-j-smaller
loop-j-smaller c =
    turn-falls _ (char_step _) (forth-char _) _ c.char_step.ensures c.in-More.is

pub loop-j-preserved : goal.loop-j-preserved
loop-j-preserved c =
    walked_more _ (char_step _) (forth-char _) _ c.char_step.ensures c.in-More.is ∙ c.loop-j.invariant

pub returns-in-End : goal.returns-in-End
returns-in-End c =
    let w = walked_end _ (char_step _) _ c.char_step.ensures c.in-End.is in
    reached-as _ _ true w c.loop-j.invariant refl

pub returns-in-Wrong : goal.returns-in-Wrong
returns-in-Wrong c =
    let w = walked-wrong _ (char_step _) _ c.char_step.ensures c.in-Wrong.is in
    reached-as _ _ false w c.loop-j.invariant refl
