use Prim.Native.Nat.{◌-◌}
use mathlib.Core.Path.{refl, ◌∙◌}
use native.Mathlib.Nat.{le_refl}
use lib.Seq.{take_all}
use lib.ListN.{length-drop, length, drop}
use Rattle.json_values.specs.Value.{literal_at}
use Rattle.laws.proofs.Picks.{hit, miss}
use Rattle.json_values.proofs.Words.{starts-is}
use Rattle.json_values.proofs.values.literal.Goals as goal

pub returns-then-starts_with : goal.returns-then-starts_with
unfolding literal_at
returns-then-starts_with c =
    hit _ (rw
    (take_all
    (length c.args.s.now - c.args.at)
    (drop c.args.at
    c.args.s.now) (simp length-drop (le_refl _))) at
    c.starts_with.ensures.value ∙ starts-is _ _) c.if-starts_with.true refl

pub returns-else-starts_with : goal.returns-else-starts_with
unfolding literal_at
returns-else-starts_with c =
    miss _ (rw
    (take_all
    (length c.args.s.now - c.args.at)
    (drop c.args.at
    c.args.s.now) (simp length-drop (le_refl _))) at
    c.starts_with.ensures.value ∙ starts-is _ _) c.if-starts_with.false refl
