use Rattle.choices.proofs.Masks.{mask_fits, by-masks}
use mathlib.Core.Path.{refl}
use native.Mathlib.Omega.{arith}
use Rattle.choices.proofs.word.Goals as goal

pub overflow_mul-m : goal.overflow_mul-m
overflow_mul-m c = record { fits = mask_fits _ c.requires }

pub returns : goal.returns
returns c =
    by-masks _ _ _ c.requires (omega arith) (omega arith) _ _ refl refl
