-- The laws about readers and choices with one about characters: `search (units, needs)` proves a return.
use Prim.Native.Nat.{ℕ}
use mathlib.Core.Path.{◌≡◌, ap₂}
use Rattle.json_tokens.proofs.Picks.{picks}
use Rattle.json_strings.specs.declared.Unit.TheVariants.{Code}

pub code_same : {c d j k : ℕ} → c ≡ d → j ≡ k → Code c j ≡ Code d k
code_same e h = ap₂ Code e h

pub ruleset units = (picks, code_same)
