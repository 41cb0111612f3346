-- refusal/proofs/Refusal/shifted/Answers.antt
-- `refusal::Refusal::shifted` meets its contract where the code is of 4 to 7.
use mathlib.Core.Path.{refl}
use native.Mathlib.Omega.{arith}
use borrow.Author.Tests.{le-leb}
use Rattle.refusal.proofs.Refusal.shifted.Goals as goal

pub returns-in-4-to-7 : goal.returns-in-4-to-7
returns-in-4-to-7 c = rw (le-leb 4 c.args.self.code (omega arith), le-leb c.args.self.code 7 (omega arith)) refl
