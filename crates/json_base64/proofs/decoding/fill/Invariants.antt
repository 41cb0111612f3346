-- `json_base64::decoding::fill` meets its contract. What is left to write is what the characters from k on stand for;
-- as the whole string is base64, neither a part of a group nor a bad one is met.
use Prim.Native.Nat.{ℕ, ◌-◌}
use mathlib.Core.List.{List}
use lib.ListN.{length}
use Rattle.json_strings.specs.Text.{content_at}
use Rattle.base64_strict.specs.Decode.{decode64}
use Rattle.json_base64.specs.Sized.{plain}
use Rattle.json_base64.proofs.Fills.{Filling}
use Rattle.json_base64.proofs.decoding.fill.Given as goal

abbrev pub invariant-loop-quad : goal.invariant-loop-quad
invariant-loop-quad l =
    (was : List ℕ) → Filling (plain (decode64 (content_at l.s l.at))) l.s l.initial.k was l.initial.n l.initial.out
    → Filling (plain (decode64 (content_at l.s l.at))) l.s l.k was l.n l.out

abbrev pub decreases-loop-quad : goal.decreases-loop-quad
decreases-loop-quad l = length l.s - l.k
