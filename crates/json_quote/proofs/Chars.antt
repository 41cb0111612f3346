-- Every turn of the test of UTF-8 goes forth.
use Rattle.std.specs.Prelude.{Option}
use Prim.Native.Nat.{ℕ, ◌+◌}
use mathlib.Core.Path.{◌≡◌, refl, ◌∙◌, ap}
use mathlib.Core.Bool.{Bool, true, false}
use mathlib.Core.List.{List}
use native.Mathlib.Omega.{arith}
use lib.Dec.{leb, ltb}
use lib.ListN.{length, get_or}
use borrow.Author.Tests.{leb-false}
use Rattle.laws.specs.Pick.{pick}
use Rattle.json_tokens.specs.declared.Step.TheVariants.{More, End}
use Rattle.json_tokens.specs.Walk.{walked}
use Rattle.json_tokens.proofs.Ahead.{of-pick}
use Rattle.json_tokens.proofs.Turns.{Forth}
use Rattle.json_strings.specs.Text.{unit_step}
use Rattle.json_strings.proofs.Ahead.{forth-unit}
use Rattle.json_quote.specs.Utf8.{char_step, reached, is_utf8}

pub forth-char : (x : List ℕ) (k : ℕ) → Forth (length x) k (char_step x k)
unfolding char_step pick
forth-char x k = by (leb (length x) k) refl
  where
    by : (t : Bool) → leb (length x) k ≡ t
        → Forth (length x) k (pick t (End k) (pick (ltb (get_or x k 0) 128) (More (k + 1)) (unit_step x k)))
    by true e = omega arith
    by false e =
        let h = leb-false (length x) k e in
        of-pick (Forth (length x) k) (ltb (get_or x k 0) 128) (omega arith, omega arith) (forth-unit x k)

-- what the answer of the walk says, from the place at which the last turn stands
pub reached-as : (x : List ℕ) {r : Option ℕ} (k : ℕ) (b : Bool) → r ≡ walked (length x) (char_step x) k
    → walked (length x) (char_step x) k ≡ walked (length x) (char_step x) 0 → b ≡ reached r → b ≡ is_utf8 x
unfolding is_utf8
reached-as x k b e f g = g ∙ ap reached (e ∙ f)
