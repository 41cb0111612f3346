-- Laws about `starts_with`, about a digit that stands alone, and about an empty string.
use Rattle.std.specs.Prelude.{Some}
use Prim.Native.Nat.{ℕ, ◌+◌, ◌<◌, ◌^◌}
use mathlib.Core.Path.{◌≡◌, refl, sym, ◌∙◌, ap}
use mathlib.Core.Bool.{Bool, true, false, ◌&&◌, true≢false}
use mathlib.Core.List.{List, [], ◌∷◌}
use native.Mathlib.Omega.{arith}
use lib.Dec.{eqb}
use lib.ListN.{length, get_or, take}
use lib.Pointwise.{pointwise}
use mir.Syntax.{w64}
use mir.Val.{Fits}
use Rattle.laws.specs.Pick.{pick, both}
use Rattle.json_tokens.specs.Scan.{starts_with, digit}
use Rattle.json_tokens.specs.Number.{lone_digit}
use Rattle.json_strings.specs.Text.{unescaped, string_at}
use Rattle.json_strings.proofs.Runs.{run_none, run-closed}
use Rattle.json_tokens.proofs.Lone.{digit-next}

-- what the library's method compares of two lists
pub starts-is : (w s : List ℕ) → pointwise eqb w (take (length w) s) ≡ starts_with w s
unfolding both
starts-is [] s = refl
starts-is (x ∷ w) [] = refl
starts-is (x ∷ w) (y ∷ s) = ap (λ b. eqb x y && b) (starts-is w s)

-- past a digit that stands alone
pub lone-next : {r : Bool} (s : List ℕ) (at : ℕ) → r ≡ lone_digit s at → r ≡ true → length s < 2 ^ 64 → Fits w64 (at + 1)
unfolding lone_digit pick
lone-next s at e h b = by (digit (get_or s at 0)) _ refl (sym e ∙ h)
  where
    by : (p q : Bool) → digit (get_or s at 0) ≡ p → pick p q false ≡ true → Fits w64 (at + 1)
    by true q d g = digit-next s at refl d b
    by false q d g = absurd (true≢false (sym g))

-- two quotes
pub string-empty : {b c : ℕ} (s : List ℕ) (at : ℕ) → b ≡ get_or s at 0 → b ≡ 34 → c ≡ get_or s (at + 1) 0 → c ≡ 34
    → Some (at + 2) ≡ string_at s at
unfolding unescaped
string-empty s at e h f i =
    ap Some (omega arith)
    ∙ sym (run-closed s at e h (run_none {t = false} s (at + 1) (sym i ∙ f) refl refl) f i).0
