-- Laws about runs of characters that stand for themselves.
use Rattle.std.specs.Prelude.{Some}
use Prim.Native.Nat.{ℕ, suc, ◌+◌, ◌-◌, ◌≤◌, ◌<◌}
use mathlib.Core.Path.{◌≡◌, refl, sym, ◌∙◌, ap}
use mathlib.Core.Bool.{Bool, true, false, not, ◌&&◌, true≢false}
use mathlib.Core.List.{List}
use native.Mathlib.Omega.{arith}
use lib.Dec.{eqb, leb, ltb}
use lib.ListN.{length, get_or}
use borrow.Author.Tests.{leb-true, leb-false, eqb-true, eqb-false, ne_eqb}
use Rattle.laws.specs.Pick.{pick}
use Rattle.json_strings.specs.declared.Unit.TheVariants.{Code, Close}
use Rattle.json_tokens.specs.declared.Step.TheVariants.{More}
use Rattle.json_tokens.specs.Scan.{past_while}
use Rattle.json_tokens.specs.Walk.{walked}
use Rattle.json_strings.specs.Text.{unescaped, unit_at, step_of, unit_step, string_at, content_at, told}
use Rattle.json_strings.specs.Text.{Lettered}
use Rattle.json_tokens.proofs.Picks.{over}
use Rattle.json_tokens.proofs.While.{while-more, while-stop, while-end, while-same, while-ahead}
use Rattle.json_tokens.proofs.Turns.{walked_more, walked_end}
use Rattle.json_strings.proofs.Ahead.{forth-unit}
use Rattle.json_strings.proofs.Content.{content-code, content-close}

-- A byte that is no such character, within the text or past its end: the run is empty. One that is lies within.
module _ {x : ℕ} {t : Bool} (s : List ℕ) (k : ℕ) (e : x ≡ get_or s k 0) (g : t ≡ unescaped x) where
  pub run_none : t ≡ false → k ≡ past_while unescaped s k
  run_none h = by (leb (suc k) (length s)) refl
    where
      by : (b : Bool) → leb (suc k) (length s) ≡ b → k ≡ past_while unescaped s k
      by true u = while-stop unescaped s k (leb-true _ _ u) (ap unescaped (sym e) ∙ sym g ∙ h)
      by false u = while-end unescaped s k (omega (arith, leb-false (suc k) (length s) u))

  pub run_inside : t ≡ true → k < length s
  unfolding unescaped
  run_inside h = by (eqb x 0) refl
    where
      by : (b : Bool) → eqb x 0 ≡ b → k < length s
      by true u = absurd (true≢false (sym h ∙ g ∙ ap unescaped (eqb-true x 0 u)))
      by false u = let f = eqb-false x 0 u in over s e (omega (arith, f))

  pub run-one : t ≡ true → past_while unescaped s (k + 1) ≡ past_while unescaped s k
  run-one h = while-more unescaped s k (run_inside h) (ap unescaped (sym e) ∙ sym g ∙ h)

-- by the tests, in the order of `unit_at`
by_tests : {A : Type 0} (quote slash low below : Bool) (a b c d e : A)
    → ((not quote && not slash) && not low) && below ≡ true
    → pick quote a (pick slash b (pick low c (pick below d e))) ≡ d
unfolding pick
by_tests true slash low below a b c d e h = cc
by_tests false true low below a b c d e h = cc
by_tests false false true below a b c d e h = cc
by_tests false false false false a b c d e h = cc
by_tests false false false true a b c d e h = refl

-- such a character is itself, and takes one byte
pub unit-unescaped : (s : List ℕ) (k : ℕ) → unescaped (get_or s k 0) ≡ true → unit_at s k ≡ Code (get_or s k 0) (k + 1)
unfolding unit_at unescaped
unit-unescaped s k h =
    by_tests (eqb (get_or s k 0) 34) (eqb (get_or s k 0) 92) (ltb (get_or s k 0) 32) (ltb (get_or s k 0) 128) _
    _ _ _ _ h

-- and a quote closes
pub unit-quoted : {b : ℕ} (s : List ℕ) (k : ℕ) → b ≡ get_or s k 0 → b ≡ 34 → unit_at s k ≡ Close (k + 1)
unfolding unit_at pick
unit-quoted s k e h = rw (sym e ∙ h) refl

step-unescaped : (s : List ℕ) (k : ℕ) → unescaped (get_or s k 0) ≡ true → unit_step s k ≡ More (k + 1)
unfolding unit_step
step-unescaped s k h = ap step_of (unit-unescaped s k h)

-- so a string goes on past a run of them; r is its end in code
pub walked-run : {r : ℕ} (s : List ℕ) (k : ℕ) → r ≡ past_while unescaped s k
    → walked (length s) (unit_step s) r ≡ walked (length s) (unit_step s) k
walked-run s k e =
    ap (walked (length s) (unit_step s)) e ∙ while-same unescaped s (walked (length s) (unit_step s))
    (λ j u. walked_more (length s) (unit_step s) (forth-unit s) j refl (step-unescaped s j u)) k

-- and holds a character for each byte of the run
content-run : {r : ℕ} (s : List ℕ) (k : ℕ) → r ≡ past_while unescaped s k
    → r + length (content_at s r) ≡ k + length (content_at s k)
content-run s k e = ap reach e ∙ while-same unescaped s reach one k
  where
    reach : ℕ → ℕ
    reach j = j + length (content_at s j)

    one : (j : ℕ) → unescaped (get_or s j 0) ≡ true → reach (j + 1) ≡ reach j
    one j u = rw (content-code s j refl (unit-unescaped s j u)) (omega arith)

-- ---- A string by the run that it begins with: b, r and n are what code holds.
pub run-ahead : {r : ℕ} (s : List ℕ) (k : ℕ) → r ≡ past_while unescaped s k → k ≤ r
run-ahead s k e = omega (arith, e, while-ahead unescaped s k)

pub run-unquoted : {b : ℕ} (s : List ℕ) (at : ℕ) → b ≡ get_or s at 0 → (b ≡ 34 → ⊥)
    → (string_at s at ≡ told 0) × Lettered s at 0
unfolding string_at pick
run-unquoted {b} s at e h = (rw (sym e, ne_eqb b 34 h) refl, record { long = λ q. absurd (h (e ∙ q)) })

pub run-begun : {b r : ℕ} (s : List ℕ) (at : ℕ) → b ≡ get_or s at 0 → b ≡ 34 → r ≡ past_while unescaped s (at + 1)
    → string_at s at ≡ walked (length s) (unit_step s) r
unfolding string_at pick
run-begun s at e h g = rw (sym e ∙ h) (sym (walked-run s (at + 1) g))

pub run-lettered : {r n : ℕ} (s : List ℕ) (at : ℕ) → r ≡ past_while unescaped s (at + 1)
    → r - at - 1 + length (content_at s r) ≡ n → Lettered s at n
run-lettered s at g h =
    record { long = λ _. omega (arith, content-run s (at + 1) g, run-ahead s (at + 1) g, h) }

-- the run is all of it
pub run-closed : {b r c : ℕ} (s : List ℕ) (at : ℕ) → b ≡ get_or s at 0 → b ≡ 34 → r ≡ past_while unescaped s (at + 1)
    → c ≡ get_or s r 0 → c ≡ 34 → (string_at s at ≡ Some (r + 1)) × Lettered s at (r - at - 1)
unfolding unit_step
run-closed {r = r} s at e h g f i =
    let q = unit-quoted s r f i in (
      run-begun s at e h g ∙ sym (walked_end (length s) (unit_step s) r refl (ap step_of q)),
      run-lettered s at g (omega (arith, ap length (content-close s r refl q))),
    )
