-- The test for a downgrade decides the sentence, of any two lists, whether they rise or not.
use Prim.Native.Nat.{ℕ, ◌*◌, ◌/◌}
use mathlib.Core.Path.{◌≡◌, refl, sym, ◌∙◌}
use mathlib.Core.Bool.{Bool, true, false, not, ◌&&◌, true≢false}
use mathlib.Core.List.{List}
use mathlib.Core.Logic.{◌↔◌}
use borrow.Author.Tests.{lt-ltb, ltb-true}
use lib.ListN.{length}
use Rattle.laws.specs.Least.{least, somewhere}
use Rattle.laws.specs.Numbers.{le, le_bytes}
use Rattle.laws.proofs.Least.{somewhere-at, somewhere-here}
use Rattle.wire_packet.proofs.Versions.{one-version, version-test}
use Rattle.check_response.specs.Downgrade.{Downgrade, asked_above, downgrades}

-- of two tests that hold at once, the second turned round, each by itself
parts : (a b : Bool) → (a && not b) ≡ true → (a ≡ true) × (b ≡ false)
parts true false e = (refl, refl)
parts true true e = absurd (true≢false (sym e))
parts false b e = absurd (true≢false (sym e))

module _ (vers ver : List ℕ) (chosen : ℕ) where
  -- version k of VERS, and its test
  abbrev version : ℕ → ℕ
  version k = le 4 vers (4 * k)

  abbrev test : ℕ → Bool
  test k = asked_above ver chosen (version k)

  -- the test holds exactly where there is a downgrade,
  pub downgrade-exactly : downgrades vers ver chosen ≡ true ↔ Downgrade vers ver chosen
  unfolding downgrades asked_above
  downgrade-exactly = (
    λ e.
        let s = somewhere-at test (length vers / 4) e in
        let p = parts _ _ s.1 in
        record {
          v = version (least test (length vers / 4));
          listed = record { place = least test (length vers / 4); inside = s.0; is = refl };
          asked = (version-test _ _).0 p.1;
          above = ltb-true _ _ p.0;
        },
    λ d.
        somewhere-here test (length vers / 4) d.listed.place d.listed.inside
        (rw (d.listed.is, lt-ltb chosen d.v d.above, (version-test ver d.v).1 d.asked)),
  )

  -- and fails exactly where there is none
  pub no-downgrade : downgrades vers ver chosen ≡ false ↔ (Downgrade vers ver chosen → ⊥)
  no-downgrade = (λ e d. true≢false (sym (downgrade-exactly.1 d) ∙ e), λ n. by (downgrades vers ver chosen) refl n)
    where
      by : (t : Bool) → downgrades vers ver chosen ≡ t → (Downgrade vers ver chosen → ⊥) → t ≡ false
      by true e n = absurd (n (downgrade-exactly.0 e))
      by false e n = refl

-- a server that knows version 1 alone, and chose it, talks nobody down, whatever was asked
pub one-highest : (ver : List ℕ) → downgrades one-version ver 1 ≡ false
unfolding downgrades asked_above somewhere least le_bytes le
one-highest ver = refl
