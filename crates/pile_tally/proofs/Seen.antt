-- Document 01's windows through both checks.
use mathlib.Core.Path.{refl}
use Prim.Native.Nat.{ℕ}
use Rattle.laws.specs.Least.{least, somewhere}
use Rattle.refusal.specs.declared.Refusal.{Refusal}
use Rattle.pile_tally.specs.Examples.{Each, table}
use Rattle.pile_tally.specs.Kept.{most_of, after, goes}
use Rattle.pile_tally.specs.Whole.{largest, one_pass}

pub seen-by-both : (mint maxt : ℕ) (why : Refusal) → Each (table mint maxt why)
unfolding least somewhere most_of after goes largest one_pass
seen-by-both mint maxt why = (
  (refl, refl, refl),
  (
    (refl, refl, refl),
    (
      (refl, refl, refl),
      (
        (refl, refl, refl),
        (
          (refl, refl, refl),
          (
            (refl, refl, refl),
            (
              (refl, refl, refl),
              (
                (refl, refl, refl),
                (
                  (refl, refl, refl),
                  (
                    (refl, refl),
                    tt,
                  ),
                ),
              ),
            ),
          ),
        ),
      ),
    ),
  ),
)
