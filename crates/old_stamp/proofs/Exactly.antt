-- The request's sentences and the answer are one: 29 exactly where the stamp is bad, else the window of its interval.
use Rattle.std.specs.Prelude.{Ok}
use Prim.Native.Nat.{ℕ}
use mathlib.Core.Path.{◌≡◌, refl, sym, ap, subst, ◌∙◌}
use mathlib.Core.Bool.{Bool, true, false}
use mathlib.Core.Logic.{◌↔◌, ◌⊎◌, inl, inr, ⊎_elim}
use native.Mathlib.Omega.{arith}
use borrow.Author.Tests.{ltb-true, ltb-false, leb-true, leb-false}
use lib.Dec.{ltb, leb}
use Rattle.laws.specs.First.{when_of}
use Rattle.old_stamp.specs.Stamp.{date_of, micros_of, stamp_bad, stamp_code}
use Rattle.old_stamp.specs.Window.{old_window_of, stamped_of, stamped_number}
use Rattle.old_stamp.specs.Meaning.{BadStamp, GoodStamp, IsWindow}
use Rattle.old_stamp.specs.declared.OldWindow.{OldWindow}
use Rattle.old_stamp.proofs.AnswerLaws.{early-bad, late-bad, else-good}
use Rattle.old_stamp.proofs.Rounding.{low-is, high_is, low-only, high-only}

module _ (stamp : ℕ) where
  either : BadStamp stamp ⊎ GoodStamp stamp
  either = by (ltb (date_of stamp) 40587) (leb 86401000000 (micros_of stamp)) refl refl
    where
      by : (a b : Bool) → ltb (date_of stamp) 40587 ≡ a → leb 86401000000 (micros_of stamp) ≡ b
          → BadStamp stamp ⊎ GoodStamp stamp
      by true b e f = inl (inl (ltb-true _ _ e))
      by false true e f = inl (inr (leb-true _ _ f))
      by false false e f = inr (record { date = ltb-false _ _ e; micros = leb-false _ _ f })

  bad-tested : BadStamp stamp → stamp_bad stamp ≡ true
  bad-tested = ⊎_elim (early-bad stamp) (late-bad stamp)

  good-tested : GoodStamp stamp → stamp_bad stamp ≡ false
  good-tested g = else-good stamp g.date g.micros

  bad-code : BadStamp stamp → (stamp_code stamp).code ≡ 29
  unfolding when_of
  bad-code b = rw (bad-tested b) refl

  good-code : GoodStamp stamp → (stamp_code stamp).code ≡ 0
  unfolding when_of
  good-code g = rw (good-tested g) refl

  -- 29 exactly where the date is under 40587 or the microseconds are 86,401,000,000 or more,
  pub bad-exactly : (stamp_code stamp).code ≡ 29 ↔ BadStamp stamp
  bad-exactly = (λ e. ⊎_elim (λ b. b) (λ g. absurd (omega (arith, e, good-code g))) either, bad-code)

  -- and 0 exactly where neither holds
  pub good-exactly : (stamp_code stamp).code ≡ 0 ↔ GoodStamp stamp
  good-exactly = (λ e. ⊎_elim (λ b. absurd (omega (arith, e, bad-code b))) (λ g. g) either, good-code)

  module _ (radi : ℕ) where
    bad-stamped : BadStamp stamp → stamped_number (stamped_of stamp radi) ≡ 29
    unfolding stamped_of when_of
    bad-stamped b = rw (bad-tested b) refl

    good-stamped : GoodStamp stamp → stamped_of stamp radi ≡ Ok (old_window_of stamp radi)
    unfolding stamped_of
    good-stamped g = rw (good-tested g) refl

    -- the answer is a window exactly where the stamp is good and the two ends are those of its interval
    pub window-exactly : (w : OldWindow) → stamped_of stamp radi ≡ Ok w ↔ IsWindow stamp radi w
    window-exactly w = (λ e. ⊎_elim (λ b. absurd (refused e b)) (λ g. told e g) either, back)
      where
        refused : stamped_of stamp radi ≡ Ok w → BadStamp stamp → ⊥
        refused e b = let z : ◌≡◌ {A = ℕ} 0 29 = sym (ap stamped_number e) ∙ bad-stamped b in omega arith

        told : stamped_of stamp radi ≡ Ok w → GoodStamp stamp → IsWindow stamp radi w
        told e g =
            let f : Ok (old_window_of stamp radi) ≡ Ok w = sym (good-stamped g) ∙ e in
            let same : old_window_of stamp radi ≡ w = cc in
            subst (IsWindow stamp radi) same (record { good = g; low_end = low-is _ radi; high_end = high_is _ radi })

        back : IsWindow stamp radi w → stamped_of stamp radi ≡ Ok w
        back i =
            good-stamped i.good
            ∙ rw (← low-only _ radi _ i.low_end, ← high-only _ radi _ i.high_end) refl
