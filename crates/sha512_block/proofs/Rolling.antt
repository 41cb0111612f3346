-- The rounds with sixteen words of the schedule at a time are the rounds over the whole schedule.
use Rattle.std.proofs.Common.{◌≡◌, ℕ, ◌+◌, ◌-◌, ◌%◌, ◌<◌, ◌≤◌, List, length, get_or, replicate, sym, refl, ap, ◌∙◌, ⊎_elim, eq-or-lt_of_le, add-one, arith, length-set, get_or-set_other, get_or-take, get_or-set_same}
use lib.ListN.{get_or-replicate}
use Rattle.sha512_block.specs.Constants.{K}
use Rattle.sha512_block.specs.Rolling.{Turning, turning, next_mixed, word_step, round_step, turn_step}
use Rattle.sha512_block.specs.Rounds.{round, rounds}
use Rattle.sha512_block.specs.Schedule.{first_words, schedule}
use Rattle.sha512_block.specs.Steps.{steps}
use Rattle.sha512_block.specs.declared.Regs.{Regs}
use Rattle.sha512_block.proofs.Schedule.{words_take, schedule-high}
use Rattle.sha512_block.proofs.Steps.{steps-keep}

-- before round t of the block b, from the working variables z on
pub record Rolling (b : List ℕ) (z : Regs) (t : ℕ) (p : Turning) : Type 0 where
  pub long : length p.words ≡ 16
  pub window : (u : ℕ) → t ≤ u → u < t + 16 → get_or p.words (u % 16) 0 ≡ get_or (schedule b) u 0
  pub so_far : p.regs ≡ rounds (schedule b) z t

-- the block's own words
pub rolling-none : (b w : List ℕ) (z : Regs) → length w ≡ 16 → w ≡ first_words b 16 → Rolling b z 0 (turning z w)
unfolding schedule rounds
rolling-none b w z l e = record {
  long = l;
  window = λ u h g.
      let m : u % 16 ≡ u = omega arith in
      let f : u < 16 = omega arith in
      ap (λ (i : ℕ). get_or w i 0) m
      ∙ ap (λ (x : List ℕ). get_or x u 0) (e ∙ sym (words_take b 16 80 (omega arith)))
      ∙ get_or-take 16 (first_words b 80) u 0 f;
  so_far = refl;
}

-- one round more over the schedule q, from any words of which the one at t's place is word t
round-more : (q w : List ℕ) (z : Regs) (t : ℕ) (y : Regs) → get_or w (t % 16) 0 ≡ get_or q t 0
    → y ≡ rounds q z t → round_step w t y ≡ rounds q z (t + 1)
unfolding rounds
round-more q w z t y v e = rw (add-one, v) (ap (round (get_or K t 0) (get_or q t 0)) e)

module _ (b : List ℕ) (z : Regs) (t : ℕ) (p : Turning) (l : t < 64) (r : Rolling b z t p) where
  abbrev w : List ℕ
  w = p.words

  -- the word that is n behind word t stands in the window
  near : (n : ℕ) → n < 16 → get_or w ((t + n) % 16) 0 ≡ get_or (schedule b) (t + n) 0
  near n h = r.window (t + n) (omega arith) (omega arith)

  -- the next word is the schedule's, by FIPS's recurrence
  next-is : next_mixed w t ≡ get_or (schedule b) (t + 16) 0
  next-is =
      let e2 : t + 16 - 2 ≡ t + 14 = omega arith in
      let e7 : t + 16 - 7 ≡ t + 9 = omega arith in
      let e15 : t + 16 - 15 ≡ t + 1 = omega arith in
      let e16 : t + 16 - 16 ≡ t = omega arith in
      rw (near 14 (omega arith), near 9 (omega arith), near 1 (omega arith), r.window t (omega arith) (omega arith))
      (sym (rw (e2, e7, e15, e16) at (schedule-high b (t + 16) (omega arith) (omega arith))))

  -- one turn more
  rolling-turn : Rolling b z (t + 1) (turn_step t p)
  rolling-turn = record {
    long = simp length-set r.long;
    window = λ u h g.
        ⊎_elim
        (λ (q : u ≡ t + 16).
        let m : u % 16 ≡ t % 16 = omega arith in
        let n : length w ≡ 16 = r.long in
        ap (λ (i : ℕ). get_or (word_step t w) i 0) m
        ∙ get_or-set_same w (t % 16) (next_mixed w t) 0 (omega arith)
        ∙ next-is
        ∙ ap (λ (i : ℕ). get_or (schedule b) i 0) (sym q))
        (λ (q : u < t + 16).
        get_or-set_other w (t % 16) (u % 16) (next_mixed w t) 0 (λ (m : u % 16 ≡ t % 16). omega arith)
        ∙ r.window u (omega arith) q)
        (eq-or-lt_of_le (omega arith));
    so_far = round-more (schedule b) w z t p.regs (r.window t (omega arith) (omega arith)) r.so_far;
  }

-- n turns more
pub rolling-turns : {b : List ℕ} {z : Regs} {t u : ℕ} {p q : Turning} (n : ℕ) → Rolling b z t p → u ≡ t + n
    → t + n ≤ 64 → q ≡ steps turn_step t n p → Rolling b z u q
rolling-turns {b} {z} {t} {u} {p} {q} n r u-is l e =
    rw (u-is, e) (steps-keep turn_step (Rolling b z) t n p (λ i y f g h. rolling-turn b z i y (omega arith) h) r)

-- the last sixteen rounds
pub rolling-last : {b w : List ℕ} {z x r : Regs} {t : ℕ} → t ≡ 64 → Rolling b z t (turning x w)
    → r ≡ steps (round_step w) 64 16 x → r ≡ rounds (schedule b) z 80
rolling-last {b} {w} {z} {x} {r} {t} t-is l e =
    rw (e)
    (steps-keep (round_step w) (λ i y. y ≡ rounds (schedule b) z i) 64 16 x
    (λ i y f g h. round-more (schedule b) w z i y (l.window i (omega arith) (omega arith)) h) (rw t-is at l.so_far))

-- n rounds more over a schedule of zeros, with words of zeros
pub quiet-more : {w : List ℕ} (z x : Regs) {r : Regs} {u : ℕ} (t n : ℕ) → w ≡ replicate 16 0 → u ≡ t + n
    → t + n ≤ 80 → x ≡ rounds (replicate 80 0) z t → r ≡ steps (round_step w) t n x → r ≡ rounds (replicate 80 0) z u
quiet-more {w} z x {r} {u} t n w-is u-is l so_far e =
    rw (u-is, e, w-is)
    (steps-keep (round_step (replicate 16 0)) (λ i y. y ≡ rounds (replicate 80 0) z i) t n x
    (λ i y f g h.
    let word : get_or (replicate 16 0) (i % 16) 0 ≡ 0 = get_or-replicate 16 (i % 16) 0 0 (omega arith) in
    round-more (replicate 80 0) (replicate 16 0) z i y (word ∙ sym (get_or-replicate 80 i 0 0 (omega arith))) h) so_far)
