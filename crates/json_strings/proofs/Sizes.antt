-- Laws about characters by how many bytes they take.
use Prim.Native.Nat.{ℕ, ◌+◌, ◌*◌, ◌-◌, ◌≤◌, ◌<◌}
use mathlib.Core.Path.{◌≡◌, refl, sym, ◌∙◌, ap}
use mathlib.Core.Bool.{Bool, true, false, not, ◌&&◌, ◌||◌, true≢false}
use mathlib.Core.List.{List}
use native.Mathlib.Omega.{arith}
use lib.Dec.{eqb, leb, ltb}
use lib.ListN.{length, get_or}
use borrow.Author.Tests.{eqb-true, leb-true, ltb-true, ne_eqb, lt-ltb, le-ltb, lt-leb, le-leb, not-false}
use Rattle.laws.specs.Pick.{pick, both}
use Rattle.json_tokens.specs.declared.Step.TheVariants.{More}
use Rattle.json_tokens.specs.Walk.{walked}
use Rattle.json_tokens.proofs.Turns.{walked_more}
use Rattle.json_strings.specs.declared.Unit.TheVariants.{Code}
use Rattle.json_strings.specs.Text.{nibble_of, nibble_at, hex_at, escape_at, least_second, most_second, second_at, tail_at}
use Rattle.json_strings.specs.Text.{two_at, three_at, four_at, long_at, wide_at, unit_at, step_of, unit_step}
use Rattle.json_strings.specs.Sizes.{is_tail, is_second, is_two, is_three, is_four, is_hex, is_quad, is_escape}
use Rattle.json_strings.specs.Sizes.{quad_of, StepsBy, HexedBy}
use Rattle.json_strings.proofs.Ahead.{forth-unit}

and_left : (a b : Bool) → a && b ≡ true → a ≡ true
and_left true b e = refl
and_left false b e = absurd (true≢false (sym e))

and_right : (a b : Bool) → a && b ≡ true → b ≡ true
and_right true b e = e
and_right false b e = absurd (true≢false (sym e))

-- a byte of 80 or more is no quote, no backslash and no control
pub wide-unit : (s : List ℕ) (k : ℕ) → 0x80 ≤ get_or s k 0 → unit_at s k ≡ wide_at s k
unfolding unit_at pick
wide-unit s k h =
    simp (
      ne_eqb (get_or s k 0) 34 (λ e. omega arith),
      ne_eqb (get_or s k 0) 92 (λ e. omega arith),
      le-ltb (get_or s k 0) 32 (omega arith),
      le-ltb (get_or s k 0) 128 h,
    )

-- after most first bytes any tail is a second byte
tail-second : (a b : ℕ) → a < 0xE0 → is_tail b ≡ true → is_second a b ≡ true
unfolding is_tail is_second least_second most_second pick
tail-second a b h e =
    rw (
      ne_eqb a 0xE0 (λ z. omega arith),
      ne_eqb a 0xF0 (λ z. omega arith),
      ne_eqb a 0xED (λ z. omega arith),
      ne_eqb a 0xF4 (λ z. omega arith),
    ) e

-- a digit in base 16 has a value
or_cases : (a b : Bool) {A : Type 0} → a || b ≡ true → (a ≡ true → A) → (b ≡ true → A) → A
or_cases true b e f g = f refl
or_cases false b e f g = g e

within : (b low high : ℕ) → leb low b && leb b high ≡ true → (low ≤ b) × (b ≤ high)
within b low high e = (leb-true low b (and_left (leb low b) (leb b high) e), leb-true b high (and_right (leb low b) (leb b high) e))

module _ (b : ℕ) where
  low_digit : 48 ≤ b → b ≤ 57 → nibble_of b ≡ b - 48
  unfolding nibble_of pick
  low_digit l m = simp (le-ltb b 48 l, le-leb b 57 m)

  small-digit : 97 ≤ b → b ≤ 102 → nibble_of b ≡ b - 97 + 10
  unfolding nibble_of pick
  small-digit l m =
      simp (
        le-ltb b 48 (omega arith),
        lt-leb b 57 (omega arith),
        le-ltb b 65 (omega arith),
        lt-leb b 70 (omega arith),
        le-ltb b 97 l,
        le-leb b 102 m,
      )

  large-digit : 65 ≤ b → b ≤ 70 → nibble_of b ≡ b - 65 + 10
  unfolding nibble_of pick
  large-digit l m =
      simp (le-ltb b 48 (omega arith), lt-leb b 57 (omega arith), le-ltb b 65 l, le-leb b 70 m)

  hex-nibble : is_hex b ≡ true → eqb (nibble_of b) 16 ≡ false
  unfolding is_hex
  hex-nibble h =
      or_cases ((leb 48 b && leb b 57) || (leb 97 b && leb b 102)) (leb 65 b && leb b 70) h
      (λ g. or_cases (leb 48 b && leb b 57) (leb 97 b && leb b 102) g
      (λ e. let w = within b 48 57 e in ne_eqb (nibble_of b) 16 (λ z. omega (arith, w.0, w.1, low_digit w.0 w.1)))
      (λ e. let w = within b 97 102 e in ne_eqb (nibble_of b) 16 (λ z. omega (arith, w.0, w.1, small-digit w.0 w.1))))
      (λ e. let w = within b 65 70 e in ne_eqb (nibble_of b) 16 (λ z. omega (arith, w.0, w.1, large-digit w.0 w.1)))

module _ (s : List ℕ) (k : ℕ) where
  second_at_lem : {a b : ℕ} → a ≡ get_or s k 0 → b ≡ get_or s (k + 1) 0 → is_second a b ≡ true → second_at s k ≡ true
  unfolding second_at is_second both
  second_at_lem e f h = rw (sym e, sym f) h

  tail-at : {c : ℕ} (i : ℕ) → c ≡ get_or s i 0 → is_tail c ≡ true → tail_at s i ≡ true
  unfolding tail_at is_tail both
  tail-at i e h = rw (sym e) h

  step-two : 0xC2 ≤ get_or s k 0 → get_or s k 0 < 0xE0 → second_at s k ≡ true → unit_step s k ≡ More (k + 2)
  unfolding unit_step wide_at pick
  step-two h g m =
      let u : wide_at s k ≡ Code (two_at s k) (k + 2) =
      simp (le-ltb (get_or s k 0) 0xC2 h, m, lt-ltb (get_or s k 0) 0xE0 g) in
      ap step_of (wide-unit s k (omega arith) ∙ u)

  step-three : 0xE0 ≤ get_or s k 0 → get_or s k 0 < 0xF0 → second_at s k ≡ true → tail_at s (k + 2) ≡ true
      → unit_step s k ≡ More (k + 3)
  unfolding unit_step wide_at long_at pick
  step-three h g m t =
      let u : wide_at s k ≡ Code (three_at s k) (k + 3) =
      simp (
        le-ltb (get_or s k 0) 0xC2 (omega arith),
        m,
        le-ltb (get_or s k 0) 0xE0 h,
        t,
        lt-ltb (get_or s k 0) 0xF0 g,
      ) in
      ap step_of (wide-unit s k (omega arith) ∙ u)

  step-four : 0xF0 ≤ get_or s k 0 → get_or s k 0 < 0xF5 → second_at s k ≡ true → tail_at s (k + 2) ≡ true
      → tail_at s (k + 3) ≡ true → unit_step s k ≡ More (k + 4)
  unfolding unit_step wide_at long_at pick
  step-four h g m t u =
      let v : wide_at s k ≡ Code (four_at s k) (k + 4) =
      simp (
        le-ltb (get_or s k 0) 0xC2 (omega arith),
        m,
        le-ltb (get_or s k 0) 0xE0 (omega arith),
        t,
        le-ltb (get_or s k 0) 0xF0 h,
        u,
        lt-ltb (get_or s k 0) 0xF5 g,
      ) in
      ap step_of (wide-unit s k (omega arith) ∙ v)

  no-nibble : {c : ℕ} (i j : ℕ) → i ≡ j → c ≡ get_or s j 0 → is_hex c ≡ true → eqb (nibble_at s i) 16 ≡ false
  unfolding nibble_at
  no-nibble {c} i j z e h = rw (z, sym e) (hex-nibble c h)

  unit-hex : get_or s k 0 ≡ 92 → get_or s (k + 1) 0 ≡ 117 → eqb (nibble_at s (k + 1 + 1)) 16 ≡ false
      → eqb (nibble_at s (k + 1 + 1 + 1)) 16 ≡ false → eqb (nibble_at s (k + 1 + 1 + 2)) 16 ≡ false
      → eqb (nibble_at s (k + 1 + 1 + 3)) 16 ≡ false
      → unit_at s k ≡ Code (4096 * nibble_at s (k + 1 + 1) + 256 * nibble_at s (k + 1 + 1 + 1)
      + 16 * nibble_at s (k + 1 + 1 + 2) + nibble_at s (k + 1 + 1 + 3)) (k + 1 + 1 + 4)
  unfolding unit_at escape_at hex_at pick
  unit-hex h g a b c d = rw (h, g) (simp (a, b, c, d))

  nibble-is : {c : ℕ} (i j : ℕ) → i ≡ j → c ≡ get_or s j 0 → nibble_at s i ≡ nibble_of c
  unfolding nibble_at
  nibble-is i j z e = rw (z, sym e) refl

-- ---- What code has of the bytes at a place.
module _ {a b : ℕ} (s : List ℕ) (k : ℕ) (ea : a ≡ get_or s k 0) (eb : b ≡ get_or s (k + 1) 0) (room : k + 6 ≤ length s) where
  pub steps-two : {t : Bool} → t ≡ is_two a b → t ≡ true → StepsBy s k 2
  unfolding is_two
  steps-two e h =
      let q = sym e ∙ h in
      let w = and_left (leb 0xC2 a && ltb a 0xE0) (is_tail b) q in
      let l = leb-true 0xC2 a (and_left (leb 0xC2 a) (ltb a 0xE0) w) in
      let m = ltb-true a 0xE0 (and_right (leb 0xC2 a) (ltb a 0xE0) w) in
      let n = tail-second a b m (and_right (leb 0xC2 a && ltb a 0xE0) (is_tail b) q) in
      record {
        on = step-two s k (omega arith) (omega arith) (second_at_lem s k ea eb n);
        fits = omega arith;
        takes = omega arith;
      }

  module _ {c : ℕ} (ec : c ≡ get_or s (k + 2) 0) where
    pub steps-three : {t : Bool} → t ≡ is_three a b c → t ≡ true → StepsBy s k 3
    unfolding is_three
    steps-three e h =
        let q = sym e ∙ h in
        let w = and_left ((leb 0xE0 a && ltb a 0xF0) && is_second a b) (is_tail c) q in
        let v = and_left (leb 0xE0 a && ltb a 0xF0) (is_second a b) w in
        let l = leb-true 0xE0 a (and_left (leb 0xE0 a) (ltb a 0xF0) v) in
        let m = ltb-true a 0xF0 (and_right (leb 0xE0 a) (ltb a 0xF0) v) in
        let n = second_at_lem s k ea eb (and_right (leb 0xE0 a && ltb a 0xF0) (is_second a b) w) in
        let o = tail-at s k (k + 2) ec (and_right ((leb 0xE0 a && ltb a 0xF0) && is_second a b) (is_tail c) q) in
        record { on = step-three s k (omega arith) (omega arith) n o; fits = omega arith; takes = omega arith }

    module _ {d : ℕ} (ed : d ≡ get_or s (k + 3) 0) where
      pub steps-four : {t : Bool} → t ≡ is_four a b c d → t ≡ true → StepsBy s k 4
      unfolding is_four
      steps-four e h =
          let q = sym e ∙ h in
          let x = and_left (((leb 0xF0 a && ltb a 0xF5) && is_second a b) && is_tail c) (is_tail d) q in
          let w = and_left ((leb 0xF0 a && ltb a 0xF5) && is_second a b) (is_tail c) x in
          let v = and_left (leb 0xF0 a && ltb a 0xF5) (is_second a b) w in
          let l = leb-true 0xF0 a (and_left (leb 0xF0 a) (ltb a 0xF5) v) in
          let m = ltb-true a 0xF5 (and_right (leb 0xF0 a) (ltb a 0xF5) v) in
          let n = second_at_lem s k ea eb (and_right (leb 0xF0 a && ltb a 0xF5) (is_second a b) w) in
          let o = tail-at s k (k + 2) ec (and_right ((leb 0xF0 a && ltb a 0xF5) && is_second a b) (is_tail c) x) in
          let p = tail-at s k (k + 3) ed
          (and_right (((leb 0xF0 a && ltb a 0xF5) && is_second a b) && is_tail c) (is_tail d) q) in
          record { on = step-four s k (omega arith) (omega arith) n o p; fits = omega arith; takes = omega arith }

      module _ {f g : ℕ} {t u : Bool} (ef : f ≡ get_or s (k + 4) 0) (eg : g ≡ get_or s (k + 5) 0) (et : t ≡ is_escape a b)
          (eu : u ≡ is_quad c d f g) where
        hex-is : t ≡ true → u ≡ true → Code (quad_of c d f g) (k + 6) ≡ unit_at s k
        unfolding is_escape is_quad
        hex-is m n =
            let q = sym et ∙ m in
            let p = sym eu ∙ n in
            let x = and_left ((is_hex c && is_hex d) && is_hex f) (is_hex g) p in
            let y = and_left (is_hex c && is_hex d) (is_hex f) x in
            let i : k + 1 + 1 ≡ k + 2 = omega arith in
            let j : k + 1 + 1 + 1 ≡ k + 3 = omega arith in
            let l : k + 1 + 1 + 2 ≡ k + 4 = omega arith in
            let o : k + 1 + 1 + 3 ≡ k + 5 = omega arith in
            let v : k + 1 + 1 + 4 ≡ k + 6 = omega arith in
            let w = unit-hex s k (sym ea ∙ eqb-true a 92 (and_left (eqb a 92) (eqb b 117) q))
            (sym eb ∙ eqb-true b 117 (and_right (eqb a 92) (eqb b 117) q))
            (no-nibble s k _ (k + 2) i ec (and_left (is_hex c) (is_hex d) y))
            (no-nibble s k _ (k + 3) j ed (and_right (is_hex c) (is_hex d) y))
            (no-nibble s k _ (k + 4) l ef (and_right (is_hex c && is_hex d) (is_hex f) x))
            (no-nibble s k _ (k + 5) o eg (and_right ((is_hex c && is_hex d) && is_hex f) (is_hex g) p)) in
            sym (rw (
              nibble-is s k _ (k + 2) i ec,
              nibble-is s k _ (k + 3) j ed,
              nibble-is s k _ (k + 4) l ef,
              nibble-is s k _ (k + 5) o eg,
              v,
            ) at w)

        pub steps-hex : t && u ≡ true → StepsBy s k 6
        unfolding unit_step
        steps-hex h = record {
          on = ap step_of (sym (hex-is (and_left t u h) (and_right t u h)));
          fits = omega arith;
          takes = omega arith;
        }

        pub hexed-some : {r : ℕ} → not t ≡ false → u ≡ true → r ≡ quad_of c d f g → HexedBy s k r
        hexed-some h n e = record { on = rw e (hex-is (not-false t h) n); fits = omega arith }

-- ---- A string goes on past such a character.
module _ {s : List ℕ} {k n : ℕ} (t : StepsBy s k n) where
  pub walked-steps : walked (length s) (unit_step s) (k + n) ≡ walked (length s) (unit_step s) k
  walked-steps = walked_more (length s) (unit_step s) (forth-unit s) k refl t.on
