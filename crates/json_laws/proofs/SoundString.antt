-- What the reader of a string passes over derives from `string`.
use Prim.Native.Nat.{ℕ, suc, ◌+◌, ◌*◌, ◌≤◌, ◌<◌}
use mathlib.Core.Path.{◌≡◌, refl}
use mathlib.Core.Bool.{Bool, true, false}
use mathlib.Core.List.{List, [], ◌∷◌, ◌++◌, append_assoc}
use native.Mathlib.Omega.{arith, by_contra}
use borrow.Author.Tests.{eqb-true, eqb-false, leb-true, ltb-true, ltb-false}
use lib.Dec.{eqb, leb, ltb}
use lib.ListN.{length, get_or}
use Rattle.laws.specs.Pick.{pick}
use Rattle.json_strings.specs.declared.Unit.{Unit}
use Rattle.json_strings.specs.declared.Unit.TheVariants.{Code, Ill}
use Rattle.json_strings.specs.Text.{escape_of, nibble_of, nibble_at, hex_at, escape_at, least_second, most_second, second_at, tail_at}
use Rattle.json_strings.specs.Text.{long_at, wide_at, unit_at, step_of, unit_step, string_at}
use Rattle.json_laws.specs.Rules.{Rule, octet, range, within, ◌·◌, join, ◌∣◌, left, right, *◌, none, more}
use Rattle.json_laws.specs.Abnf
use Rattle.json_laws.proofs.Spans.{of-pick-cases, both-parts, Spans, Sound, bad, Turns, further, ending, wrong}
use Rattle.json_laws.proofs.Spans.{octet-is, spans-byte, spans-octet, spans-range, spans-join, spans-by}
use Rattle.json_laws.proofs.Spans.{sound-join, sound-walk}

-- a character at k
data Codes (P : Rule) (s : List ℕ) (k : ℕ) : Unit → Type 0 where
  code : {c j : ℕ} → Spans P s k j → Codes P s k (Code c j)
  ill : Codes P s k Ill

codes-by : {P Q : Rule} {s : List ℕ} {k : ℕ} {u : Unit} → ((x : List ℕ) → P x → Q x) → Codes P s k u → Codes Q s k u
codes-by c (code p) = code (spans-by c p)
codes-by c ill = ill

codes-join : {P Q : Rule} {s : List ℕ} {k e : ℕ} {u : Unit} → Spans P s k e → Codes Q s e u → Codes (P · Q) s k u
codes-join p (code q) = code (spans-join p q)
codes-join p ill = ill

codes-turn : {P Q : Rule} {s : List ℕ} {k : ℕ} {u : Unit} → Codes P s k u → Turns P Q s k (step_of u)
codes-turn (code p) = further p
codes-turn ill = wrong

-- ---- Escapes.
abbrev Four : Rule
Four = Abnf.HEXDIG · Abnf.HEXDIG · Abnf.HEXDIG · Abnf.HEXDIG

-- what follows a backslash, but for u
abbrev Escaped : Rule
Escaped =
    octet 0x22 ∣ octet 0x5C ∣ octet 0x2F ∣ octet 0x62 ∣ octet 0x66 ∣ octet 0x6E ∣ octet 0x72 ∣ octet 0x74 ∣
    (octet 0x75 · Four)

-- A, where the number n is not m
abbrev Given : ℕ → Type 0 → ℕ → Type 0
Given m A n = (n ≡ m → ⊥) → A

is-escape : (b : ℕ) → (escape_of b ≡ 0 → ⊥) → Escaped (b ∷ [])
unfolding escape_of
is-escape b =
    of-pick-cases (Given 0 (Escaped (b ∷ []))) (eqb b 0x22) (λ t h. left (octet-is (eqb-true _ _ t)))
    (λ t. of-pick-cases (Given 0 (Escaped (b ∷ []))) (eqb b 0x5C) (λ t h. right (left (octet-is (eqb-true _ _ t))))
    (λ t. of-pick-cases (Given 0 (Escaped (b ∷ []))) (eqb b 0x2F)
    (λ t h. right (right (left (octet-is (eqb-true _ _ t)))))
    (λ t. of-pick-cases (Given 0 (Escaped (b ∷ []))) (eqb b 0x62)
    (λ t h. right (right (right (left (octet-is (eqb-true _ _ t))))))
    (λ t. of-pick-cases (Given 0 (Escaped (b ∷ []))) (eqb b 0x66)
    (λ t h. right (right (right (right (left (octet-is (eqb-true _ _ t)))))))
    (λ t. of-pick-cases (Given 0 (Escaped (b ∷ []))) (eqb b 0x6E)
    (λ t h. right (right (right (right (right (left (octet-is (eqb-true _ _ t))))))))
    (λ t. of-pick-cases (Given 0 (Escaped (b ∷ []))) (eqb b 0x72)
    (λ t h. right (right (right (right (right (right (left (octet-is (eqb-true _ _ t)))))))))
    (λ t. of-pick-cases (Given 0 (Escaped (b ∷ []))) (eqb b 0x74)
    (λ t h. right (right (right (right (right (right (right (left (octet-is (eqb-true _ _ t))))))))))
    (λ t h. absurd (h refl)))))))))

escape-none : escape_of 0 ≡ 0
unfolding escape_of pick
escape-none = refl

is-hex : (b : ℕ) → (nibble_of b ≡ 16 → ⊥) → Abnf.HEXDIG (b ∷ [])
unfolding nibble_of Abnf.HEXDIG Abnf.DIGIT
is-hex b =
    of-pick-cases (Given 16 (Abnf.HEXDIG (b ∷ []))) (ltb b 0x30) (λ t h. absurd (h refl))
    (λ t. of-pick-cases (Given 16 (Abnf.HEXDIG (b ∷ []))) (leb b 0x39)
    (λ u h. left (within (ltb-false _ _ t) (leb-true _ _ u)))
    (λ t. of-pick-cases (Given 16 (Abnf.HEXDIG (b ∷ []))) (ltb b 0x41) (λ u h. absurd (h refl))
    (λ t. of-pick-cases (Given 16 (Abnf.HEXDIG (b ∷ []))) (leb b 0x46)
    (λ u h. right (left (within (ltb-false _ _ t) (leb-true _ _ u))))
    (λ t. of-pick-cases (Given 16 (Abnf.HEXDIG (b ∷ []))) (ltb b 0x61) (λ u h. absurd (h refl))
    (λ t. of-pick-cases (Given 16 (Abnf.HEXDIG (b ∷ []))) (leb b 0x66)
    (λ u h. right (right (within (ltb-false _ _ t) (leb-true _ _ u))))
    (λ t h. absurd (h refl)))))))

hex-over : (b : ℕ) → Abnf.HEXDIG (b ∷ []) → 0 < b
unfolding Abnf.HEXDIG Abnf.DIGIT
hex-over b (left (within l h)) = omega arith
hex-over b (right (left (within l h))) = omega arith
hex-over b (right (right (within l h))) = omega arith

-- the second byte of a character, by the first
least : (b : ℕ) → 128 ≤ least_second b
unfolding least_second
least b =
    of-pick-cases (λ n. 128 ≤ n) (eqb b 224) (λ t. omega arith)
    (λ t. of-pick-cases (λ n. 128 ≤ n) (eqb b 240) (λ u. omega arith) (λ u. omega arith))

most : (b : ℕ) → most_second b ≤ 191
unfolding most_second
most b =
    of-pick-cases (λ n. n ≤ 191) (eqb b 237) (λ t. omega arith)
    (λ t. of-pick-cases (λ n. n ≤ 191) (eqb b 244) (λ u. omega arith) (λ u. omega arith))

least-e0 : (b : ℕ) → b ≡ 224 → least_second b ≡ 160
unfolding least_second pick
least-e0 b e = rw e refl

least-f0 : (b : ℕ) → b ≡ 240 → least_second b ≡ 144
unfolding least_second pick
least-f0 b e = rw e refl

most-ed : (b : ℕ) → b ≡ 237 → most_second b ≡ 159
unfolding most_second pick
most-ed b e = rw e refl

most-f4 : (b : ℕ) → b ≡ 244 → most_second b ≡ 143
unfolding most_second pick
most-f4 b e = rw e refl

-- one character before others
chars-front : {P Q : Rule} (x y : List ℕ) → P x → (* P · Q) y → (* P · Q) (x ++ y)
chars-front x y p (join {x = a} {y = b} m q) = rw (← append_assoc x a b) (join (more p m) q)

module _ (s : List ℕ) where
  spans-hex : (k : ℕ) → eqb (nibble_at s k) 16 ≡ false → Spans Abnf.HEXDIG s k (k + 1)
  unfolding nibble_at
  spans-hex k t = let h = is-hex (get_or s k 0) (eqb-false _ _ t) in spans-byte k (hex-over _ h) h

  codes-hex : (k : ℕ) → Codes Four s k (hex_at s k)
  unfolding hex_at
  codes-hex k =
      of-pick-cases (Codes Four s k) _ (λ t. ill) (λ t. of-pick-cases (Codes Four s k) _ (λ u. ill)
      (λ u. of-pick-cases (Codes Four s k) _ (λ v. ill)
      (λ v. of-pick-cases (Codes Four s k) _ (λ w. ill) (λ w. code (four t u v w)))))
    where
      four : eqb (nibble_at s k) 16 ≡ false → eqb (nibble_at s (k + 1)) 16 ≡ false → eqb (nibble_at s (k + 2)) 16 ≡ false
          → eqb (nibble_at s (k + 3)) 16 ≡ false → Spans Four s k (k + 4)
      four t u v w =
          let a : k + 1 + 1 ≡ k + 2 = omega arith in
          let b : k + 2 + 1 ≡ k + 3 = omega arith in
          let c : k + 3 + 1 ≡ k + 4 = omega arith in
          spans-join (spans-hex k t) (spans-join (rw a at (spans-hex (k + 1) u))
          (spans-join (rw b at (spans-hex (k + 2) v)) (rw c at (spans-hex (k + 3) w))))

  codes-escape : (k : ℕ) → Codes Escaped s k (escape_at s k)
  unfolding escape_at
  codes-escape k =
      of-pick-cases (Codes Escaped s k) _
      (λ t. codes-by (λ x p. right (right (right (right (right (right (right (right p))))))))
      (codes-join (spans-octet k 0x75 (omega arith) (eqb-true _ _ t)) (codes-hex (k + 1))))
      (λ t. of-pick-cases (Codes Escaped s k) _ (λ u. ill)
      (λ u. code (spans-byte k (over (eqb-false _ _ u)) (is-escape _ (eqb-false _ _ u)))))
    where
      over : (escape_of (get_or s k 0) ≡ 0 → ⊥) → 0 < get_or s k 0
      over h = by_contra 1 (get_or s k 0) (λ o. h (zero (omega arith)))
        where
          zero : get_or s k 0 ≡ 0 → escape_of (get_or s k 0) ≡ 0
          zero e = rw e escape-none

  -- ---- UTF-8.
  spans-tail : (k : ℕ) → tail_at s k ≡ true → Spans Abnf.UTF8-tail s k (k + 1)
  unfolding tail_at Abnf.UTF8-tail
  spans-tail k t =
      let p = both-parts _ _ t in spans-range k 0x80 0xBF (omega arith) (leb-true _ _ p.0) (leb-true _ _ p.1)

  tail-next : (j k : ℕ) → j + 1 ≡ k → tail_at s j ≡ true → Spans Abnf.UTF8-tail s j k
  tail-next j k e t = rw e at (spans-tail j t)

  -- the second byte, in a range
  second : (k low high : ℕ) → 0 < low → low ≤ get_or s (k + 1) 0 → get_or s (k + 1) 0 ≤ high
      → Spans (range low high) s (k + 1) (k + 2)
  second k low high z l h =
      let e : k + 1 + 1 ≡ k + 2 = omega arith in rw e at (spans-range {s = s} (k + 1) low high z l h)

  module _ (k : ℕ) (low : least_second (get_or s k 0) ≤ get_or s (k + 1) 0)
      (high : get_or s (k + 1) 0 ≤ most_second (get_or s k 0)) where
    spans-2 : 194 ≤ get_or s k 0 → get_or s k 0 < 224 → Spans Abnf.UTF8-2 s k (k + 2)
    unfolding Abnf.UTF8-2 Abnf.UTF8-tail
    spans-2 l h =
        spans-join (spans-range k _ _ (omega arith) (omega arith) (omega arith))
        (second k _ _ (omega arith) (omega (arith, least (get_or s k 0))) (omega (arith, most (get_or s k 0))))

    spans-3 : 224 ≤ get_or s k 0 → get_or s k 0 < 240 → tail_at s (k + 2) ≡ true → Spans Abnf.UTF8-3 s k (k + 3)
    unfolding Abnf.UTF8-3 Abnf.UTF8-tail
    spans-3 l h t = by (eqb (get_or s k 0) 224) (eqb (get_or s k 0) 237) (ltb (get_or s k 0) 237) refl refl refl
      where
        last : Spans Abnf.UTF8-tail s (k + 2) (k + 3)
        last = tail-next (k + 2) (k + 3) (omega arith) t

        any : Spans (range 0x80 0xBF) s (k + 1) (k + 2)
        any = second k _ _ (omega arith) (omega (arith, least (get_or s k 0))) (omega (arith, most (get_or s k 0)))

        by : (p q r : Bool) → eqb (get_or s k 0) 224 ≡ p → eqb (get_or s k 0) 237 ≡ q → ltb (get_or s k 0) 237 ≡ r
            → Spans Abnf.UTF8-3 s k (k + 3)
        by true q r e f g =
            spans-by (λ x. left) (spans-join (spans-octet k 0xE0 (omega arith) (eqb-true _ _ e))
            (spans-join (second k _ _ (omega arith)
            (omega (arith, least-e0 (get_or s k 0) (eqb-true (get_or s k 0) 224 e)))
            (omega (arith, most (get_or s k 0)))) last))
        by false true r e f g =
            spans-by (λ x p. right (right (left p))) (spans-join (spans-octet k 0xED (omega arith) (eqb-true _ _ f))
            (spans-join (second k _ _ (omega arith) (omega (arith, least (get_or s k 0)))
            (omega (arith, most-ed (get_or s k 0) (eqb-true (get_or s k 0) 237 f)))) last))
        by false false true e f g =
            let n : get_or s k 0 ≡ 224 → ⊥ = eqb-false _ _ e in
            spans-by (λ x p. right (left p)) (spans-join
            (spans-range k _ _ (omega arith) (omega arith) (omega (arith, ltb-true (get_or s k 0) 237 g)))
            (spans-join any last))
        by false false false e f g =
            let n : get_or s k 0 ≡ 237 → ⊥ = eqb-false _ _ f in
            spans-by (λ x p. right (right (right p)))
            (spans-join (spans-range k _ _ (omega arith) (omega (arith, ltb-false (get_or s k 0) 237 g)) (omega arith))
            (spans-join any last))

    spans-4 : 240 ≤ get_or s k 0 → get_or s k 0 < 245 → tail_at s (k + 2) ≡ true → tail_at s (k + 3) ≡ true
        → Spans Abnf.UTF8-4 s k (k + 4)
    unfolding Abnf.UTF8-4 Abnf.UTF8-tail
    spans-4 l h t u = by (eqb (get_or s k 0) 240) (eqb (get_or s k 0) 244) refl refl
      where
        last : Spans (Abnf.UTF8-tail · Abnf.UTF8-tail) s (k + 2) (k + 4)
        last = spans-join (tail-next (k + 2) (k + 3) (omega arith) t) (tail-next (k + 3) (k + 4) (omega arith) u)

        by : (p q : Bool) → eqb (get_or s k 0) 240 ≡ p → eqb (get_or s k 0) 244 ≡ q → Spans Abnf.UTF8-4 s k (k + 4)
        by true q e f =
            spans-by (λ x. left) (spans-join (spans-octet k 0xF0 (omega arith) (eqb-true _ _ e))
            (spans-join (second k _ _ (omega arith)
            (omega (arith, least-f0 (get_or s k 0) (eqb-true (get_or s k 0) 240 e)))
            (omega (arith, most (get_or s k 0)))) last))
        by false true e f =
            spans-by (λ x p. right (right p)) (spans-join (spans-octet k 0xF4 (omega arith) (eqb-true _ _ f))
            (spans-join (second k _ _ (omega arith) (omega (arith, least (get_or s k 0)))
            (omega (arith, most-f4 (get_or s k 0) (eqb-true (get_or s k 0) 244 f)))) last))
        by false false e f =
            let n : get_or s k 0 ≡ 240 → ⊥ = eqb-false _ _ e in
            let m : get_or s k 0 ≡ 244 → ⊥ = eqb-false _ _ f in
            spans-by (λ x p. right (left p)) (spans-join (spans-range k _ _ (omega arith) (omega arith) (omega arith))
            (spans-join (second k _ _ (omega arith) (omega (arith, least (get_or s k 0)))
            (omega (arith, most (get_or s k 0)))) last))

  codes-long : (k : ℕ) → 224 ≤ get_or s k 0 → second_at s k ≡ true → Codes Abnf.unescaped s k (long_at s k)
  unfolding long_at second_at Abnf.unescaped
  codes-long k l z =
      let p = both-parts _ _ z in
      let low = leb-true _ _ p.0 in
      let high = leb-true _ _ p.1 in
      of-pick-cases (Codes Abnf.unescaped s k) _
      (λ t. of-pick-cases (Codes Abnf.unescaped s k) _
      (λ u. code (spans-by (λ x q. right (right (right (right (left q))))) (spans-3 k low high l (ltb-true _ _ u) t)))
      (λ u. of-pick-cases (Codes Abnf.unescaped s k) _
      (λ v. of-pick-cases (Codes Abnf.unescaped s k) _
      (λ w. code (spans-by (λ x q. right (right (right (right (right q)))))
      (spans-4 k low high (ltb-false _ _ u) (ltb-true _ _ w) t v)))
      (λ w. ill)) (λ v. ill))) (λ t. ill)

  codes-wide : (k : ℕ) → Codes Abnf.unescaped s k (wide_at s k)
  unfolding wide_at second_at Abnf.unescaped
  codes-wide k =
      of-pick-cases (Codes Abnf.unescaped s k) _ (λ t. ill)
      (λ t. of-pick-cases (Codes Abnf.unescaped s k) _
      (λ u. of-pick-cases (Codes Abnf.unescaped s k) _
      (λ v. let p = both-parts _ _ u in code (spans-by (λ x q. right (right (right (left q))))
      (spans-2 k (leb-true _ _ p.0) (leb-true _ _ p.1) (ltb-false _ _ t) (ltb-true _ _ v))))
      (λ v. codes-long k (ltb-false _ _ v) u)) (λ u. ill))

  -- ---- Characters and strings.
  turns-unit : (k : ℕ) → Turns Abnf.char Abnf.quotation-mark s k (unit_step s k)
  unfolding unit_step unit_at Abnf.char Abnf.escape Abnf.quotation-mark Abnf.unescaped
  turns-unit k =
      of-pick-cases (λ u. Turns Abnf.char Abnf.quotation-mark s k (step_of u)) _
      (λ t. ending (spans-octet k 0x22 (omega arith) (eqb-true _ _ t)))
      (λ t. of-pick-cases (λ u. Turns Abnf.char Abnf.quotation-mark s k (step_of u)) _
      (λ u. codes-turn (codes-by (λ x. right) (codes-join (spans-octet k 0x5C (omega arith) (eqb-true _ _ u))
      (codes-escape (k + 1)))))
      (λ u. of-pick-cases (λ u. Turns Abnf.char Abnf.quotation-mark s k (step_of u)) _ (λ v. wrong)
      (λ v. of-pick-cases (λ u. Turns Abnf.char Abnf.quotation-mark s k (step_of u)) _
      (λ w. further (spans-by (λ x. left) (plain (eqb-false _ _ t) (eqb-false _ _ u) (ltb-false _ _ v)
      (ltb-true _ _ w))))
      (λ w. codes-turn (codes-by (λ x. left) (codes-wide k))))))
    where
      plain : (get_or s k 0 ≡ 34 → ⊥) → (get_or s k 0 ≡ 92 → ⊥) → 32 ≤ get_or s k 0 → get_or s k 0 < 128
          → Spans Abnf.unescaped s k (k + 1)
      plain n m l h = by (ltb (get_or s k 0) 34) (ltb (get_or s k 0) 92) refl refl
        where
          by : (p q : Bool) → ltb (get_or s k 0) 34 ≡ p → ltb (get_or s k 0) 92 ≡ q → Spans Abnf.unescaped s k (k + 1)
          by true q e f =
              spans-by (λ x. left) (spans-range k _ _ (omega arith) (omega arith)
              (omega (arith, ltb-true (get_or s k 0) 34 e)))
          by false true e f =
              spans-by (λ x p. right (left p)) (spans-range k _ _ (omega arith)
              (omega (arith, ltb-false (get_or s k 0) 34 e)) (omega (arith, ltb-true (get_or s k 0) 92 f)))
          by false false e f =
              spans-by (λ x p. right (right (left p)))
              (spans-range k _ _ (omega arith) (omega (arith, ltb-false (get_or s k 0) 92 f)) (omega arith))

  pub sound-string : (k : ℕ) → Sound Abnf.string s k (string_at s k)
  unfolding string_at Abnf.string Abnf.quotation-mark
  sound-string k =
      of-pick-cases (Sound Abnf.string s k) _
      (λ t. sound-join (spans-octet k 0x22 (omega arith) (eqb-true _ _ t))
      (sound-walk chars-front (λ x q. join none q) (unit_step s) turns-unit (suc (length s)) (k + 1)))
      (λ t. bad)
