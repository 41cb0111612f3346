-- The string that is written of a text holds that text: read again, it is the same octets (RFC 8259, sections 7 and 8).
use Rattle.std.specs.Prelude.{None, Option, Some}
use Prim.Native.Nat.{ℕ, zero, suc, ◌+◌, ◌-◌, ◌*◌, ◌/◌, ◌%◌, ◌≤◌, ◌<◌}
use mathlib.Core.Path.{◌≡◌, refl, sym, ◌∙◌, ap, ap₂}
use mathlib.Core.Bool.{Bool, true, false}
use mathlib.Core.List.{List, [], ◌∷◌, ◌++◌}
use native.Mathlib.Omega.{arith}
use native.Mathlib.Numerals.{add-one}
use lib.Dec.{eqb, leb, ltb}
use lib.ListN.{length, get_or, drop, drop_of_length-le, length-append}
use lib.Seq.{drop-cons}
use borrow.Author.Tests.{eqb-true, eqb-false, ltb-true, ltb-false, leb-true, leb-false, ne_eqb, lt-ltb, le-ltb}
use borrow.Author.Tests.{lt-leb, le-leb}
use Rattle.laws.specs.Pick.{pick}
use Rattle.json_tokens.specs.declared.Step.TheVariants.{More, End}
use Rattle.json_tokens.specs.Walk.{onward, walk, walked}
use Rattle.json_tokens.proofs.Ahead.{of-pick}
use Rattle.json_tokens.proofs.Turns.{walked_more, walked_end}
use Rattle.json_tokens.proofs.Stands.{Stands, stands-left, stands-right, stands_at_lem, stands-next}
use Rattle.json_strings.specs.declared.Unit.{Unit}
use Rattle.json_strings.specs.declared.Unit.TheVariants.{Code, Close, Ill}
use Rattle.json_strings.specs.Text.{escape_of, nibble_of, nibble_at, hex_at, escape_at, long_at, wide_at, unit_at, unit_step}
use Rattle.json_strings.specs.Text.{step_of, string_at, content_at}
use Rattle.json_strings.proofs.Ahead.{forth-unit}
use Rattle.json_strings.proofs.Content.{content-code, content-close}
use Rattle.json_strings.proofs.Sizes.{wide-unit}
use Rattle.json_text.specs.Octets.{utf8, octets, onto, text_of}
use Rattle.json_text.proofs.Again.{utf8-again}
use Rattle.json_text.proofs.Joins.{text-one, text-end}
use Rattle.json_text.proofs.Sizes.{utf8-one}
use Rattle.json_quote.specs.Quoted.{hex_of, escaped, quoted_rest, quoted}
use Rattle.json_quote.specs.Utf8.{char_step, reached, is_utf8}
use Rattle.json_quote.proofs.Quotes.{rest-turn, rest-turn-length, rest_end}
use Rattle.json_quote.proofs.Quotes.{escaped-quote, escaped-slash, escaped-low, escaped-plain}
use Rattle.json_text.proofs.Wide.{High, none, more, unit-there}
use Rattle.json_text.proofs.Joins.{no-high, no-low}

-- ---- One octet below 80, as it stands in the string.
nibble-hex : (n : ℕ) → n < 16 → nibble_of (hex_of n) ≡ n
unfolding nibble_of hex_of pick
nibble-hex n h = by (ltb n 10) refl
  where
    by : (t : Bool) → ltb n 10 ≡ t → nibble_of (pick t (n + 48) (n - 10 + 97)) ≡ n
    by true e =
        let g = ltb-true n 10 e in
        simp (le-ltb (n + 48) 48 (omega arith), le-leb (n + 48) 57 (omega arith)) (omega arith)
    by false e =
        let g = ltb-false n 10 e in
        simp (
          le-ltb (n - 10 + 97) 48 (omega arith),
          lt-leb (n - 10 + 97) 57 (omega arith),
          le-ltb (n - 10 + 97) 65 (omega arith),
          lt-leb (n - 10 + 97) 70 (omega arith),
          le-ltb (n - 10 + 97) 97 (omega arith),
          le-leb (n - 10 + 97) 102 (omega arith),
        ) (omega arith)

nought : nibble_of 48 ≡ 0
unfolding nibble_of pick
nought = refl

module _ {s : List ℕ} {q : ℕ} where
  unit-two : (b : ℕ) → escape_of b ≡ b → (b ≡ 0 → ⊥) → (b ≡ 117 → ⊥) → Stands s q (92 ∷ b ∷ [])
      → unit_at s q ≡ Code b (q + 2)
  unfolding unit_at escape_at pick
  unit-two b e z u t =
      let k : q + 1 + 1 ≡ q + 2 = omega arith in
      rw (stands_at_lem t, stands_at_lem (stands-next t)) (simp (ne_eqb b 117 u, e, ne_eqb b 0 z) (ap (Code b) k))

  unit-six : (h l : ℕ) → h < 16 → l < 16 → Stands s q (92 ∷ 117 ∷ 48 ∷ 48 ∷ hex_of h ∷ hex_of l ∷ [])
      → unit_at s q ≡ Code (16 * h + l) (q + 6)
  unfolding unit_at escape_at hex_at nibble_at pick
  unit-six h l x y t =
      let t2 = stands-next (stands-next t) in
      let t4 = stands-next (stands-next t2) in
      let at3 : get_or s (q + 1 + 1 + 1) 0 ≡ 48 = stands_at_lem (stands-next t2) in
      let at4 : get_or s (q + 1 + 1 + 2) 0 ≡ hex_of h = ap (λ i. get_or s i 0) (omega arith) ∙ stands_at_lem t4 in
      let at5 : get_or s (q + 1 + 1 + 3) 0 ≡ hex_of l = ap (λ i. get_or s i 0) (omega arith) ∙ stands_at_lem (stands-next t4) in
      let u = ne_eqb h 16 (λ z. omega arith) in
      let v = ne_eqb l 16 (λ z. omega arith) in
      let m : 4096 * 0 + 256 * 0 + 16 * h + l ≡ 16 * h + l = omega arith in
      let k : q + 1 + 1 + 4 ≡ q + 6 = omega arith in
      rw (
        stands_at_lem t,
        stands_at_lem (stands-next t),
        stands_at_lem t2,
        at3,
        at4,
        at5,
        nibble-hex h x,
        nibble-hex l y,
        nought,
        u,
        v,
      ) (ap₂ Code m k)

quote-is : escape_of 34 ≡ 34
unfolding escape_of pick
quote-is = refl

slash-is : escape_of 92 ≡ 92
unfolding escape_of pick
slash-is = refl

unit-one : (s : List ℕ) (q : ℕ) {b : ℕ} → get_or s q 0 ≡ b → (b ≡ 34 → ⊥) → (b ≡ 92 → ⊥) → 32 ≤ b → b < 128
    → unit_at s q ≡ Code b (q + 1)
unfolding unit_at pick
unit-one s q {b} e f g h k =
    rw e (simp (ne_eqb b 34 f, ne_eqb b 92 g, le-ltb b 32 h, lt-ltb b 128 k))

octet-unit : {s : List ℕ} {q : ℕ} (b : ℕ) → b < 128 → Stands s q (escaped b)
    → unit_at s q ≡ Code b (q + length (escaped b))
octet-unit {s} {q} b h t = by (eqb b 34) (eqb b 92) (ltb b 32) refl refl refl
  where
    plain-unit : (b ≡ 34 → ⊥) → (b ≡ 92 → ⊥) → 32 ≤ b → get_or s q 0 ≡ b → unit_at s q ≡ Code b (q + 1)
    plain-unit f g k e = unit-one s q e f g k h

    by : (u v w : Bool) → eqb b 34 ≡ u → eqb b 92 ≡ v → ltb b 32 ≡ w → unit_at s q ≡ Code b (q + length (escaped b))
    by true v w e f g =
        let z = escaped-quote b (eqb-true b 34 e) in
        let y = eqb-true b 34 e in
        rw z (rw y (unit-two 34 quote-is (λ i. omega arith) (λ i. omega arith) (rw z at t)))
    by false true w e f g =
        let z = escaped-slash b (eqb-false b 34 e) (eqb-true b 92 f) in
        let y = eqb-true b 92 f in
        rw z (rw y (unit-two 92 slash-is (λ i. omega arith) (λ i. omega arith) (rw z at t)))
    by false false true e f g =
        let i = ltb-true b 32 g in
        let z = escaped-low b (eqb-false b 34 e) (eqb-false b 92 f) i in
        let m : 16 * (b / 16) + b % 16 ≡ b = omega arith in
        rw z (unit-six (b / 16) (b % 16) (omega arith) (omega arith) (rw z at t) ∙ ap (λ n. Code n (q + 6)) m)
    by false false false e f g =
        let z = escaped-plain b (eqb-false b 34 e) (eqb-false b 92 f) (ltb-false b 32 g) in
        rw z (plain-unit (eqb-false b 34 e) (eqb-false b 92 f) (ltb-false b 32 g) (stands_at_lem (rw z at t)))

-- ---- Octets from 80 on stand for themselves.
high-rest : (l y : List ℕ) → High l → quoted_rest (l ++ y) ≡ l ++ quoted_rest y
unfolding quoted_rest
high-rest [] y none = refl
high-rest (b ∷ l) y (more h g) =
    rw (escaped-plain b (λ e. omega arith) (λ e. omega arith) (omega arith)) (ap (λ z. b ∷ z) (high-rest l y g))

unit-close : (s : List ℕ) (q : ℕ) → get_or s q 0 ≡ 34 → unit_at s q ≡ Close (q + 1)
unfolding unit_at pick
unit-close s q e = rw e refl

-- no longer character is the closing quote
abbrev NotClose : ℕ → Unit → Type 0
NotClose j u = u ≡ Close j → ⊥

code-open : {c k j : ℕ} → NotClose j (Code c k)
code-open e = let z : ◌≡◌ {A = ℕ} 0 1 = cc in omega arith

ill-open : {j : ℕ} → NotClose j Ill
ill-open e = let z : ◌≡◌ {A = ℕ} 0 1 = cc in omega arith

not-close : (x : List ℕ) (p : ℕ) {j : ℕ} → 0x80 ≤ get_or x p 0 → unit_at x p ≡ Close j → ⊥
unfolding wide_at long_at
not-close x p {j} h e =
    of-pick (NotClose j) _ ill-open (of-pick (NotClose j) _ (of-pick (NotClose j) _ code-open
    (of-pick (NotClose j) _ (of-pick (NotClose j) _ code-open (of-pick (NotClose j) _
    (of-pick (NotClose j) _ code-open ill-open) ill-open)) ill-open)) ill-open) (sym (wide-unit x p h) ∙ e)

-- ---- One turn: the end, an octet below 80, and a longer character. The rest is read as it should be.
end-case : (x s : List ℕ) (p q : ℕ) → length x ≤ p → Stands s q (quoted_rest (drop p x))
    → text_of (content_at s q) ≡ octets (drop p x)
end-case x s p q h t =
    let w = rw (rest_end x p h) at t in
    rw (content-close s q refl (close-unit w), drop_of_length-le x h) text-end
  where
    close-unit : {y : List ℕ} → Stands s q (34 ∷ y) → unit_at s q ≡ Close (q + 1)
    close-unit w = unit-close s q (stands_at_lem w)

module _ (x s : List ℕ) (p q : ℕ) (t : Stands s q (quoted_rest (drop p x))) where
  low-case : p < length x → get_or x p 0 < 128
      → ((r : ℕ) → Stands s r (quoted_rest (drop (p + 1) x)) → text_of (content_at s r) ≡ octets (drop (p + 1) x))
      → text_of (content_at s q) ≡ octets (drop p x)
  low-case h g go =
      let w = rw (rest-turn x p h) at t in
      let u = octet-unit (get_or x p 0) g (stands-left (escaped (get_or x p 0)) _ w) in
      let v = go (q + length (escaped (get_or x p 0))) (stands-right (escaped (get_or x p 0)) _ w) in
      let d : drop p x ≡ get_or x p 0 ∷ drop (p + 1) x = rw (add-one p) (drop-cons x p 0 h) in
      ap text_of (content-code s q refl u)
      ∙ text-one (get_or x p 0) _ (no-high _ (λ z. absurd (omega arith))) (no-low _ (λ z. absurd (omega arith)))
      ∙ ap₂ onto (utf8-one (get_or x p 0) g) v ∙ ap octets (sym d)

  wide-case : {c j : ℕ} → 0x80 ≤ get_or x p 0 → unit_at x p ≡ Code c j
      → ((r : ℕ) → Stands s r (quoted_rest (drop j x)) → text_of (content_at s r) ≡ octets (drop j x))
      → text_of (content_at s q) ≡ octets (drop p x)
  wide-case {c} {j} h e go =
      let w = unit-there x p h e in
      let k = w.letter in
      let z = ap quoted_rest w.there ∙ high-rest w.octs (drop j x) w.each
      ∙ ap (λ l. l ++ quoted_rest (drop j x)) (sym k.is) in
      let t2 = rw z at t in
      let u = utf8-again c k.long k.below k.scalar (stands-left (utf8 c) _ t2) in
      let v = go (q + length (utf8 c)) (stands-right (utf8 c) _ t2) in
      ap text_of (content-code s q refl u) ∙ text-one c _ (no-high c k.scalar) (no-low c k.scalar)
      ∙ ap (onto (utf8 c)) v
      ∙ ap octets (ap (λ l. l ++ drop j x) k.is ∙ sym w.there)

  -- and the string ends where what is left of it does
  abbrev Ends : ℕ → ℕ → Type 0
  Ends j r = walked (length s) (unit_step s) r ≡ Some (r + length (quoted_rest (drop j x)))

  turn-over : {b r : ℕ} → unit_at s q ≡ Code b r
      → walked (length s) (unit_step s) q ≡ walked (length s) (unit_step s) r
  unfolding unit_step
  turn-over u = sym (walked_more (length s) (unit_step s) (forth-unit s) q refl (ap step_of u))

  end-ends : length x ≤ p → Ends p q
  unfolding unit_step
  end-ends h =
      let w = rw (rest_end x p h) at t in
      sym (walked_end (length s) (unit_step s) q refl (ap step_of (unit-close s q (stands_at_lem w))))
      ∙ ap (λ n. Some (q + n)) (sym (ap length (rest_end x p h)))

  low-ends : p < length x → get_or x p 0 < 128
      → ((r : ℕ) → Stands s r (quoted_rest (drop (p + 1) x)) → Ends (p + 1) r) → Ends p q
  low-ends h g go =
      let w = rw (rest-turn x p h) at t in
      let u = octet-unit (get_or x p 0) g (stands-left (escaped (get_or x p 0)) _ w) in
      turn-over u ∙ go (q + length (escaped (get_or x p 0))) (stands-right (escaped (get_or x p 0)) _ w)
      ∙ ap Some (omega (arith, rest-turn-length x p h))

  wide-ends : {c j : ℕ} → 0x80 ≤ get_or x p 0 → unit_at x p ≡ Code c j
      → ((r : ℕ) → Stands s r (quoted_rest (drop j x)) → Ends j r) → Ends p q
  wide-ends {c} {j} h e go =
      let w = unit-there x p h e in
      let k = w.letter in
      let z = ap quoted_rest w.there ∙ high-rest w.octs (drop j x) w.each
      ∙ ap (λ l. l ++ quoted_rest (drop j x)) (sym k.is) in
      let t2 = rw z at t in
      let u = utf8-again c k.long k.below k.scalar (stands-left (utf8 c) _ t2) in
      turn-over u ∙ go (q + length (utf8 c)) (stands-right (utf8 c) _ t2)
      ∙ ap Some (omega (arith, ap length z, length-append (utf8 c) (quoted_rest (drop j x))))

-- ---- All turns.
bad : {A : Type 0} {e : ℕ} → None ≡ Some e → A
bad h = absurd (let z : ◌≡◌ {A = ℕ} 0 1 = cc in omega arith)

reads : (n : ℕ) (x s : List ℕ) (p q : ℕ) {e : ℕ} → walk n (char_step x) p ≡ Some e
    → Stands s q (quoted_rest (drop p x)) → text_of (content_at s q) ≡ octets (drop p x)
unfolding walk onward char_step pick unit_step
reads zero x s p q h t = bad h
reads (suc n) x s p q {e} h t =
    by (leb (length x) p) (ltb (get_or x p 0) 128) (unit_at x p) refl refl refl h (λ j r g k. reads n x s j r g k)
  where
    by : (a b : Bool) (u : Unit) → leb (length x) p ≡ a → ltb (get_or x p 0) 128 ≡ b → unit_at x p ≡ u
        → onward (pick a (End p) (pick b (More (p + 1)) (step_of u))) (walk n (char_step x)) ≡ Some e
        → ((j r : ℕ) → walk n (char_step x) j ≡ Some e → Stands s r (quoted_rest (drop j x))
        → text_of (content_at s r) ≡ octets (drop j x))
        → text_of (content_at s q) ≡ octets (drop p x)
    by true b u f g i z go = end-case x s p q (leb-true (length x) p f) t
    by false true u f g i z go =
        low-case x s p q t (leb-false (length x) p f) (ltb-true (get_or x p 0) 128 g) (λ r k. go (p + 1) r z k)
    by false false (Code c j) f g i z go = wide-case x s p q t (ltb-false (get_or x p 0) 128 g) i (λ r k. go j r z k)
    by false false (Close j) f g i z go = absurd (not-close x p (ltb-false (get_or x p 0) 128 g) i)
    by false false Ill f g i z go = bad z

-- the string of a text holds the text
pub quoted-holds : {s : List ℕ} {k : ℕ} (x : List ℕ) → is_utf8 x ≡ true → Stands s k (quoted x)
    → text_of (content_at s (k + 1)) ≡ octets x
unfolding is_utf8 quoted
quoted-holds {s} {k} x h t = by (walked (length x) (char_step x) 0) refl h
  where
    by : (r : Option ℕ) → walked (length x) (char_step x) 0 ≡ r → reached r ≡ true
        → text_of (content_at s (k + 1)) ≡ octets x
    by (Some e) f g = reads (suc (length x)) x s 0 (k + 1) f (stands-next t)
    by None f g = absurd (let z : false ≡ true = g in let w : ◌≡◌ {A = ℕ} 0 1 = cc in omega arith)

turn_is : (x : List ℕ) (p n : ℕ) {e : ℕ} → onward (char_step x p) (walk n (char_step x)) ≡ Some e
    → onward (pick (leb (length x) p) (End p) (pick (ltb (get_or x p 0) 128) (More (p + 1)) (step_of (unit_at x p))))
    (walk n (char_step x)) ≡ Some e
unfolding char_step unit_step
turn_is x p n g = g

ends : (n : ℕ) (x s : List ℕ) (p q : ℕ) {e : ℕ} → walk n (char_step x) p ≡ Some e → Stands s q (quoted_rest (drop p x))
    → walked (length s) (unit_step s) q ≡ Some (q + length (quoted_rest (drop p x)))
unfolding walk onward char_step pick
ends zero x s p q h t = bad h
ends (suc n) x s p q {e} h t =
    by (leb (length x) p) (ltb (get_or x p 0) 128) (unit_at x p) refl refl refl (step-as h) (λ j r g k. ends n x s j r g k)
  where
    step-as : onward (char_step x p) (walk n (char_step x)) ≡ Some e
        → onward (pick (leb (length x) p) (End p) (pick (ltb (get_or x p 0) 128) (More (p + 1)) (step_of (unit_at x p))))
        (walk n (char_step x)) ≡ Some e
    step-as g = turn_is x p n g

    by : (a b : Bool) (u : Unit) → leb (length x) p ≡ a → ltb (get_or x p 0) 128 ≡ b → unit_at x p ≡ u
        → onward (pick a (End p) (pick b (More (p + 1)) (step_of u))) (walk n (char_step x)) ≡ Some e
        → ((j r : ℕ) → walk n (char_step x) j ≡ Some e → Stands s r (quoted_rest (drop j x))
        → walked (length s) (unit_step s) r ≡ Some (r + length (quoted_rest (drop j x))))
        → walked (length s) (unit_step s) q ≡ Some (q + length (quoted_rest (drop p x)))
    by true b u f g i z go = end-ends x s p q t (leb-true (length x) p f)
    by false true u f g i z go =
        low-ends x s p q t (leb-false (length x) p f) (ltb-true (get_or x p 0) 128 g) (λ r k. go (p + 1) r z k)
    by false false (Code c j) f g i z go = wide-ends x s p q t (ltb-false (get_or x p 0) 128 g) i (λ r k. go j r z k)
    by false false (Close j) f g i z go = absurd (not-close x p (ltb-false (get_or x p 0) 128 g) i)
    by false false Ill f g i z go = bad z

-- and it is read as a string, to its end
pub quoted-reads : {s : List ℕ} {k : ℕ} (x : List ℕ) → is_utf8 x ≡ true → Stands s k (quoted x)
    → string_at s k ≡ Some (k + length (quoted x))
unfolding is_utf8 quoted string_at pick
quoted-reads {s} {k} x h t = by (walked (length x) (char_step x) 0) refl h
  where
    by : (r : Option ℕ) → walked (length x) (char_step x) 0 ≡ r → reached r ≡ true
        → pick (eqb (get_or s k 0) 34) (walked (length s) (unit_step s) (k + 1)) None
        ≡ Some (k + length (34 ∷ quoted_rest x))
    by (Some e) f g =
        rw (stands_at_lem t) (ends (suc (length x)) x s 0 (k + 1) f (stands-next t) ∙ ap Some (omega arith))
    by None f g = absurd (let z : false ≡ true = g in let w : ◌≡◌ {A = ℕ} 0 1 = cc in omega arith)
