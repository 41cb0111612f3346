-- Laws about strings without escapes: they are texts, and one of ASCII is its own octets.
use Rattle.std.specs.Prelude.{None, Option, Some}
use Prim.Native.Nat.{ℕ, zero, suc, ◌+◌, ◌-◌, ◌≤◌, ◌<◌}
use mathlib.Core.Path.{◌≡◌, refl, sym, ◌∙◌, ap}
use mathlib.Core.Bool.{Bool, true, false, not, ◌&&◌, true≢false}
use mathlib.Core.List.{List, [], ◌∷◌, ◌++◌}
use native.Mathlib.Numerals.{add-one}
use native.Mathlib.Omega.{arith}
use lib.Dec.{eqb, leb, ltb}
use lib.ListN.{length, get_or, take, drop}
use lib.Seq.{drop-cons}
use borrow.Author.Tests.{eqb-true, eqb-false, leb-true, leb-false, ltb-true, ltb-false, ne_eqb, lt-ltb, le-ltb}
use Rattle.laws.specs.Pick.{pick}
use Rattle.json_tokens.specs.Scan.{run, past_while}
use Rattle.json_tokens.proofs.Picks.{inside, over}
use Rattle.json_tokens.proofs.While.{while-more, while-stop, while-ahead}
use Rattle.json_strings.specs.declared.Unit.{Unit}
use Rattle.json_strings.specs.declared.Unit.TheVariants.{Code, Close, Ill}
use Rattle.json_strings.specs.Text.{unescaped, unit_at, content_at}
use Rattle.json_strings.proofs.Content.{content-code, content-close, content-ill, content-falls}
use Rattle.json_strings.proofs.Runs.{run_none, run_inside, unit-unescaped}
use Rattle.json_text.specs.Octets.{utf8, Text, octets, none, onto, text_of, size_of}
use Rattle.json_text.specs.Facts.{good, bare}
use Rattle.json_text.proofs.Fills.{put-good}
use Rattle.json_text.proofs.Joins.{text-one, text-end, no-high, no-low}
use Rattle.json_text.proofs.Sizes.{utf8-one}
use Rattle.json_text.proofs.Wide.{High, Stood, unit-there}
use Rattle.json_text.proofs.Wide.{none as no_more}
use Rattle.json_text.proofs.Wide.{more as one_more}

-- ---- Bytes that are bare.
bare-is : (b : ℕ) → (b ≡ 34 → ⊥) → (b ≡ 92 → ⊥) → bare b ≡ true
unfolding bare
bare-is b q h = rw (ne_eqb b 34 q, ne_eqb b 92 h) refl

run-high : (l y : List ℕ) → High l → run bare (l ++ y) ≡ length l + run bare y
unfolding pick
run-high [] y no_more = omega arith
run-high (b ∷ l) y (one_more h g) =
    rw (bare-is b (λ z. omega arith) (λ z. omega arith)) (omega (arith, run-high l y g))

while-wide : {s : List ℕ} {k c j : ℕ} → Stood s k c j → past_while bare s j ≡ past_while bare s k
unfolding past_while
while-wide {s} {k} {c} {j} t =
    omega (arith, t.ends, ap (run bare) t.there ∙ run-high t.octs (drop j s) t.each)

good-onto : (x : List ℕ) (t : Text) → good (onto x t) ≡ good t
good-onto x (octets y) = refl
good-onto x none = refl

-- ---- A string with no backslash before the first quote.
module _ (s : List ℕ) (k : ℕ) where
  quote-at : get_or s k 0 ≡ 34 → Close (k + 1) ≡ unit_at s k
  unfolding unit_at pick
  quote-at e = rw e refl

  low-at : (get_or s k 0 ≡ 34 → ⊥) → (get_or s k 0 ≡ 92 → ⊥) → get_or s k 0 < 32 → Ill ≡ unit_at s k
  unfolding unit_at pick
  low-at q h l = simp (ne_eqb (get_or s k 0) 34 q, ne_eqb (get_or s k 0) 92 h, lt-ltb (get_or s k 0) 32 l)

  char-at : (get_or s k 0 ≡ 34 → ⊥) → (get_or s k 0 ≡ 92 → ⊥) → 32 ≤ get_or s k 0 → get_or s k 0 < 128
      → Code (get_or s k 0) (k + 1) ≡ unit_at s k
  unfolding unit_at pick
  char-at q h l m =
      simp (
        ne_eqb (get_or s k 0) 34 q,
        ne_eqb (get_or s k 0) 92 h,
        le-ltb (get_or s k 0) 32 l,
        lt-ltb (get_or s k 0) 128 m,
      )

  slash-stops : get_or s k 0 ≡ 92 → get_or s (past_while bare s k) 0 ≡ 92
  unfolding bare
  slash-stops e =
      ap (λ n. get_or s n 0) (sym (while-stop bare s k (inside s refl e tt) (rw e refl))) ∙ e

module _ (s : List ℕ) where
  -- what holds from every later place on holds from here on
  from-here : (k : ℕ) → (get_or s (past_while bare s k) 0 ≡ 92 → ⊥)
      → ((j : ℕ) → length s - j < length s - k → (get_or s (past_while bare s j) 0 ≡ 92 → ⊥)
      → good (text_of (content_at s j)) ≡ true)
      → good (text_of (content_at s k)) ≡ true
  from-here k free rest = by (leb 0x80 (get_or s k 0)) refl
    where
      closed : {j : ℕ} → Close j ≡ unit_at s k → good (text_of (content_at s k)) ≡ true
      closed e = rw (content-close s k e refl) (rw text-end refl)

      ill : Ill ≡ unit_at s k → good (text_of (content_at s k)) ≡ true
      ill e = rw (content-ill s k e refl) (rw text-end refl)

      on : (c j : ℕ) → Code c j ≡ unit_at s k → (0xD800 ≤ c → 0xE000 ≤ c) → past_while bare s j ≡ past_while bare s k
          → good (text_of (content_at s k)) ≡ true
      on c j e scalar same =
          ap good (ap text_of (content-code s k e refl) ∙ text-one c (content_at s j) (no-high c scalar) (no-low c scalar))
          ∙ good-onto (utf8 c) (text_of (content_at s j))
          ∙ rest j (content-falls s k e refl) (λ z. free (ap (λ n. get_or s n 0) (sym same) ∙ z))

      wide : 0x80 ≤ get_or s k 0 → (u : Unit) → u ≡ unit_at s k → good (text_of (content_at s k)) ≡ true
      wide h (Code c j) e = let t = unit-there s k h (sym e) in on c j e t.letter.scalar (while-wide t)
      wide h (Close j) e = closed e
      wide h Ill e = ill e

      one : get_or s k 0 < 0x80 → (q h l : Bool) → eqb (get_or s k 0) 34 ≡ q → eqb (get_or s k 0) 92 ≡ h
          → ltb (get_or s k 0) 32 ≡ l → good (text_of (content_at s k)) ≡ true
      one m true h l i j n = closed (quote-at s k (eqb-true _ _ i))
      one m false true l i j n = absurd (free (slash-stops s k (eqb-true _ _ j)))
      one m false false true i j n = ill (low-at s k (eqb-false _ _ i) (eqb-false _ _ j) (ltb-true _ _ n))
      one m false false false i j n =
          let a = eqb-false (get_or s k 0) 34 i in
          let b = eqb-false (get_or s k 0) 92 j in
          let c = ltb-false (get_or s k 0) 32 n in
          on (get_or s k 0) (k + 1) (char-at s k a b c m) (λ z. absurd (omega arith))
          (while-more bare s k (over s refl (omega arith)) (bare-is (get_or s k 0) a b))

      by : (t : Bool) → leb 0x80 (get_or s k 0) ≡ t → good (text_of (content_at s k)) ≡ true
      by true e = wide (leb-true _ _ e) (unit_at s k) refl
      by false e = one (leb-false 0x80 (get_or s k 0) e) _ _ _ refl refl refl

  in-fuel : (n k : ℕ) → length s - k ≤ n → (get_or s (past_while bare s k) 0 ≡ 92 → ⊥) → good (text_of (content_at s k)) ≡ true
  in-fuel zero k h free = from-here k free (λ j f g. absurd (omega arith))
  in-fuel (suc n) k h free = from-here k free (λ j f g. in-fuel n j (omega arith) g)

-- so it is a text; r and b are what code has
pub bare-text : {r b : ℕ} (s : List ℕ) (k : ℕ) → r ≡ past_while bare s k → b ≡ get_or s r 0 → (b ≡ 92 → ⊥)
    → true ≡ good (text_of (content_at s k))
bare-text {r} {b} s k e f free =
    sym (in-fuel s (length s - k) k (omega arith) (λ z. free (f ∙ ap (λ n. get_or s n 0) e ∙ z)))

-- ---- By its size.
pub sized-text : {x : Option ℕ} {n : ℕ} (t : Text) → x ≡ size_of 0 t → x ≡ Some n → true ≡ good t
sized-text t e h = sym (put-good t (sym h ∙ e))

no_text : (t : Text) → None ≡ size_of 0 t → false ≡ good t
no_text (octets x) e = let z : ◌≡◌ {A = ℕ} 0 1 = cc in absurd (omega arith)
no_text none e = refl

pub unsized-text : {x : Option ℕ} (t : Text) → x ≡ size_of 0 t → x ≡ None → false ≡ good t
unsized-text t e h = no_text t (sym h ∙ e)

pub ruleset unicode = (bare-text, sized-text, unsized-text)

-- ---- A string of ASCII without escapes is the text that stands there.
and_right : (a b : Bool) → a && b ≡ true → b ≡ true
and_right true b e = e
and_right false b e = absurd (true≢false (sym e))

ascii-below : (c : ℕ) → unescaped c ≡ true → c < 128
unfolding unescaped
ascii-below c e = ltb-true c 128 (and_right ((not (eqb c 34) && not (eqb c 92)) && not (ltb c 32)) (ltb c 128) e)

module _ (s : List ℕ) where
  plain_here : (k : ℕ) → (k < length s → get_or s (past_while unescaped s (k + 1)) 0 ≡ 34
      → text_of (content_at s (k + 1)) ≡ octets (take (past_while unescaped s (k + 1) - (k + 1)) (drop (k + 1) s)))
      → get_or s (past_while unescaped s k) 0 ≡ 34
      → text_of (content_at s k) ≡ octets (take (past_while unescaped s k - k) (drop k s))
  plain_here k rest q = by (unescaped (get_or s k 0)) refl
    where
      by : (t : Bool) → unescaped (get_or s k 0) ≡ t
          → text_of (content_at s k) ≡ octets (take (past_while unescaped s k - k) (drop k s))
      by true u =
          let i = run_inside s k refl refl u in
          let w = while-more unescaped s k i u in
          let m = ascii-below (get_or s k 0) u in
          let z : past_while unescaped s k - k ≡ suc (past_while unescaped s (k + 1) - (k + 1)) =
          omega (arith, w, while-ahead unescaped s (k + 1)) in
          let r : onto (utf8 (get_or s k 0)) (text_of (content_at s (k + 1)))
          ≡ octets (get_or s k 0 ∷ take (past_while unescaped s (k + 1) - (k + 1)) (drop (k + 1) s)) =
          rw (utf8-one (get_or s k 0) m, rest i (ap (λ n. get_or s n 0) w ∙ q)) refl in
          let x : octets (get_or s k 0 ∷ take (past_while unescaped s (k + 1) - (k + 1)) (drop (k + 1) s))
          ≡ octets (take (past_while unescaped s k - k) (drop k s)) =
          rw (z, drop-cons s k 0 i, sym (add-one k)) refl in
          ap text_of (content-code s k (sym (unit-unescaped s k u)) refl)
          ∙ text-one (get_or s k 0) (content_at s (k + 1)) (no-high _ (λ y. absurd (omega arith)))
          (no-low _ (λ y. absurd (omega arith)))
          ∙ r ∙ x
      by false u =
          let e = run_none s k refl refl u in
          let z : past_while unescaped s k - k ≡ 0 = omega (arith, e) in
          let x : octets [] ≡ octets (take (past_while unescaped s k - k) (drop k s)) = rw z refl in
          ap text_of (content-close s k (quote-at s k (ap (λ n. get_or s n 0) e ∙ q)) refl) ∙ text-end ∙ x

  plain-fuel : (n k : ℕ) → length s - k ≤ n → get_or s (past_while unescaped s k) 0 ≡ 34
      → text_of (content_at s k) ≡ octets (take (past_while unescaped s k - k) (drop k s))
  plain-fuel zero k h q = plain_here k (λ i. absurd (omega arith)) q
  plain-fuel (suc n) k h q = plain_here k (λ i. plain-fuel n (k + 1) (omega arith)) q

pub plain-text : {r b : ℕ} (s : List ℕ) (k : ℕ) → r ≡ past_while unescaped s k → b ≡ get_or s r 0 → b ≡ 34
    → text_of (content_at s k) ≡ octets (take (r - k) (drop k s))
plain-text s k e f h =
    rw e (plain-fuel s (length s - k) k (omega arith) (ap (λ n. get_or s n 0) (sym e) ∙ sym f ∙ h))
