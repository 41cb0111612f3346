-- Laws of the string of a text, for loops over its octets.
use Rattle.std.specs.Prelude.{Option}
use Prim.Native.Nat.{ℕ, ◌+◌, ◌/◌, ◌%◌, ◌≤◌, ◌<◌}
use mathlib.Core.Path.{◌≡◌, refl, sym, ◌∙◌, ap}
use mathlib.Core.List.{List, [], ◌∷◌, ◌++◌}
use native.Mathlib.Omega.{arith}
use native.Mathlib.Numerals.{add-one}
use lib.ListN.{length, get_or, drop, drop_of_length-le, length-append}
use lib.Seq.{drop-cons}
use lib.Dec.{eqb, ltb}
use mathlib.Core.Bool.{Bool, true, false}
use Rattle.laws.specs.Ascii.{ascii}
use borrow.Author.Tests.{eq-eqb, ne_eqb, lt-ltb, le-ltb}
use Rattle.laws.specs.Pasted.{pasted}
use Rattle.laws.specs.Pick.{pick, either}
use Rattle.laws.specs.Written.{Puts}
use Rattle.laws.proofs.Written.{puts_one, puts-more, puts-length}
use Rattle.json_quote.specs.Quoted.{hex_of, escaped, quoted_rest, quoted}
use Rattle.json_quote.specs.Room.{spent}
use Rattle.json_quote.proofs.Putting.{Putting, putting-first, putting-fit, putting-next, putting-plain}
use Rattle.json_quote.proofs.Putting.{putting-last}
use Rattle.json_quote.proofs.Rooms.{spent-sum}

pub quoted-is : (x : List ℕ) → quoted x ≡ (34 ∷ []) ++ quoted_rest x
unfolding quoted
quoted-is x = refl

pub rest-turn : (x : List ℕ) (i : ℕ) → i < length x
    → quoted_rest (drop i x) ≡ escaped (get_or x i 0) ++ quoted_rest (drop (i + 1) x)
unfolding quoted_rest
rest-turn x i h = rw (add-one i, drop-cons x i 0 h) refl

pub rest_end : (x : List ℕ) (i : ℕ) → length x ≤ i → quoted_rest (drop i x) ≡ (34 ∷ []) ++ []
unfolding quoted_rest
rest_end x i h = rw (drop_of_length-le x h) refl

pub rest-turn-length : (x : List ℕ) (i : ℕ) → i < length x
    → length (quoted_rest (drop i x)) ≡ length (escaped (get_or x i 0)) + length (quoted_rest (drop (i + 1) x))
rest-turn-length x i h = ap length (rest-turn x i h) ∙ length-append (escaped (get_or x i 0)) (quoted_rest (drop (i + 1)
    x))

-- ---- One octet, by the branches of code.
module _ (b : ℕ) where
  pub escaped-quote : b ≡ 34 → escaped b ≡ 92 ∷ 34 ∷ []
  unfolding escaped pick
  escaped-quote e = simp (eq-eqb b 34 e)

  module _ (q : b ≡ 34 → ⊥) where
    pub escaped-slash : b ≡ 92 → escaped b ≡ 92 ∷ 92 ∷ []
    unfolding escaped pick
    escaped-slash e = simp (ne_eqb b 34 q, eq-eqb b 92 e)

    module _ (s : b ≡ 92 → ⊥) where
      pub escaped-low : b < 32 → escaped b ≡ 92 ∷ 117 ∷ 48 ∷ 48 ∷ hex_of (b / 16) ∷ hex_of (b % 16) ∷ []
      unfolding escaped pick
      escaped-low h = simp (ne_eqb b 34 q, ne_eqb b 92 s, lt-ltb b 32 h)

      pub escaped-plain : 32 ≤ b → escaped b ≡ b ∷ []
      unfolding escaped pick
      escaped-plain h = simp (ne_eqb b 34 q, ne_eqb b 92 s, le-ltb b 32 h)

-- how many bytes that is
pub width-of : (b : ℕ) → pick (either (eqb b 34) (eqb b 92)) 2 (pick (ltb b 32) 6 1) ≡ length (escaped b)
unfolding escaped pick either
width-of b = by (eqb b 34) (eqb b 92) (ltb b 32)
  where
    by : (p q r : Bool) → pick (either p q) 2 (pick r 6 1)
        ≡ length (pick p (ascii "\\\"") (pick q (ascii "\\\\") (pick r (ascii "\\u00" ++ (hex_of (b / 16) ∷ hex_of (b % 16) ∷ [])) (b ∷ []))))
    by true q r = refl
    by false true r = refl
    by false false true = refl
    by false false false = refl

-- ---- Room, by the turns of code.
module _ (x : List ℕ) (i : ℕ) (a : Option ℕ) {b : Option ℕ} where
  pub room-turn : {n : ℕ} → i < length x → n ≡ length (escaped (get_or x i 0)) → b ≡ spent a n
      → spent b (length (quoted_rest (drop (i + 1) x))) ≡ spent a (length (quoted_rest (drop i x)))
  room-turn {n} h e f =
      ap (λ r. spent r (length (quoted_rest (drop (i + 1) x)))) f ∙ spent-sum a n _
      ∙ ap (spent a) (omega (arith, rest-turn-length x i h))

  pub room-last : {o : Option ℕ} (w : Option ℕ) → length x ≤ i → b ≡ spent a 1
      → spent a (length (quoted_rest (drop i x))) ≡ spent o (length (quoted_rest x)) → o ≡ spent w 1
      → b ≡ spent w (length (quoted x))
  unfolding quoted
  room-last {o} w h e f g =
      e ∙ ap (λ n. spent a n) (sym (ap length (rest_end x i h))) ∙ f
      ∙ ap (λ r. spent r (length (quoted_rest x))) g ∙ spent-sum w 1 (length (quoted_rest x))
      ∙ ap (spent w) (omega arith)

-- ---- An octet that is put.
module _ {E o d : List ℕ} {at k : ℕ} (x : List ℕ) (i : ℕ) (f : Putting E (quoted_rest (drop i x)) o at d k)
    (h : i < length x) where
  pub octet-room : k + length (escaped (get_or x i 0)) ≤ length d
  octet-room = putting-fit f (escaped (get_or x i 0)) (quoted_rest (drop (i + 1) x)) (rest-turn x i h)

  pub octet-next : {t : List ℕ} {j : ℕ} → Puts d k (escaped (get_or x i 0)) t j
      → Putting E (quoted_rest (drop (i + 1) x)) o at t j
  octet-next p = putting-next f (escaped (get_or x i 0)) (quoted_rest (drop (i + 1) x)) (rest-turn x i h) p

-- ---- The string that is put: its opening quote, and the closing one behind all octets.
module _ (x o : List ℕ) (at : ℕ) (h : at + length (quoted x) ≤ length o) where
  pub quote-fits : at + 1 ≤ length o
  quote-fits = omega (arith, ap length (quoted-is x))

  module _ {d : List ℕ} (e : d ≡ pasted o at (34 ∷ [])) where
    quote-put : Puts o at (34 ∷ []) d (at + 1)
    quote-put = puts_one (34 ∷ []) (at + 1) e refl quote-fits

    pub quote-first : Putting (quoted_rest x) (quoted_rest x) d (at + 1) d (at + 1)
    quote-first =
        putting-first (quoted_rest x) d (at + 1) (omega (arith, ap length (quoted-is x), puts-length quote-put))

    module _ {t : List ℕ} {k i : ℕ} (f : Putting (quoted_rest x) (quoted_rest (drop i x)) d (at + 1) t k)
        (g : length x ≤ i) where
      pub quote-room : k + 1 ≤ length t
      quote-room = putting-fit f (34 ∷ []) [] (rest_end x i g)

      pub quote-last : {z : List ℕ} → z ≡ pasted t k (34 ∷ []) → Puts o at (quoted x) z (k + 1)
      unfolding quoted
      quote-last q = puts-more quote-put (putting-last (putting-plain f (34 ∷ []) [] (rest_end x i g) q))
