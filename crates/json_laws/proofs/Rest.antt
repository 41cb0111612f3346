-- Readers at a place whose text is known: a reader of a rule passes over what the rule derives, and no further.
use Rattle.std.specs.Prelude.{Option, Some}
use Prim.Native.Nat.{ℕ, suc, ◌+◌, ◌≤◌}
use mathlib.Core.Path.{◌≡◌, refl, sym, ◌∙◌, ap}
use mathlib.Core.Bool.{Bool, true, false}
use mathlib.Core.List.{List, [], ◌∷◌, ◌++◌, append_assoc}
use native.Mathlib.Nat.{add-zero}
use native.Mathlib.Omega.{arith}
use borrow.Author.Tests.{eq-eqb, ne_eqb}
use lib.Dec.{T, eqb}
use lib.ListN.{length, get_or, drop, length-append, length-drop}
use lib.Seq.{get_or-drop, drop-drop, drop-append_seam}
use Rattle.laws.specs.Pick.{pick, either}
use Rattle.json_tokens.specs.declared.Step.{Step}
use Rattle.json_tokens.specs.declared.Step.TheVariants.{More, End}
use Rattle.json_tokens.specs.Scan.{then, blank, run, past_while}
use Rattle.json_tokens.specs.Walk.{walked}
use Rattle.json_tokens.proofs.While.{while-within}
use Rattle.json_tokens.proofs.Turns.{Forth, walked_more, walked_end}
use Rattle.json_laws.specs.Rules.{Rule, octet, these, ◌·◌, join, ◌∣◌, left, right, *◌, none, more}
use Rattle.json_laws.specs.Abnf

-- from k on stands x, to the end
pub record Rest (s : List ℕ) (k : ℕ) (x : List ℕ) : Type 0 where
  pub is : drop k s ≡ x
  pub inside : k ≤ length s

-- a reader reads up to where t stands
pub data Passes (s t : List ℕ) : Option ℕ → Type 0 where
  passes : {e : ℕ} → Rest s e t → Passes s t (Some e)

-- the byte at the front, 0 of an empty list
abbrev pub front : List ℕ → ℕ
front l = get_or l 0 0

module _ {A : Type 0} (P : A → Type 0) where
  pub if-true : {b : Bool} {x : A} (y : A) → b ≡ true → P x → P (pick b x y)
  unfolding pick
  if-true y e p = rw e p

  pub if-false : {b : Bool} (x : A) {y : A} → b ≡ false → P y → P (pick b x y)
  unfolding pick
  if-false x e p = rw e p

  pub if-is : {m n : ℕ} {x : A} (y : A) → m ≡ n → P x → P (pick (eqb m n) x y)
  if-is {m} {n} y e p = if-true y (eq-eqb m n e) p

  pub if-not : {m n : ℕ} (x : A) {y : A} → (m ≡ n → ⊥) → P y → P (pick (eqb m n) x y)
  if-not {m} {n} x e p = if-false x (ne_eqb m n e) p

module _ {s : List ℕ} {k : ℕ} where
  pub rest-front : {x : List ℕ} → Rest s k x → get_or s k 0 ≡ front x
  rest-front h = ap (λ i. get_or s i 0) (sym (add-zero k)) ∙ sym (get_or-drop k s 0 0) ∙ ap (λ l. get_or l 0 0) h.is

  pub rest-past : (x y : List ℕ) → Rest s k (x ++ y) → Rest s (k + length x) y
  rest-past x y h = record {
    is = sym (drop-drop (length x) k s) ∙ ap (drop (length x)) h.is ∙ drop-append_seam x y;
    inside = omega (arith, h.inside, ap length h.is, length-drop k s, length-append x y);
  }

  pub rest-next : {a : ℕ} {x : List ℕ} → Rest s k (a ∷ x) → Rest s (k + 1) x
  rest-next {a} {x} h = rest-past (a ∷ []) x h

  pub rest-as : {x y : List ℕ} → x ≡ y → Rest s k x → Rest s k y
  rest-as e h = record { is = h.is ∙ e; inside = h.inside }

pub rest_all : (s : List ℕ) → Rest s 0 s
rest_all s = record { is = refl; inside = omega arith }

-- anything may follow
abbrev pub Any : List ℕ → Type 0
Any t = T true

-- ---- A reader f reads the rule P wherever C holds of what follows.
abbrev pub Reads : List ℕ → Rule → (List ℕ → Type 0) → (ℕ → Option ℕ) → Type 0
Reads s P C f = (k : ℕ) (x t : List ℕ) → P x → C t → Rest s k (x ++ t) → Passes s t (f k)

pub passes_then : {s t u : List ℕ} {r : Option ℕ} {f : ℕ → Option ℕ} → Passes s t r → ((e : ℕ) → Rest s e t → Passes s u (f e))
    → Passes s u (then r f)
unfolding then
passes_then (passes {e = e} h) g = g e h

pub reads_then : {s : List ℕ} {P Q : Rule} {C D : List ℕ → Type 0} {f g : ℕ → Option ℕ} → Reads s P C f → Reads s Q D g
    → ((y t : List ℕ) → Q y → D t → C (y ++ t)) → Reads s (P · Q) D (λ k. then (f k) g)
reads_then F G c k z t (join {x = x} {y = y} p q) d h =
    passes_then (F k x (y ++ t) p (c y t q d) (rest-as (append_assoc x y t) h)) (λ e r. G e y t q d r)

-- ---- Bytes that pass a test.
-- x is one byte, and passes
pub data One (p : ℕ → Bool) : List ℕ → Type 0 where
  one : {c : ℕ} → p c ≡ true → One p (c ∷ [])

module _ {P : Rule} (p : ℕ → Bool) (each : (x : List ℕ) → P x → One p x) where
  one-run : {x : List ℕ} (t : List ℕ) → One p x → run p (x ++ t) ≡ length x + run p t
  unfolding pick
  one-run t (one e) = rw e (omega arith)

  pub many-run : {x : List ℕ} (t : List ℕ) → (* P) x → run p (x ++ t) ≡ length x + run p t
  many-run t none = omega arith
  many-run t (more {x = x} {y = y} a m) =
      rw (append_assoc x y t) (omega (arith, one-run (y ++ t) (each x a), many-run t m, length-append x y))

  pub many-reads : {s : List ℕ} (k : ℕ) (x t : List ℕ) → (* P) x → run p t ≡ 0 → Rest s k (x ++ t)
      → past_while p s k ≡ k + length x
  unfolding past_while
  many-reads k x t m z h = rw h.is (omega (arith, many-run t m))

-- ---- Blanks.
abbrev pub trim : List ℕ → List ℕ
trim [] = []
trim (c ∷ l) = pick (blank c) (trim l) (c ∷ l)

trim-run : (l : List ℕ) → drop (run blank l) l ≡ trim l
unfolding pick
trim-run [] = refl
trim-run (c ∷ l) = by (blank c) (trim-run l)
  where
    by : (b : Bool) → drop (run blank l) l ≡ trim l
        → drop (pick b (suc (run blank l)) 0) (c ∷ l) ≡ pick b (trim l) (c ∷ l)
    by true e = e
    by false e = refl

pub rest-blanks : {s : List ℕ} {k : ℕ} {x : List ℕ} → Rest s k x → Rest s (past_while blank s k) (trim x)
unfolding past_while
rest-blanks {s} {k} {x} h = record {
  is = sym (drop-drop (run blank (drop k s)) k s) ∙ rw h.is (trim-run x);
  inside = while-within blank s k h.inside;
}

-- nothing to trim where no blank stands first
pub trim-front : (l : List ℕ) → blank (front l) ≡ false → trim l ≡ l
unfolding pick
trim-front [] e = refl
trim-front (c ∷ l) e = rw e refl

pub trim-no : (c : ℕ) (l : List ℕ) → blank c ≡ false → trim (c ∷ l) ≡ c ∷ l
unfolding pick
trim-no c l e = rw e refl

abbrev pub Blank : Rule
Blank = octet 0x20 ∣ octet 0x09 ∣ octet 0x0A ∣ octet 0x0D

pub blank-one : (x : List ℕ) → Blank x → One blank x
unfolding either
blank-one x (left these) = one refl
blank-one x (right (left these)) = one refl
blank-one x (right (right (left these))) = one refl
blank-one x (right (right (right these))) = one refl

trim-one : {x : List ℕ} (t : List ℕ) → One blank x → trim (x ++ t) ≡ trim t
unfolding pick
trim-one t (one e) = rw e refl

trim-many : {x : List ℕ} (t : List ℕ) → (* Blank) x → trim (x ++ t) ≡ trim t
trim-many t none = refl
trim-many t (more {x = x} {y = y} a m) = rw (append_assoc x y t) (trim-one (y ++ t) (blank-one x a) ∙ trim-many t m)

pub trim-ws : (x t : List ℕ) → Abnf.ws x → trim (x ++ t) ≡ trim t
unfolding Abnf.ws
trim-ws x t w = trim-many t w

-- ---- Lists that are read by turns.
-- a turn goes on where t stands, or ends the list there
pub data Goes (s t : List ℕ) : Step → Type 0 where
  goes : {j : ℕ} → Rest s j t → Goes s t (More j)

pub data Stays (s t : List ℕ) : Step → Type 0 where
  stays : {e : ℕ} → Rest s e t → Stays s t (End e)

-- the first turn goes on, or is the last
pub walk-on : {s t : List ℕ} {x : Step} (P : Option ℕ → Type 0) (f : ℕ → Step)
    (forth : (k : ℕ) → Forth (length s) k (f k)) (k : ℕ) → x ≡ f k → Goes s t x
    → ((j : ℕ) → Rest s j t → P (walked (length s) f j)) → P (walked (length s) f k)
walk-on {s} P f forth k e (goes {j = j} h) g = rw (← walked_more (length s) f forth k e refl) (g j h)

pub walk-last : {s t : List ℕ} {x : Step} (f : ℕ → Step) (k : ℕ) → x ≡ f k → Stays s t x
    → Passes s t (walked (length s) f k)
walk-last {s} f k e (stays h) = rw (← walked_end (length s) f k e refl) (passes h)
