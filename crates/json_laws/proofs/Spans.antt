-- Between two places of a text stands what a rule derives: laws over any rule and any reader.
use Rattle.std.specs.Prelude.{None, Option, Some}
use Prim.Native.Nat.{ℕ, zero, suc, ◌+◌, ◌≤◌, ◌<◌}
use mathlib.Core.Path.{◌≡◌, refl, sym, ◌∙◌, ap}
use mathlib.Core.Bool.{Bool, true, false}
use mathlib.Core.List.{List, [], ◌∷◌, ◌++◌, append_assoc}
use native.Mathlib.Nat.{not-suc-le-zero}
use native.Mathlib.Numerals.{add-one}
use native.Mathlib.Omega.{arith}
use lib.ListN.{get_or, take, drop, take-append-drop}
use lib.Seq.{drop-cons, drop-drop}
use Rattle.laws.specs.Pick.{pick, both}
use Rattle.json_tokens.specs.declared.Step.{Step}
use Rattle.json_tokens.specs.declared.Step.TheVariants.{More, End, Wrong}
use Rattle.json_tokens.specs.Scan.{then, then_step, run, past_while}
use Rattle.json_tokens.specs.Walk.{onward, walk}
use Rattle.json_tokens.proofs.Picks.{over}
use Rattle.json_laws.specs.Rules.{Rule, octet, these, range, within, ◌·◌, join, *◌, none, more}
use Rattle.json_laws.specs.Abnf

-- a choice by a test, by cases on the test
pub of-pick-cases : {A : Type 0} (P : A → Type 0) (b : Bool) {x y : A} → (b ≡ true → P x) → (b ≡ false → P y)
    → P (pick b x y)
unfolding pick
of-pick-cases P true p q = p refl
of-pick-cases P false p q = q refl

pub both-parts : (p q : Bool) → both p q ≡ true → (p ≡ true) × (q ≡ true)
unfolding both
both-parts true q h = (refl, h)
both-parts false q h = let o : ◌≡◌ {A = ℕ} 0 1 = cc in absurd (omega arith)

pub record Spans (P : Rule) (s : List ℕ) (k e : ℕ) : Type 0 where
  pub text : List ℕ
  pub derived : P text
  pub stands : drop k s ≡ text ++ drop e s

-- what a reader at k answers
pub data Sound (P : Rule) (s : List ℕ) (k : ℕ) : Option ℕ → Type 0 where
  past : {e : ℕ} → Spans P s k e → Sound P s k (Some e)
  bad : Sound P s k None

-- what a turn at k answers: P where it is not the last, Q where it is
pub data Turns (P Q : Rule) (s : List ℕ) (k : ℕ) : Step → Type 0 where
  further : {j : ℕ} → Spans P s k j → Turns P Q s k (More j)
  ending : {e : ℕ} → Spans Q s k e → Turns P Q s k (End e)
  wrong : Turns P Q s k Wrong

-- a bracket, a colon or a comma, with blanks around it
abbrev pub Mark : ℕ → Rule
Mark a = Abnf.ws · octet a · Abnf.ws

pub octet-is : {a b : ℕ} → b ≡ a → octet a (b ∷ [])
octet-is e = rw e these

module _ {s : List ℕ} where
  pub spans-nothing : {P : Rule} (k : ℕ) → P [] → Spans P s k k
  spans-nothing k p = record { text = []; derived = p; stands = refl }

  -- a byte that is not 0
  pub spans-byte : {P : Rule} (k : ℕ) → 0 < get_or s k 0 → P (get_or s k 0 ∷ []) → Spans P s k (k + 1)
  spans-byte k h p =
      record { text = get_or s k 0 ∷ []; derived = p; stands = rw (add-one k) (drop-cons s k 0 (over s refl h)) }

  pub spans-octet : (k a : ℕ) → 0 < a → get_or s k 0 ≡ a → Spans (octet a) s k (k + 1)
  spans-octet k a h e = spans-byte k (rw e h) (octet-is e)

  pub spans-range : (k low high : ℕ) → 0 < low → low ≤ get_or s k 0 → get_or s k 0 ≤ high
      → Spans (range low high) s k (k + 1)
  spans-range k low high z l h = spans-byte k (omega arith) (within l h)

  pub spans-join : {P Q : Rule} {k e f : ℕ} → Spans P s k e → Spans Q s e f → Spans (P · Q) s k f
  spans-join {f = f} p q = record {
    text = p.text ++ q.text;
    derived = join p.derived q.derived;
    stands = p.stands ∙ ap (λ l. p.text ++ l) q.stands ∙ sym (append_assoc p.text q.text (drop f s));
  }

  pub spans-by : {P Q : Rule} {k e : ℕ} → ((x : List ℕ) → P x → Q x) → Spans P s k e → Spans Q s k e
  spans-by c p = record { text = p.text; derived = c p.text p.derived; stands = p.stands }

  -- ---- Readers in a row.
  pub sound-by : {P Q : Rule} {k : ℕ} {r : Option ℕ} → ((x : List ℕ) → P x → Q x) → Sound P s k r → Sound Q s k r
  sound-by c (past p) = past (spans-by c p)
  sound-by c bad = bad

  pub sound-join : {P Q : Rule} {k e : ℕ} {r : Option ℕ} → Spans P s k e → Sound Q s e r → Sound (P · Q) s k r
  sound-join p (past q) = past (spans-join p q)
  sound-join p bad = bad

  pub sound-then : {P Q : Rule} {k : ℕ} {r : Option ℕ} {f : ℕ → Option ℕ} → Sound P s k r → ((e : ℕ) → Sound Q s e (f e))
      → Sound (P · Q) s k (then r f)
  unfolding then
  sound-then (past {e = e} p) q = sound-join p (q e)
  sound-then bad q = bad

  turns-join : {P Q R : Rule} {k e : ℕ} {t : Step} → Spans P s k e → Turns Q R s e t → Turns (P · Q) (P · R) s k t
  turns-join p (further q) = further (spans-join p q)
  turns-join p (ending q) = ending (spans-join p q)
  turns-join p wrong = wrong

  pub turns_then : {P Q R : Rule} {k : ℕ} {r : Option ℕ} {f : ℕ → Step} → Sound P s k r → ((e : ℕ) → Turns Q R s e (f e))
      → Turns (P · Q) (P · R) s k (then_step r f)
  unfolding then_step
  turns_then (past {e = e} p) q = turns-join p (q e)
  turns_then bad q = wrong

  pub turns-by : {P Q P' Q' : Rule} {k : ℕ} {t : Step} → ((x : List ℕ) → P x → P' x) → ((x : List ℕ) → Q x → Q' x)
      → Turns P Q s k t → Turns P' Q' s k t
  turns-by c d (further p) = further (spans-by c p)
  turns-by c d (ending p) = ending (spans-by d p)
  turns-by c d wrong = wrong

  -- ---- Repetition.
  on : {P R : Rule} {k j : ℕ} {r : Option ℕ} → ((x y : List ℕ) → P x → R y → R (x ++ y)) → Spans P s k j → Sound R s j r
      → Sound R s k r
  on c p (past {e = e} q) = past (record {
    text = p.text ++ q.text;
    derived = c p.text q.text p.derived q.derived;
    stands = p.stands ∙ ap (λ l. p.text ++ l) q.stands ∙ sym (append_assoc p.text q.text (drop e s));
  })
  on c p bad = bad

  -- turns that are P each, and the last of them Q, make R
  module _ {P Q R : Rule} (front : (x y : List ℕ) → P x → R y → R (x ++ y)) (last : (x : List ℕ) → Q x → R x)
      (f : ℕ → Step) (turn : (k : ℕ) → Turns P Q s k (f k)) where
    by : (n : ℕ) {k : ℕ} {t : Step} → Turns P Q s k t → ((j : ℕ) → Sound R s j (walk n f j))
        → Sound R s k (onward t (walk n f))
    unfolding onward
    by n (further {j = j} p) r = on front p (r j)
    by n (ending p) r = past (spans-by last p)
    by n wrong r = bad

    pub sound-walk : (n k : ℕ) → Sound R s k (walk n f k)
    unfolding walk
    sound-walk zero k = bad
    sound-walk (suc n) k = by n (turn k) (λ j. sound-walk n j)

-- bytes that pass a test
pub run-spans : {Q : Rule} {s : List ℕ} (p : ℕ → Bool) (k : ℕ) → Q (take (run p (drop k s)) (drop k s))
    → Spans Q s k (past_while p s k)
unfolding past_while
run-spans {s = s} p k q = record {
  text = take (run p (drop k s)) (drop k s);
  derived = q;
  stands =
      sym (take-append-drop (run p (drop k s)) (drop k s)) ∙ ap (λ l. take (run p (drop k s)) (drop k s) ++ l)
      (drop-drop (run p (drop k s)) k s);
}

module _ {P : Rule} (p : ℕ → Bool) (each : (c : ℕ) → p c ≡ true → P (c ∷ [])) where
  pub run-many : (l : List ℕ) → (* P) (take (run p l) l)
  unfolding pick
  run-many [] = none
  run-many (x ∷ l) = by (p x) refl (run-many l)
    where
      by : (b : Bool) → p x ≡ b → (* P) (take (run p l) l) → (* P) (take (pick b (suc (run p l)) 0) (x ∷ l))
      by true e r = more (each x e) r
      by false e r = none

  pub run-some : (l : List ℕ) → 0 < run p l → (P · * P) (take (run p l) l)
  unfolding pick
  run-some [] h = absurd (not-suc-le-zero h)
  run-some (x ∷ l) h = by (p x) refl h
    where
      by : (b : Bool) → p x ≡ b → 0 < pick b (suc (run p l)) 0 → (P · * P) (take (pick b (suc (run p l)) 0) (x ∷ l))
      by true e g = join (each x e) (run-many l)
      by false e g = absurd (not-suc-le-zero g)

  pub while-spans : {s : List ℕ} (k : ℕ) → Spans (* P) s k (past_while p s k)
  while-spans {s} k = run-spans p k (run-many (drop k s))
