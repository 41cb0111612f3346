-- What the readers accept derives from RFC 8259's grammar.
use Rattle.std.specs.Prelude.{Option}
use Prim.Native.Nat.{ℕ, zero, suc, ◌+◌, ◌<◌}
use mathlib.Core.Path.{◌≡◌, refl, sym, ◌∙◌, ap, subst}
use mathlib.Core.Bool.{true, false}
use mathlib.Core.List.{List, [], ◌∷◌, ◌++◌, append_assoc, append-nil}
use native.Mathlib.Omega.{arith}
use borrow.Author.Tests.{eqb-true}
use lib.ListN.{length, get_or, take, drop, take-append-drop}
use lib.Seq.{drop-drop, drop-length}
use Rattle.laws.specs.Pick.{both}
use Rattle.json_tokens.specs.Scan.{starts_with, blank, past_while, after, past_colon}
use Rattle.json_values.specs.Value.{literal_at, plain_at, item_step, member_step, array_of, object_of, value_by, value_at, ends_at}
use Rattle.json_values.specs.Value.{is_text}
use Rattle.json_laws.specs.Rules.{Rule, octets, these, ◌·◌, join, left, right, *◌, none, more, optional, absent}
use Rattle.json_laws.specs.Rules.{present}
use Rattle.json_laws.specs.Abnf
use Rattle.json_laws.proofs.Spans.{Mark, of-pick-cases, both-parts, Spans, Sound, past, bad, Turns, further}
use Rattle.json_laws.proofs.Spans.{ending, wrong, spans-nothing, spans-octet, spans-join, sound-by, sound-join}
use Rattle.json_laws.proofs.Spans.{turns_then, turns-by, sound-walk}
use Rattle.json_laws.proofs.SoundNumber.{spans-ws, sound-number}
use Rattle.json_laws.proofs.SoundString.{sound-string}

-- ---- Words.
starts_is : (w l : List ℕ) → starts_with w l ≡ true → take (length w) l ≡ w
unfolding both
starts_is [] l h = refl
starts_is (x ∷ w) [] h = let z : ◌≡◌ {A = ℕ} 0 1 = cc in absurd (omega arith)
starts_is (x ∷ w) (y ∷ l) h =
    let p = both-parts _ _ h in
    rw (eqb-true x y p.0, starts_is w l p.1) refl

-- a value with a separator before others, and with the closing bracket alone
module _ {W S E : Rule} where
  items-front : (x y : List ℕ) → (W · S) x → ((W · * (S · W)) · E) y → ((W · * (S · W)) · E) (x ++ y)
  items-front x y (join {x = v} {y = c} p q) (join {y = e} (join {x = u} {y = m} a b) z) =
      rw same (join (join p (more (join q a) b)) z)
    where
      same : v ++ c ++ (u ++ m ++ e) ≡ v ++ (c ++ u ++ m) ++ e
      same = simp append_assoc

  items-last : (x : List ℕ) → (W · E) x → ((W · * (S · W)) · E) x
  items-last x (join {x = v} {y = e} p z) = rw (ap (λ l. l ++ e) (sym (append-nil v))) (join (join p none) z)

  given : (x : List ℕ) → ((W · * (S · W)) · E) x → (optional (W · * (S · W)) · E) x
  given x (join a b) = join (present a) b

module _ (s : List ℕ) where
  sound-literal : (w : List ℕ) (k : ℕ) → Sound (octets w) s k (literal_at w s k)
  unfolding literal_at
  sound-literal w k = of-pick-cases (Sound (octets w) s k) _ (λ t. past (word t)) (λ t. bad)
    where
      word : starts_with w (drop k s) ≡ true → Spans (octets w) s k (k + length w)
      word t = record {
        text = w;
        derived = these;
        stands =
            sym (take-append-drop (length w) (drop k s)) ∙ rw (starts_is w (drop k s) t, drop-drop (length w) k s) refl;
      }

  -- a mark with blanks around it, and one with blanks before it only
  around : (k a : ℕ) → 0 < a → get_or s (past_while blank s k) 0 ≡ a
      → Spans (Mark a) s k (past_while blank s (past_while blank s k + 1))
  around k a h e =
      spans-join (spans-ws s k) (spans-join (spans-octet (past_while blank s k) a h e)
      (spans-ws s (past_while blank s k + 1)))

  nothing : (k : ℕ) → Spans Abnf.ws s k k
  unfolding Abnf.ws
  nothing k = spans-nothing k none

  before : (k a : ℕ) → 0 < a → get_or s (past_while blank s k) 0 ≡ a
      → Spans (Mark a) s k (past_while blank s k + 1)
  before k a h e =
      spans-join (spans-ws s k) (spans-join (spans-octet (past_while blank s k) a h e)
      (nothing (past_while blank s k + 1)))

  -- an opening bracket, with the blanks after it
  opening : (k a : ℕ) → 0 < a → get_or s k 0 ≡ a → Spans (Mark a) s k (past_while blank s (k + 1))
  opening k a h e = spans-join (nothing k) (spans-join (spans-octet k a h e) (spans-ws s (k + 1)))

  -- a closing bracket with no blanks before it
  closing : (k a : ℕ) → 0 < a → get_or s k 0 ≡ a → Spans (Mark a) s k (k + 1)
  closing k a h e = spans-join (nothing k) (spans-join (spans-octet k a h e) (nothing (k + 1)))

  turns-after : (a k : ℕ) → 0 < a → Turns Abnf.value-separator (Mark a) s k (after s a k)
  unfolding after Abnf.value-separator
  turns-after a k h =
      of-pick-cases (Turns Abnf.value-separator (Mark a) s k) _
      (λ t. ending (before k a h (eqb-true _ _ t)))
      (λ t. of-pick-cases (Turns Abnf.value-separator (Mark a) s k) _
      (λ u. further (around k 0x2C (omega arith) (eqb-true _ _ u))) (λ u. wrong))

  sound-colon : (k : ℕ) → Sound Abnf.name-separator s k (past_colon s k)
  unfolding past_colon Abnf.name-separator
  sound-colon k =
      of-pick-cases (Sound Abnf.name-separator s k) _ (λ t. past (around k 0x3A (omega arith) (eqb-true _ _ t)))
      (λ t. bad)

  -- ---- Lists of values: W is the rule of the values within.
  module _ {W : Rule} (p : ℕ → Option ℕ) (sound : (k : ℕ) → Sound W s k (p k)) where
    turns-item : (k : ℕ) → Turns (W · Abnf.value-separator) (W · Abnf.end-array) s k (item_step s p k)
    unfolding item_step Abnf.end-array
    turns-item k = turns_then (sound k) (λ e. turns-after 93 e (omega arith))

    member-after : (x : List ℕ) {Q : Rule} → (Abnf.string · Abnf.name-separator · W · Q) x → (Abnf.member W · Q) x
    unfolding Abnf.member
    member-after x (join {x = a} p (join {x = b} q (join {x = c} {y = d} r z))) = rw same (join (join p (join q r)) z)
      where
        same : a ++ (b ++ (c ++ d)) ≡ a ++ (b ++ c) ++ d
        same = simp append_assoc

    turns-member : (k : ℕ)
        → Turns (Abnf.member W · Abnf.value-separator) (Abnf.member W · Abnf.end-object) s k (member_step s p k)
    unfolding member_step Abnf.end-object
    turns-member k =
        turns-by (λ x. member-after x) (λ x. member-after x)
        (turns_then (sound-string s k) (λ e. turns_then (sound-colon e)
        (λ v. turns_then (sound v) (λ f. turns-after 125 f (omega arith)))))

    sound-array : (k : ℕ) → get_or s k 0 ≡ 91 → Sound (Abnf.array W) s k (array_of s p k)
    unfolding array_of Abnf.array Abnf.begin-array Abnf.end-array
    sound-array k o =
        of-pick-cases (Sound (Abnf.array W) s k) _
        (λ t. past (spans-join (opening k 0x5B (omega arith) o)
        (spans-join (spans-nothing (past_while blank s (k + 1)) absent)
        (closing (past_while blank s (k + 1)) 0x5D (omega arith) (eqb-true _ _ t)))))
        (λ t. sound-join (opening k 0x5B (omega arith) o)
        (sound-by given (sound-walk items-front items-last (item_step s p) turns-item (suc (length s))
        (past_while blank s (k + 1)))))

    sound-object : (k : ℕ) → get_or s k 0 ≡ 123 → Sound (Abnf.object W) s k (object_of s p k)
    unfolding object_of Abnf.object Abnf.begin-object Abnf.end-object
    sound-object k o =
        of-pick-cases (Sound (Abnf.object W) s k) _
        (λ t. past (spans-join (opening k 0x7B (omega arith) o)
        (spans-join (spans-nothing (past_while blank s (k + 1)) absent)
        (closing (past_while blank s (k + 1)) 0x7D (omega arith) (eqb-true _ _ t)))))
        (λ t. sound-join (opening k 0x7B (omega arith) o)
        (sound-by given (sound-walk items-front items-last (member_step s p) turns-member (suc (length s))
        (past_while blank s (k + 1)))))

  -- ---- Values.
  sound-plain : (k : ℕ) → Sound (Abnf.value 0) s k (plain_at s k)
  unfolding plain_at Abnf.value Abnf.false Abnf.null Abnf.true
  sound-plain k =
      of-pick-cases (Sound (Abnf.value 0) s k) _ (λ t. sound-by (λ x p. right (right (right (right p))))
      (sound-string s k))
      (λ t. of-pick-cases (Sound (Abnf.value 0) s k) _
      (λ u. sound-by (λ x p. right (right (left p))) (sound-literal _ k))
      (λ u. of-pick-cases (Sound (Abnf.value 0) s k) _ (λ v. sound-by (λ x. left) (sound-literal _ k))
      (λ v. of-pick-cases (Sound (Abnf.value 0) s k) _ (λ w. sound-by (λ x p. right (left p)) (sound-literal _ k))
      (λ w. sound-by (λ x p. right (right (right (left p)))) (sound-number s k)))))

  deeper : (d : ℕ) (x : List ℕ) → Abnf.value 0 x → Abnf.value (suc d) x
  unfolding Abnf.value
  deeper d x (left p) = left p
  deeper d x (right (left p)) = right (left p)
  deeper d x (right (right (left p))) = right (right (left p))
  deeper d x (right (right (right (left p)))) = right (right (right (right (right (left p)))))
  deeper d x (right (right (right (right p)))) = right (right (right (right (right (right p)))))

  pub sound-value : (d k : ℕ) → Sound (Abnf.value d) s k (value_at s d k)
  unfolding value_at value_by Abnf.value
  sound-value zero k =
      of-pick-cases (Sound (Abnf.value 0) s k) _ (λ t. bad)
      (λ t. of-pick-cases (Sound (Abnf.value 0) s k) _ (λ u. bad) (λ u. sound-plain k))
  sound-value (suc d) k =
      of-pick-cases (Sound (Abnf.value (suc d)) s k) _
      (λ t. sound-by (λ x p. right (right (right (left p))))
      (sound-object (value_at s d) (λ j. sound-value d j) k (eqb-true _ _ t)))
      (λ t. of-pick-cases (Sound (Abnf.value (suc d)) s k) _
      (λ u. sound-by (λ x p. right (right (right (right (left p)))))
      (sound-array (value_at s d) (λ j. sound-value d j) k (eqb-true _ _ u)))
      (λ u. sound-by (deeper d) (sound-plain k)))

  -- what spans the whole text is the text
  whole : {P : Rule} {e : ℕ} → Spans P s 0 e → e ≡ length s → P s
  whole {P} p h = subst P (sym (p.stands ∙ rw (h, drop-length s) (append-nil p.text))) p.derived

  ends : (d : ℕ) {r : Option ℕ} → Sound (Abnf.value d) s (past_while blank s 0) r → ends_at s r ≡ true → Abnf.JSON-text d s
  unfolding ends_at Abnf.JSON-text
  ends d (past {e = e} p) h = whole (spans-join (spans-ws s 0) (spans-join p (spans-ws s e))) (eqb-true _ _ h)
  ends d bad h = let z : ◌≡◌ {A = ℕ} 0 1 = cc in absurd (omega arith)

-- What `is_text` accepts is a JSON-text of RFC 8259, nested at most 16 deep.
pub text-sound : (s : List ℕ) → is_text s ≡ true → Abnf.JSON-text 16 s
unfolding is_text
text-sound s h = ends s 16 (sound-value s 16 (past_while blank s 0)) h
