-- Lists of elements and of members: their readers read what derives from the grammar, and leave no more than blanks.
use Rattle.std.specs.Prelude.{Option, Some}
use Prim.Native.Nat.{ℕ, suc, ◌+◌, ◌<◌}
use mathlib.Core.Path.{◌≡◌, refl, sym, ◌∙◌, ap}
use mathlib.Core.Bool.{false}
use mathlib.Core.List.{List, [], ◌∷◌, ◌++◌, append_assoc}
use native.Mathlib.Omega.{arith}
use borrow.Author.Tests.{lt-leb}
use lib.Dec.{eqb}
use lib.ListN.{length, get_or}
use Rattle.laws.specs.Pick.{pick, either, both}
use Rattle.json_tokens.specs.declared.Step.{Step}
use Rattle.json_tokens.specs.declared.Step.TheVariants.{End, Wrong}
use Rattle.json_tokens.specs.Scan.{then_step, blank, digit, past_while, after}
use Rattle.json_tokens.specs.Walk.{walked, starts}
use Rattle.json_tokens.proofs.Turns.{Forth, walked_end, starts_more, starts-end}
use Rattle.json_laws.specs.Rules.{Rule, these, ◌·◌, join, left, right, *◌, none, more, optional, absent, present}
use Rattle.json_laws.specs.Abnf
use Rattle.json_laws.specs.Tree.{further_in, list_in, parts_in}
use Rattle.json_laws.proofs.Rest.{Rest, Passes, passes, front, if-is, if-not, rest-front, rest-next, rest-as}
use Rattle.json_laws.proofs.Rest.{rest-blanks, Goes, goes, Stays, stays, walk-on, trim, trim-no, trim-ws}
use Rattle.json_laws.proofs.Spans.{Mark}
use Rattle.json_laws.proofs.CompleteNumber.{Stops}

-- A reader reads up to where t stands, but for blanks: a bracket's own blanks may be left to what follows.
pub data Lands (s t : List ℕ) : Option ℕ → Type 0 where
  lands : {e : ℕ} {u : List ℕ} → Rest s e u → trim u ≡ trim t → Lands s t (Some e)

pub passes-lands : {s t : List ℕ} {r : Option ℕ} → Passes s t r → Lands s t r
passes-lands (passes h) = lands h refl

-- the reader g of values reads W, from where no blank stands
abbrev pub Values : List ℕ → Rule → (ℕ → Option ℕ) → Type 0
Values s W g = (k : ℕ) (x t : List ℕ) → W x → Stops t → Rest s k (trim (x ++ t)) → Lands s t (g k)

-- ---- Marks.
-- c is the mark a with blanks around it, and t follows
pub data Marked (a : ℕ) (c t : List ℕ) : Type 0 where
  marked : (w : List ℕ) → Abnf.ws w → trim (c ++ t) ≡ a ∷ (w ++ t) → Marked a c t

pub mark : (a : ℕ) (c t : List ℕ) → blank a ≡ false → Mark a c → Marked a c t
mark a c t n (join {x = v} p (join {y = w} these q)) =
    marked w q (ap trim (append_assoc v (a ∷ w) t) ∙ trim-ws v (a ∷ (w ++ t)) p ∙ trim-no a (w ++ t) n)

-- no number goes on with a byte below the minus sign
pub stops-low : (t : List ℕ) → front t < 45 → Stops t
unfolding both
stops-low t h = record {
  digit = rw (lt-leb 48 (front t) (omega arith)) refl;
  point = λ e. omega arith;
  small = λ e. omega arith;
  large = λ e. omega arith;
}

pub ws-stops : (x t : List ℕ) → Abnf.ws x → Stops t → Stops (x ++ t)
unfolding Abnf.ws
ws-stops x t none c = c
ws-stops x t (more {y = y} (left these) m) c = stops-low (0x20 ∷ (y ++ t)) (omega arith)
ws-stops x t (more {y = y} (right (left these)) m) c = stops-low (0x09 ∷ (y ++ t)) (omega arith)
ws-stops x t (more {y = y} (right (right (left these))) m) c = stops-low (0x0A ∷ (y ++ t)) (omega arith)
ws-stops x t (more {y = y} (right (right (right these))) m) c = stops-low (0x0D ∷ (y ++ t)) (omega arith)

mark-stops : (a : ℕ) (c t : List ℕ) → ((l : List ℕ) → Stops (a ∷ l)) → Mark a c → Stops (c ++ t)
mark-stops a c t n (join {x = v} p (join {y = w} these q)) =
    rw (append_assoc v (a ∷ w) t) (ws-stops v (a ∷ (w ++ t)) p (n (w ++ t)))

comma-stops : (c t : List ℕ) → Abnf.value-separator c → Stops (c ++ t)
unfolding Abnf.value-separator
comma-stops c t i = mark-stops 44 c t (λ l. stops-low (44 ∷ l) (omega arith)) i

-- a bracket that closes a list
pub record Closes (a : ℕ) : Type 0 where
  pub shown : blank a ≡ false
  pub comma : 44 ≡ a → ⊥
  pub stops : (l : List ℕ) → Stops (a ∷ l)

pub bracket : Closes 93
unfolding both either
bracket = record {
  shown = refl;
  comma = λ e. omega arith;
  stops = λ l. record { digit = refl; point = λ e. omega arith; small = λ e. omega arith; large = λ e. omega arith };
}

pub brace : Closes 125
unfolding both either
brace = record {
  shown = refl;
  comma = λ e. omega arith;
  stops = λ l. record { digit = refl; point = λ e. omega arith; small = λ e. omega arith; large = λ e. omega arith };
}

-- ---- What follows an element or a member.
-- the last turn of a list, with t behind it but for blanks
data Shut (s t : List ℕ) : Step → Type 0 where
  shut : {e : ℕ} {u : List ℕ} → Rest s e u → trim u ≡ trim t → Shut s t (End e)

walk-shut : {s t : List ℕ} {x : Step} (f : ℕ → Step) (k : ℕ) → x ≡ f k → Shut s t x → Lands s t (walked (length s) f k)
walk-shut {s} f k e (shut h z) = rw (← walked_end (length s) f k e refl) (lands h z)

module _ {s : List ℕ} (a : ℕ) where
  after-comma : {u y : List ℕ} (e : ℕ) → (44 ≡ a → ⊥) → Rest s e u → trim u ≡ 44 ∷ y → Goes s (trim y) (after s a e)
  unfolding after
  after-comma e n h z =
      let r = rest-as z (rest-blanks h) in
      if-not (Goes s _) _ (λ q. n (sym (rest-front r) ∙ q))
      (if-is (Goes s _) Wrong (rest-front r) (goes (rest-blanks (rest-next r))))

  after-close : {u y : List ℕ} (e : ℕ) → Rest s e u → trim u ≡ a ∷ y → Stays s y (after s a e)
  unfolding after
  after-close e h z = let r = rest-as z (rest-blanks h) in if-is (Stays s _) _ (rest-front r) (stays (rest-next r))

  lands-goes : {r : Option ℕ} (c u : List ℕ) → (44 ≡ a → ⊥) → Lands s (c ++ u) r → Marked 44 c u
      → Goes s (trim u) (then_step r (after s a))
  unfolding then_step
  lands-goes c u n (lands {e = e} h z) (marked w m g) = rw (← trim-ws w u m) (after-comma e n h (z ∙ g))

  lands-shut : {r : Option ℕ} (c t : List ℕ) → Lands s (c ++ t) r → Marked a c t
      → Shut s t (then_step r (after s a))
  unfolding then_step
  lands-shut c t (lands {e = e} h z) (marked w m g) = closed (trim-ws w t m) (after-close e h (z ∙ g))
    where
      closed : {y : List ℕ} {x : Step} → trim y ≡ trim t → Stays s y x → Shut s t x
      closed i (stays r) = shut r i

-- ---- Places.
-- at each place stands what W derives, but for blanks before it, with more behind it; `means` says what it means
module _ {W : Rule} {A : Type 0} (s : List ℕ) (means : (x : List ℕ) → W x → A) where
  pub data Stand : List ℕ → List A → Type 0 where
    nothing : Stand [] []
    also : {k : ℕ} {ks x : List ℕ} {l : List A} (t : List ℕ) (p : W x) → Stops t → Rest s k (trim (x ++ t))
        → Stand ks l → Stand (k ∷ ks) (means x p ∷ l)

  stand-last : {t : List ℕ} {x : Step} (f : ℕ → Step) (k : ℕ) (v u : List ℕ) (p : W v) → Stops u
      → Rest s k (trim (v ++ u)) → x ≡ f k → Shut s t x → Stand (starts (suc (length s)) f k) (means v p ∷ [])
  stand-last f k v u p c h e (shut r z) = rw (starts-end (length s) f k e refl) (also u p c h nothing)

  stand-on : {t : List ℕ} {x : Step} {l : List A} (f : ℕ → Step) (forth : (k : ℕ) → Forth (length s) k (f k))
      (k : ℕ) (v u : List ℕ) (p : W v) → Stops u → Rest s k (trim (v ++ u)) → x ≡ f k → Goes s t x
      → ((j : ℕ) → Rest s j t → Stand (starts (suc (length s)) f j) l)
      → Stand (starts (suc (length s)) f k) (means v p ∷ l)
  stand-on f forth k v u p c h e (goes {j = j} r) g =
      rw (starts_more (length s) f forth k e refl) (also u p c h (g j r))

three-assoc : (x y z t : List ℕ) → x ++ y ++ z ++ t ≡ x ++ (y ++ (z ++ t))
three-assoc x y z t = simp append_assoc

-- ---- Lists: W is the rule of an element or a member, g its reader, f a turn; a closes the list.
-- a list from past its opening bracket and the blanks after that
abbrev pub inner : List ℕ → ℕ → (ℕ → Step) → ℕ → Option ℕ
inner s a f k = pick (eqb (get_or s k 0) a) (Some (k + 1)) (walked (length s) f k)

-- where its parts stand
abbrev pub places : List ℕ → ℕ → (ℕ → Step) → ℕ → List ℕ
places s a f k = pick (eqb (get_or s k 0) a) [] (starts (suc (length s)) f k)

-- past the bracket o and the blanks after it stands the rest
opened : {s : List ℕ} (o : ℕ) → blank o ≡ false → (k : ℕ) (b i t : List ℕ) → Mark o b → Rest s k (trim (b ++ i ++ t))
    → Rest s (past_while blank s (k + 1)) (trim (i ++ t))
opened {s} o n k b i t p h = by (mark o b (i ++ t) n p)
  where
    by : Marked o b (i ++ t) → Rest s (past_while blank s (k + 1)) (trim (i ++ t))
    by (marked w m z) =
        let r = rest-as (ap trim (append_assoc b i t) ∙ z) h in
        rest-as (trim-ws w (i ++ t) m) (rest-blanks (rest-next r))

module _ (s : List ℕ) (W : Rule) (g : ℕ → Option ℕ) (values : Values s W g)
    (f : ℕ → Step) (forth : (k : ℕ) → Forth (length s) k (f k))
    (a : ℕ) (closes : Closes a) (first : (x t : List ℕ) → W x → front (trim (x ++ t)) ≡ a → ⊥)
    (turn : (k : ℕ) → f k ≡ then_step (g k) (after s a)) where
  -- a turn that a comma follows, and the last
  turn-goes : (k : ℕ) (v c u : List ℕ) → W v → Abnf.value-separator c → Rest s k (trim (v ++ (c ++ u)))
      → Goes s (trim u) (f k)
  unfolding Abnf.value-separator either
  turn-goes k v c u p i h =
      let before = values k v (c ++ u) p (comma-stops c u i) h in
      rw (turn k) (lands-goes a c u closes.comma before (mark 44 c u refl i))

  turn-shut : (k : ℕ) (v e t : List ℕ) → W v → Mark a e → Rest s k (trim (v ++ (e ++ t))) → Shut s t (f k)
  turn-shut k v e t p q h =
      let before = values k v (e ++ t) p (mark-stops a e t closes.stops q) h in
      rw (turn k) (lands-shut a e t before (mark a e t closes.shown q))

  items-walk : (k : ℕ) (v m e t : List ℕ) → W v → (* (Abnf.value-separator · W)) m → Mark a e
      → Rest s k (trim (v ++ (m ++ (e ++ t)))) → Lands s t (walked (length s) f k)
  items-walk k v m e t p none q h = walk-shut f k refl (turn-shut k v e t p q h)
  items-walk k v m e t p (more {y = y} (join {x = c} {y = x} i j) n) q h =
      let r = rest-as (ap (λ l. trim (v ++ l)) (three-assoc c x y (e ++ t))) h in
      walk-on (Lands s t) f forth k refl (turn-goes k v c (x ++ (y ++ (e ++ t))) p i r)
      (λ l z. items-walk l x y e t j n q z)

  none-lands : (k : ℕ) (e t : List ℕ) → Marked a e t → Rest s k (trim (e ++ t)) → Lands s t (inner s a f k)
  none-lands k e t (marked w m z) h =
      let r = rest-as z h in if-is (Lands s t) _ (rest-front r) (lands (rest-next r) (trim-ws w t m))

  inner-lands : (k : ℕ) (x e t : List ℕ) → optional (W · * (Abnf.value-separator · W)) x → Mark a e
      → Rest s k (trim (x ++ e ++ t)) → Lands s t (inner s a f k)
  inner-lands k x e t absent q h = none-lands k e t (mark a e t closes.shown q) h
  inner-lands k x e t (present (join {x = v} {y = m} p i)) q h =
      let r = rest-as (ap trim (three-assoc v m e t)) h in
      if-not (Lands s t) _ (λ c. first v (m ++ (e ++ t)) p (sym (rest-front r) ∙ c))
      (items-walk k v m e t p i q r)

  pub list-lands : (o : ℕ) → blank o ≡ false → (k : ℕ) (x t : List ℕ)
      → (Mark o · optional (W · * (Abnf.value-separator · W)) · Mark a) x → Rest s k (trim (x ++ t))
      → Lands s t (inner s a f (past_while blank s (k + 1)))
  list-lands o n k x t (join {x = b} p (join {x = i} {y = e} l q)) h =
      inner-lands (past_while blank s (k + 1)) i e t l q (opened o n k b (i ++ e) t p h)

  -- ---- The turns start where the parts stand.
  module _ {A : Type 0} (means : (x : List ℕ) → W x → A) where
    items-stand : (k : ℕ) (v m e t : List ℕ) (p : W v) (n : (* (Abnf.value-separator · W)) m) → Mark a e
        → Rest s k (trim (v ++ (m ++ (e ++ t))))
        → Stand s means (starts (suc (length s)) f k) (means v p ∷ further_in means n)
    items-stand k v m e t p none q h =
        stand-last s means f k v (e ++ t) p (mark-stops a e t closes.stops q) h refl (turn-shut k v e t p q h)
    items-stand k v m e t p (more {y = y} (join {x = c} {y = x} i j) n) q h =
        let r = rest-as (ap (λ l. trim (v ++ l)) (three-assoc c x y (e ++ t))) h in
        let u : List ℕ = x ++ (y ++ (e ++ t)) in
        stand-on s means f forth k v (c ++ u) p (comma-stops c u i) r refl (turn-goes k v c u p i r)
        (λ l z. items-stand l x y e t j n q z)

    none-stand : (k : ℕ) (e t : List ℕ) → Marked a e t → Rest s k (trim (e ++ t)) → Stand s means (places s a f k) []
    none-stand k e t (marked w m z) h = if-is (λ l. Stand s means l []) _ (rest-front (rest-as z h)) nothing

    inner-stand : (k : ℕ) (x e t : List ℕ) (l : optional (W · * (Abnf.value-separator · W)) x) → Mark a e
        → Rest s k (trim (x ++ e ++ t)) → Stand s means (places s a f k) (list_in means l)
    inner-stand k x e t absent q h = none-stand k e t (mark a e t closes.shown q) h
    inner-stand k x e t (present (join {x = v} {y = m} p i)) q h =
        let r = rest-as (ap trim (three-assoc v m e t)) h in
        if-not (λ l. Stand s means l (means v p ∷ further_in means i)) []
        (λ c. first v (m ++ (e ++ t)) p (sym (rest-front r) ∙ c)) (items-stand k v m e t p i q r)

    -- the places of the parts, and what the parts mean
    pub list-stand : (o : ℕ) → blank o ≡ false → (k : ℕ) (x t : List ℕ)
        (z : (Mark o · optional (W · * (Abnf.value-separator · W)) · Mark a) x) → Rest s k (trim (x ++ t))
        → Stand s means (places s a f (past_while blank s (k + 1))) (parts_in means z)
    list-stand o n k x t (join {x = b} p (join {x = i} {y = e} l q)) h =
        inner-stand (past_while blank s (k + 1)) i e t l q (opened o n k b (i ++ e) t p h)

-- a list opens with its bracket
pub list-front : {R : Rule} (o : ℕ) → blank o ≡ false → (x t : List ℕ) → (Mark o · R) x
    → front (trim (x ++ t)) ≡ o
list-front o n x t (join {x = b} {y = y} p r) = by (mark o b (y ++ t) n p)
  where
    by : Marked o b (y ++ t) → front (trim (b ++ y ++ t)) ≡ o
    by (marked w m g) = ap (λ l. front (trim l)) (append_assoc b y t) ∙ ap front g
