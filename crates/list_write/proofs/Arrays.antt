-- Laws of the elements of an array, for loops that put them or take room for them.
use Rattle.std.specs.Prelude.{Option}
use Prim.Native.Nat.{ℕ, ◌+◌, ◌≤◌}
use mathlib.Core.Path.{◌≡◌, refl, sym, ◌∙◌, ap}
use mathlib.Core.Bool.{Bool, true, false}
use mathlib.Core.List.{List, [], ◌∷◌, append-nil}
use native.Mathlib.Omega.{arith}
use lib.ListN.{length}
use Rattle.laws.specs.Ascii.{ascii}
use Rattle.laws.specs.Flat.{flat}
use Rattle.laws.specs.Written.{Puts}
use Rattle.json_quote.specs.Room.{spent}
use Rattle.json_quote.proofs.Putting.{Putting, putting-first, putting-length}
use Rattle.list_write.specs.Texts.{separator, row}
use Rattle.list_write.proofs.Flats.{flat-length, flat-none, piece-fits, piece-next, pieces-last, room-piece}

pub flat-one : (x : List ℕ) → length (flat (x ∷ [])) ≡ length x
flat-one x = omega (arith, flat-length x [], flat-none)

only : {E x o z : List ℕ} {at b : ℕ} → Putting E (flat (x ∷ [])) o at z b → Putting E x o at z b
unfolding flat
only {x = x} f = rw (append-nil x) at f

module _ {A : Type 0} (f : A → List ℕ) where
  row-turn : (first : Bool) {l : List A} (x : A) (xs : List A) → l ≡ x ∷ xs
      → row f first l ≡ flat (separator first ∷ f x ∷ row f false xs ∷ [])
  unfolding row
  row-turn first x xs e = rw e refl

  row-end : (first : Bool) {l : List A} → l ≡ [] → row f first l ≡ flat ((93 ∷ []) ∷ [])
  unfolding row flat
  row-end first e = rw e refl

  -- ---- How far the elements are put: the row E is to stand from index at of o on, and the elements `rest` are left, with
  -- `before` in front of the next.
  pub record Rowing (E o : List ℕ) (at : ℕ) (rest : List A) (before d : List ℕ) (j : ℕ) : Type 0 where
    pub first : Bool
    pub mark : before ≡ separator first
    pub put : Putting E (row f first rest) o at d j

  pub rowing-first : (o : List ℕ) (at : ℕ) (rest : List A) → at + length (row f true rest) ≤ length o
      → Rowing (row f true rest) o at rest [] o at
  unfolding separator
  rowing-first o at rest h = record { first = true; mark = refl; put = putting-first _ o at h }

  module _ {E o : List ℕ} {at : ℕ} {rest : List A} {before d : List ℕ} {j : ℕ} (w : Rowing E o at rest before d j) where
    pub rowing-length : length d ≡ length o
    rowing-length = putting-length w.put

    module _ (x : A) (xs : List A) (e : rest ≡ x ∷ xs) where
      opened : Putting E (flat (before ∷ f x ∷ row f false xs ∷ [])) o at d j
      opened = rw w.mark (rw (row-turn w.first x xs e) at w.put)

      pub rowing-mark : j + length before ≤ length d
      rowing-mark = piece-fits _ _ opened

      module _ {t : List ℕ} {a : ℕ} (p : Puts d j before t a) where
        pub rowing-item : a + length (f x) ≤ length t
        rowing-item = piece-fits _ _ (piece-next _ _ opened p)

        pub rowing-turn : {z : List ℕ} {b : ℕ} → Puts t a (f x) z b → Rowing E o at xs (ascii ",") z b
        unfolding separator
        rowing-turn q =
            record { first = false; mark = refl; put = only (piece-next _ _ (piece-next _ _ opened p) q) }

    module _ (e : rest ≡ []) where
      closed : Putting E (flat ((93 ∷ []) ∷ [])) o at d j
      closed = rw (row-end w.first e) at w.put

      pub rowing-close : j + 1 ≤ length d
      rowing-close = piece-fits _ _ closed

      pub rowing-done : {z : List ℕ} {b : ℕ} → Puts d j (93 ∷ []) z b → Puts o at E z b
      rowing-done p = pieces-last (piece-next _ _ closed p)

  -- ---- Room for them: n bytes are to be taken of `was`.
  pub record Roomed (n : ℕ) (was : Option ℕ) (rest : List A) (before : List ℕ) (left : Option ℕ) : Type 0 where
    pub first : Bool
    pub mark : before ≡ separator first
    pub room : spent left (length (row f first rest)) ≡ spent was n

  pub roomed-first : (rest : List A) (was : Option ℕ) → Roomed (length (row f true rest)) was rest [] was
  unfolding separator
  roomed-first rest was = record { first = true; mark = refl; room = refl }

  module _ {n : ℕ} {was : Option ℕ} {rest : List A} {before : List ℕ} {left : Option ℕ}
      (w : Roomed n was rest before left) where
    pub roomed-turn : (x : A) (xs : List A) → rest ≡ x ∷ xs → {more next : Option ℕ} → more ≡ spent left (length before)
        → next ≡ spent more (length (f x)) → Roomed n was xs (ascii ",") next
    unfolding separator
    roomed-turn x xs e {more} {next} g h = record {
      first = false;
      mark = refl;
      room =
          room-piece left more (separator w.first) (f x ∷ row f false xs ∷ []) (g ∙ ap (λ m. spent left (length m)) w.mark)
          (room-piece more next (f x) (row f false xs ∷ []) h (ap (spent next) (sym (flat-one (row f false xs)))))
          ∙ ap (λ l. spent left (length l)) (sym (row-turn w.first x xs e)) ∙ w.room;
    }

    pub roomed-last : rest ≡ [] → {r : Option ℕ} → r ≡ spent left 1 → r ≡ spent was n
    roomed-last e g =
        g ∙ ap (spent left) (sym (flat-one (93 ∷ [])))
        ∙ ap (λ l. spent left (length l)) (sym (row-end w.first e)) ∙ w.room
