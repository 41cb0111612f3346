-- How far a writer has come that puts the text E into o from index at on: R is left of it, and goes to index k of d.
use Prim.Native.Nat.{ℕ, ◌+◌, ◌≤◌}
use mathlib.Core.Path.{◌≡◌, refl, sym, ◌∙◌, ap}
use mathlib.Core.List.{List, [], ◌++◌, append_assoc, append-nil}
use native.Mathlib.Omega.{arith}
use lib.ListN.{length, length-append}
use Rattle.laws.specs.Pasted.{pasted}
use Rattle.laws.specs.Written.{Puts}
use Rattle.laws.proofs.Written.{puts_none, puts_one, puts-more, puts-length, puts-as}

pub record Putting (E R o : List ℕ) (at : ℕ) (d : List ℕ) (k : ℕ) : Type 0 where
  pub done : List ℕ
  pub whole : done ++ R ≡ E
  pub put : Puts o at done d k
  pub room : at + length E ≤ length o

pub putting-first : (E o : List ℕ) (at : ℕ) → at + length E ≤ length o → Putting E E o at o at
putting-first E o at h =
    record { done = []; whole = refl; put = puts_none o at (omega arith); room = h }

module _ {E R o d : List ℕ} {at k : ℕ} (f : Putting E R o at d k) where
  pub putting-length : length d ≡ length o
  putting-length = puts-length f.put

  -- what is left fits
  pub putting-room : k + length R ≤ length d
  putting-room =
      omega (
        arith,
        f.room,
        f.put.ends,
        putting-length,
        ap length f.whole,
        length-append f.done R,
      )

  -- the next piece fits
  pub putting-fit : (x S : List ℕ) → R ≡ x ++ S → k + length x ≤ length d
  putting-fit x S e = omega (arith, putting-room, ap length e, length-append x S)

  -- it is put
  pub putting-next : {to : List ℕ} {j : ℕ} (x S : List ℕ) → R ≡ x ++ S → Puts d k x to j → Putting E S o at to j
  putting-next x S e p = record {
    done = f.done ++ x;
    whole = append_assoc f.done x S ∙ ap (λ l. f.done ++ l) (sym e) ∙ f.whole;
    put = puts-more f.put p;
    room = f.room;
  }

  -- it is put by a plain `put`
  pub putting-plain : {to : List ℕ} (x S : List ℕ) → R ≡ x ++ S → to ≡ pasted d k x
      → Putting E S o at to (k + length x)
  putting-plain x S e p = putting-next x S e (puts_one x (k + length x) p refl (putting-fit x S e))

-- all is put
pub putting-last : {E o d : List ℕ} {at k : ℕ} → Putting E [] o at d k → Puts o at E d k
putting-last f = puts-as (sym (append-nil f.done) ∙ f.whole) f.put
