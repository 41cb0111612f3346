-- Laws for the writers of an object's members, with variables for what code holds.
use Prim.Native.Nat.{ℕ, ◌+◌, ◌≤◌}
use mathlib.Core.Path.{◌≡◌, sym}
use mathlib.Core.Bool.{Bool, true, false}
use mathlib.Core.List.{List}
use lib.ListN.{length}
use Rattle.laws.specs.Written.{Puts}
use Rattle.laws.proofs.Written.{puts-more}
use Rattle.pile.specs.Pile.{key_in, rand_in, request_packet, response_packet}
use Rattle.report_write.specs.Entries.{entry_of}
use Rattle.report_write.specs.Pieces.{first_word, rand_word, key_word, request_word, response_word}
use Rattle.report_write.specs.Pieces.{piece, head_of, packets_of}
use Rattle.report_write.proofs.Puts.{left-fits, right-fits}

module _ (r : List ℕ) (at : ℕ) {first : Bool} where
  pub head-only : {n : ℕ} → first ≡ true → at + length (head_of first (entry_of r)) ≤ n
      → at + length (piece first_word (key_in r)) ≤ n
  unfolding head_of entry_of
  head-only f h = rw f at h

  pub head-only-done : {o d : List ℕ} {e : ℕ} → first ≡ true → Puts o at (piece first_word (key_in r)) d e
      → Puts o at (head_of first (entry_of r)) d e
  unfolding head_of entry_of
  head-only-done f p = rw f p

  pub head-left : {n : ℕ} → first ≡ false → at + length (head_of first (entry_of r)) ≤ n
      → at + length (piece rand_word (rand_in r)) ≤ n
  unfolding head_of entry_of
  head-left f h = left-fits at (piece rand_word (rand_in r)) (piece key_word (key_in r)) (rw f at h)

  module _ {o d : List ℕ} {k : ℕ} (f : first ≡ false) (p : Puts o at (piece rand_word (rand_in r)) d k) where
    pub head-right : at + length (head_of first (entry_of r)) ≤ length o
        → k + length (piece key_word (key_in r)) ≤ length d
    unfolding head_of entry_of
    head-right h = right-fits (piece rand_word (rand_in r)) (piece key_word (key_in r)) p (rw f at h)

    pub head_done : {e : List ℕ} {x : ℕ} → Puts d k (piece key_word (key_in r)) e x
        → Puts o at (head_of first (entry_of r)) e x
    unfolding head_of entry_of
    head_done q = rw f (puts-more p q)

module _ (r : List ℕ) (at : ℕ) {x : List ℕ} (g : x ≡ request_packet r) where
  pub packets-left : {n : ℕ} → at + length (packets_of (entry_of r)) ≤ n → at + length (piece request_word x) ≤ n
  unfolding packets_of entry_of
  packets-left h = left-fits at (piece request_word x) (piece response_word (response_packet r)) (rw (sym g) at h)

  module _ {y o d : List ℕ} {k : ℕ} (i : y ≡ response_packet r) (p : Puts o at (piece request_word x) d k) where
    pub packets-right : at + length (packets_of (entry_of r)) ≤ length o → k + length (piece response_word y) ≤ length d
    unfolding packets_of entry_of
    packets-right h = right-fits (piece request_word x) (piece response_word y) p (rw (sym g, sym i) at h)

    pub packets-done : {e : List ℕ} {z : ℕ} → Puts d k (piece response_word y) e z
        → Puts o at (packets_of (entry_of r)) e z
    unfolding packets_of entry_of
    packets-done q = rw (sym g, sym i) (puts-more p q)
