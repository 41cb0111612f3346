-- Words that are put one after the other: what the loop of `put_words` keeps.
use Prim.Native.Nat.{ℕ, ◌+◌, ◌*◌, ◌≤◌, ◌<◌}
use mathlib.Core.Path.{◌≡◌, sym, ap, ◌∙◌}
use mathlib.Core.List.{List, [], ◌∷◌, ◌++◌, append-nil}
use native.Mathlib.Nat.{add-zero}
use native.Mathlib.Numerals.{add-one}
use native.Mathlib.Omega.{arith}
use lib.ListN.{length, take, get_or}
use lib.Seq.{take-suc, take_all}
use Rattle.laws.specs.Numbers.{le_bytes}
use Rattle.laws.specs.Pasted.{pasted}
use Rattle.laws.specs.Written.{Puts}
use Rattle.laws.proofs.Written.{puts_none, puts-put, puts-as}
use Rattle.laws.proofs.Numbers.{length-le_bytes}
use Rattle.wire_message.specs.Encode.{words}
use Rattle.wire_message.proofs.Positions.{words_append}

-- one word
word-is : (x : ℕ) → words (x ∷ []) ≡ le_bytes 4 x
unfolding words
word-is x = append-nil (le_bytes 4 x)

module _ (o : List ℕ) (at : ℕ) (ws : List ℕ) where
  -- the first i words are put
  abbrev pub Worded : ℕ → List ℕ → Type 0
  Worded i d = Puts o at (words (take i ws)) d (at + 4 * i)

  pub worded-none : at ≤ length o → Worded 0 o
  unfolding words
  worded-none h = rw add-zero (puts_none o at h)

  -- one more, which code has as b
  pub worded-more : {i x : ℕ} {b d f : List ℕ} → Worded i d → i < length ws → at + 4 * length ws ≤ length o
      → b ≡ le_bytes 4 x → x ≡ get_or ws i 0 → f ≡ pasted d (at + 4 * i) b → Worded (i + 1) f
  worded-more {i} {x} w h room e g p =
      let word = p ∙ ap (pasted _ _) (e ∙ ap (le_bytes 4) g) in
      let put =
      puts-put (le_bytes 4 (get_or ws i 0)) (at + 4 * (i + 1)) w word (omega (arith, length-le_bytes 4 (get_or ws i 0)))
      (omega arith) in
      let next : words (take i ws) ++ le_bytes 4 (get_or ws i 0) ≡ words (take (i + 1) ws) =
      ap (λ (l : List ℕ). words (take i ws) ++ l) (sym (word-is (get_or ws i 0)))
      ∙ sym (words_append (take i ws) (get_or ws i 0 ∷ []))
      ∙ ap words (sym (take-suc ws i 0 h) ∙ ap (λ (n : ℕ). take n ws) (sym (add-one i))) in
      puts-as next put

  -- all are put
  pub worded-all : {i : ℕ} {d : List ℕ} → Worded i d → length ws ≤ i → d ≡ pasted o at (words ws)
  worded-all {i} w h = w.is ∙ ap (λ (l : List ℕ). pasted o at (words l)) (take_all i ws h)
