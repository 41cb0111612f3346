-- Laws of a byte in front of a slice: the first block, which code puts together, and the rest, which it reads in place.
use Rattle.std.proofs.Common.{◌≡◌, ℕ, ◌+◌, ◌-◌, ◌%◌, ◌<◌, ◌≤◌, List, ◌∷◌, ◌++◌, length, take, drop, replicate, sym, refl, ap, ◌∙◌, ap₂, append_assoc, add-one, arith, length-drop, take-append-drop, length-take-le, take_all}
use Rattle.laws.specs.Pasted.{pasted}
use Rattle.laws.proofs.Pasted.{take-pasted, pasted-end}
use Rattle.sha512_block.specs.HashValue.{hashed}
use Rattle.sha512_block.proofs.HashValue.{hashed-split, hashed-rest}
use Rattle.sha512.specs.Padding.{padding}
use Rattle.sha512.specs.State.{rest_of}

-- the byte v alone in a block
abbrev pub alone : ℕ → List ℕ
alone v = v ∷ replicate 127 0

module _ (v : ℕ) (a b : List ℕ) where
  -- a slice that fills no block
  pub tagged-short : length a < 127 → b ≡ pasted (alone v) 1 a → take (length a + 1) b ≡ v ∷ a
  tagged-short l b-is =
      ap (take (length a + 1)) b-is ∙ take-pasted (alone v) a 1 (length a + 1) (omega arith) (omega arith)

  -- one that does: the hash value after the first block, then after the blocks of what is left, t, and then after what
  -- is left of that and the padding
  pub tagged-long : (h t : List ℕ) → 127 ≤ length a
      → b ≡ pasted (alone v) 1 (take 127 a)
      → t ≡ take (length a - 127) (drop 127 a)
      → hashed (hashed (hashed h b) t)
      (take (length t - (length t - length t % 128)) (rest_of t) ++ padding (length a + 1))
      ≡ hashed h ((v ∷ a) ++ padding (length (v ∷ a)))
  tagged-long h t l b-is t-is =
      let e : ℕ = length t - length t % 128 in
      let z : List ℕ = padding (length a + 1) in
      let al : length (take 127 a) ≡ 127 = length-take-le 127 a l in
      let front : b ≡ v ∷ take 127 a = b-is ∙ pasted-end (alone v) (take 127 a) 1 (omega arith) in
      let bl : length b ≡ 128 = ap length front ∙ (omega arith) in
      let dl : length (drop 127 a) ≡ length a - 127 = length-drop 127 a in
      let back : t ≡ drop 127 a = t-is ∙ take_all (length a - 127) (drop 127 a) (omega arith) in
      let whole : b ++ t ≡ v ∷ a =
      (ap₂ (λ (x y : List ℕ). x ++ y) front back ∙ ap (λ (x : List ℕ). v ∷ x) (take-append-drop 127 a)) in
      hashed-rest (hashed h b) t z (take (length t - e) (rest_of t)) e refl refl
      ∙ sym (hashed-split h b (t ++ z) 1 bl)
      ∙ ap (hashed h) (sym (append_assoc b t z))
      ∙ ap₂ (λ (x : List ℕ) (n : ℕ). hashed h (x ++ padding n)) whole (add-one (length a))
