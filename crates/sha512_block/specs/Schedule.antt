-- FIPS 180-4, section 6.4.2, step 1: the message schedule of a block b.
use Rattle.std.specs.Prelude.{ℕ, zero, suc, ◌-◌, ◌*◌, cond, List, [], ◌∷◌, ◌++◌, nat_lt, slice_index}
use Rattle.laws.specs.Numbers.{be}
use Rattle.sha512_block.specs.Words.{add64, σ0, σ1}

-- M t, the block's word t
abbrev pub block_word : List ℕ → ℕ → ℕ
block_word b t = be 8 b (8 * t)

-- σ1 (W (t - 2)) + W (t - 7) + σ0 (W (t - 15)) + W (t - 16), where w has the words before W t
abbrev pub mixed : List ℕ → ℕ → ℕ
mixed w t =
    add64 (add64 (add64 (σ1 (slice_index w (t - 2))) (slice_index w (t - 7))) (σ0 (slice_index w (t - 15)))) (slice_index w (t - 16))

-- W 0 .. W (t - 1): W i is M i for i below 16, and mixed from there on
unfoldable pub first_words : List ℕ → ℕ → List ℕ
first_words b zero = []
first_words b (suc t) = first_words b t ++ (cond (nat_lt t 16) (block_word b t) (mixed (first_words b t) t) ∷ [])

-- all eighty
unfoldable pub schedule : List ℕ → List ℕ
schedule b = first_words b 80
