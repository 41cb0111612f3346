-- Numbers in bytes, as the library says them.
use mathlib.Core.Path.{◌≡◌, ◌∙◌}
use mathlib.Core.List.{List}
use Prim.Native.Nat.{ℕ, ◌+◌, ◌<◌}
use native.Mathlib.Omega.{arith}
use native.Mathlib.Nat.{div-one}
use lib.ListN.{take, drop, get_or}
use lib.Seq.{get_or-drop, get_or-take}
use mir.Syntax.{w32, w64}
use Rattle.std.specs.Int.{from_le_bytes, from_be_bytes, to_le_bytes, to_be_bytes}
use Rattle.laws.specs.Numbers.{le, be, le_bytes, be_bytes}

module _ (s : List ℕ) (at : ℕ) where
  -- byte j of the n from at on
  byte : (n j : ℕ) → j < n → get_or (take n (drop at s)) j 0 ≡ get_or s (at + j) 0
  byte n j h = get_or-take n (drop at s) j 0 h ∙ get_or-drop at s j 0

  pub le_4 : (b : List ℕ) → b ≡ take 4 (drop at s) → from_le_bytes w32 b ≡ le 4 s at
  unfolding le
  le_4 b e =
      rw (e, byte 4 0 (omega arith), byte 4 1 (omega arith), byte 4 2 (omega arith), byte 4 3 (omega arith)) (omega arith)

  pub le_8 : (b : List ℕ) → b ≡ take 8 (drop at s) → from_le_bytes w64 b ≡ le 8 s at
  unfolding le
  le_8 b e =
      rw (e, byte 8 0 (omega arith), byte 8 1 (omega arith), byte 8 2 (omega arith), byte 8 3 (omega arith))
      (rw (byte 8 4 (omega arith), byte 8 5 (omega arith), byte 8 6 (omega arith), byte 8 7 (omega arith)) (omega arith))

  pub be_8 : (b : List ℕ) → b ≡ take 8 (drop at s) → from_be_bytes w64 b ≡ be 8 s at
  unfolding be
  be_8 b e =
      rw (e, byte 8 0 (omega arith), byte 8 1 (omega arith), byte 8 2 (omega arith), byte 8 3 (omega arith))
      (rw (byte 8 4 (omega arith), byte 8 5 (omega arith), byte 8 6 (omega arith), byte 8 7 (omega arith)) (omega arith))

-- written
pub to_be_8 : (n : ℕ) → to_be_bytes w64 n ≡ be_bytes 8 n
unfolding be_bytes
to_be_8 n = simp div-one

pub to_le_4 : (n : ℕ) → to_le_bytes w32 n ≡ le_bytes 4 n
unfolding le_bytes
to_le_4 n = grind arith

pub to_le_8 : (n : ℕ) → to_le_bytes w64 n ≡ le_bytes 8 n
unfolding le_bytes
to_le_8 n = grind arith
