-- A slice from a place on, as code lends it.
use Prim.Native.Nat.{ℕ, ◌-◌}
use mathlib.Core.Path.{◌≡◌}
use mathlib.Core.List.{List}
use native.Mathlib.Nat.{le_refl}
use lib.ListN.{length, take, drop, length-drop}
use lib.Seq.{take_all}

pub tail_all : (a : ℕ) (s : List ℕ) → take (length s - a) (drop a s) ≡ drop a s
tail_all a s = take_all (length s - a) (drop a s) (rw (length-drop a s) (le_refl (length s - a)))
