-- The pieces of a record, one after the other, where the request is one that we write.
use Prim.Native.Nat.{ℕ, ◌-◌}
use mathlib.Core.Path.{◌≡◌}
use mathlib.Core.List.{List, ◌++◌, append_assoc}
use lib.ListN.{length, replicate}
use Rattle.pile.specs.Recording.{head_bytes, padded, record_bytes}

pub laid : (key rand q x : List ℕ) (m : ℕ) → length q ≡ 1036 → m ≡ 2000 - length x
    → head_bytes key rand 1036 (length x) ++ q ++ replicate 964 0 ++ x ++ replicate m 0 ≡ record_bytes key rand q x
unfolding record_bytes padded
laid key rand q x m n e = rw (n, e) (simp append_assoc)
