-- Laws of numbers in decimal digits: a loop keeps the number of the digits that it has passed, and what is left.
use Prim.Native.Nat.{ℕ, ◌+◌, ◌-◌, ◌*◌, ◌^◌, ◌≤◌, ◌<◌}
use mathlib.Core.Path.{◌≡◌, refl}
use mathlib.Core.List.{List}
use native.Mathlib.Nat.{pow-le-pow_right, pow-suc}
use native.Mathlib.Numerals.{add-one}
use native.Mathlib.Omega.{arith}
use lib.ListN.{length, get_or, drop, drop_of_length-le}
use lib.Seq.{drop-cons}
use Rattle.list_address.specs.Decimal.{worth}

module _ (s : List ℕ) (k n : ℕ) where
  pub worth-more : k < length s → worth (10 * n + (get_or s k 0 - 48)) (drop (k + 1) s) ≡ worth n (drop k s)
  unfolding worth
  worth-more h = rw (add-one k, drop-cons s k 0 h) refl

  pub worth-end : length s ≤ k → worth n (drop k s) ≡ n
  unfolding worth
  worth-end h = rw (drop_of_length-le s h) refl

-- five digits fit, also where a byte is no digit
pub small : (k n : ℕ) → k ≤ 4 → n + 30 ≤ 30 * 10 ^ k → n < 100000000
small k n h b = let p : 10 ^ k ≤ 10 ^ 4 = pow-le-pow_right (omega arith) h in omega arith

pub small-more : (k n m : ℕ) → m ≤ 10 * n + 255 → n + 30 ≤ 30 * 10 ^ k → m + 30 ≤ 30 * 10 ^ (k + 1)
small-more k n m h b = rw (add-one k, pow-suc 10 k) (omega arith)
