-- What a run's length is.
use Prim.Native.Nat.{ℕ, ◌≤◌, ◌<◌}
use mathlib.Core.Path.{◌≡◌, refl, sym, ◌∙◌}
use mathlib.Core.Bool.{Bool, true, false, not, true≢false}
use mathlib.Core.List.{List}
use borrow.Author.Tests.{leb-true, le-leb, not-false}
use lib.ListN.{length}
use Rattle.laws.specs.Pick.{both}
use Rattle.list_address.specs.Runs.{every, is_run}

pub both_first : (p q : Bool) → both p q ≡ true → p ≡ true
unfolding both
both_first true q e = refl
both_first false q e = e

pub both-second : (p q : Bool) → both p q ≡ true → q ≡ true
unfolding both
both-second true q e = e
both-second false q e = absurd (true≢false (sym e))

-- a run that code has as t has at most n bytes
pub run_long : {t : Bool} (p : ℕ → Bool) (n : ℕ) (x : List ℕ) → t ≡ is_run p n x → not t ≡ false → length x ≤ n
unfolding is_run
run_long {t} p n x e h =
    leb-true _ _ (both_first _ _ (both-second _ _ (sym e ∙ not-false t h)))

pub run-every : (p : ℕ → Bool) (n : ℕ) (x : List ℕ) → 0 < length x → length x ≤ n → every p x ≡ is_run p n x
unfolding is_run both
run-every p n x h g = rw (le-leb 1 (length x) h, le-leb (length x) n g) refl
