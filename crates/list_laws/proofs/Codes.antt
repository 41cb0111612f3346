-- 24 is told exactly where a text is no server list by 8.3's sentences.
use Prim.Native.Nat.{ℕ}
use mathlib.Core.Path.{◌≡◌, refl}
use mathlib.Core.Bool.{Bool, true, false}
use mathlib.Core.List.{List}
use mathlib.Core.Logic.{◌↔◌}
use native.Mathlib.Omega.{arith}
use Rattle.laws.specs.Pick.{pick}
use Rattle.list_read.specs.Listed.{Listed, Lists, this, unread, list_of}
use Rattle.list_read.specs.Read.{size_code, list_code}
use Rattle.list_laws.specs.Listing.{ListText}
use Rattle.list_laws.proofs.Listed.{unlisted-exactly}

other-code : (a b c : Bool) → ◌≡◌ {A = ℕ} (pick a 25 (pick b 25 (pick c 25 0))) 24 → ⊥
unfolding pick
other-code true b c e = omega arith
other-code false true c e = omega arith
other-code false false true e = omega arith
other-code false false false e = omega arith

code-unread : (x : Lists) → list_code x ≡ 24 → x ≡ unread
unfolding list_code size_code
code-unread (this l) e = absurd (other-code _ _ _ e)
code-unread unread e = refl

unread-code : (x : Lists) → x ≡ unread → list_code x ≡ 24
unfolding list_code
unread-code x e = rw e refl

pub no-list-exactly : (s : List ℕ) → (list_code (list_of s) ≡ 24) ↔ ((l : Listed) → ListText s l → ⊥)
no-list-exactly s = (
  λ e. (unlisted-exactly s).0 (code-unread (list_of s) e),
  λ f. unread-code (list_of s) ((unlisted-exactly s).1 f),
)
