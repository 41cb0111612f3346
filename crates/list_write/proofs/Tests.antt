-- Laws of tests that code makes one after the other, and of the line of an address.
use Prim.Native.Nat.{ℕ, ◌-◌, ◌≤◌, ◌<◌}
use mathlib.Core.Path.{◌≡◌, refl, sym, ◌∙◌, ap}
use mathlib.Core.Bool.{Bool, true, false, not}
use mathlib.Core.List.{List}
use native.Mathlib.Nat.{le_refl}
use native.Mathlib.Omega.{arith}
use lib.ListN.{length, take, drop, length-take, length-drop}
use lib.Seq.{take_all}
use lib.Dec.{leb}
use borrow.Author.Tests.{not-true, not-false, lt-leb, le-leb}
use Rattle.laws.specs.Ascii.{ascii}
use Rattle.laws.specs.Pick.{either, both}
use Rattle.laws.specs.Same.{same}
use Rattle.laws.proofs.Same.{same-lengths, same_true}
use Rattle.list_address.specs.Address.{is_address}
use Rattle.list_write.specs.Lines.{is_protocol, is_address_line}

-- the first of two tests, which code has as t, fails or holds
pub and-fails : {t a : Bool} (b : Bool) → t ≡ a → not t ≡ true → false ≡ both a b
unfolding both
and-fails {t} b e h = rw (sym e ∙ not-true t h) refl

pub and-goes : {t a r b : Bool} → t ≡ a → not t ≡ false → r ≡ b → r ≡ both a b
unfolding both
and-goes {t} e h g = rw (sym e ∙ not-false t h) g

pub or-holds : {t a : Bool} (b : Bool) → t ≡ a → t ≡ true → true ≡ either a b
unfolding either
or-holds b e h = rw (sym e ∙ h) refl

pub or-goes : {t a r b : Bool} → t ≡ a → t ≡ false → r ≡ b → r ≡ either a b
unfolding either
or-goes e h g = rw (sym e ∙ h) g

-- what stands from n on, as code has it
pub rest-is : (t : List ℕ) (n : ℕ) → take (length t - n) (drop n t) ≡ drop n t
rest-is t n = take_all (length t - n) (drop n t) (simp length-drop (le_refl _))

-- ---- The line of an address.
no_word : (w v : List ℕ) → length w < length v → same w v ≡ false
no_word w v h = same-lengths w v (λ e. omega arith)

module _ (t : List ℕ) where
  pub short-line : length t < 4 → false ≡ is_address_line t
  unfolding is_address_line is_protocol both either
  short-line h =
      let l : length (take 4 t) < 4 = omega (arith, length-take 4 t) in
      rw (no_word (take 4 t) (ascii "udp ") l, no_word (take 4 t) (ascii "tcp ") l) refl

  pub other-line : {b : Bool} → b ≡ is_protocol (take 4 t) → not b ≡ true → false ≡ is_address_line t
  unfolding is_address_line
  other-line e h = and-fails _ e h

  pub long-line : {b : Bool} → b ≡ is_protocol (take 4 t) → not b ≡ false → 2048 < length t - 4
      → false ≡ is_address_line t
  unfolding is_address_line both
  long-line e h g = and-goes e h (rw (lt-leb (length (drop 4 t)) 2048 (omega (arith, length-drop 4 t))) refl)

  pub address_line : {b r : Bool} → b ≡ is_protocol (take 4 t) → not b ≡ false → length t - 4 ≤ 2048 → 4 ≤ length t
      → r ≡ is_address (take (length t - 4) (drop 4 t)) → r ≡ is_address_line t
  unfolding is_address_line both
  address_line e h g k f =
      and-goes e h (rw (le-leb (length (drop 4 t)) 2048 (omega (arith, length-drop 4 t))) (f ∙ ap is_address (rest-is
      t 4)))

  -- such a line has a protocol and a blank
  pub line-long : is_address_line t ≡ true → 4 ≤ length t
  unfolding is_address_line is_protocol both either
  line-long h = by (same (take 4 t) (ascii "udp ")) (same (take 4 t) (ascii "tcp ")) refl refl h
    where
      no : false ≡ true → ⊥
      no y = let w : ◌≡◌ {A = ℕ} 0 1 = cc in omega arith

      four : (w : List ℕ) → same (take 4 t) w ≡ true → length w ≡ 4 → 4 ≤ length t
      four w e l = omega (arith, ap length (same_true (take 4 t) w e), length-take 4 t)

      by : (a b : Bool) → same (take 4 t) (ascii "udp ") ≡ a → same (take 4 t) (ascii "tcp ") ≡ b
          → both (either a b) (both (leb (length (drop 4 t)) 2048) (is_address (drop 4 t))) ≡ true → 4 ≤ length t
      by true b e f z = four (ascii "udp ") e refl
      by false true e f z = four (ascii "tcp ") f refl
      by false false e f z = absurd (no z)
