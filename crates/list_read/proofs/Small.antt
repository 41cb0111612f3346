-- Laws for the returns of the small readers: tests one after the other, the size of a string, a member that was found.
use Rattle.std.specs.Prelude.{None, Option, Some}
use Prim.Native.Char.{code}
use Prim.Native.Nat.{ℕ, ◌+◌, ◌≤◌, ◌<◌}
use mathlib.Core.Path.{◌≡◌, refl, sym, ◌∙◌, ap}
use mathlib.Core.Bool.{Bool, true, false, not}
use mathlib.Core.List.{List}
use native.Mathlib.Omega.{arith}
use lib.Dec.{eqb, ltb}
use lib.ListN.{length, get_or}
use borrow.Author.Tests.{eq-eqb, ne_eqb, lt-ltb, le-ltb, not-true, not-false}
use Rattle.laws.specs.Pick.{pick, either, both}
use Rattle.json_values.specs.declared.Found.{Found}
use Rattle.json_values.specs.declared.Found.TheVariants.{At, Nothing, Twice}
use Rattle.base64_strict.specs.Decode.{Decoded, bytes, none}
use Rattle.json_base64.specs.Sized.{size_of, good, plain}
use Rattle.report_read.specs.Entry.{string_of, is64, size_in, held, list_of}

pub both-no : {t b : Bool} (q : Bool) → t ≡ b → not t ≡ true → false ≡ both b q
unfolding both
both-no {t} q e h = rw (sym e ∙ not-true t h) refl

pub both-on : {t b r q : Bool} → t ≡ b → not t ≡ false → r ≡ q → r ≡ both b q
unfolding both
both-on {t} e h g = rw (sym e ∙ not-false t h) g

pub both-no-eq : {k m n : ℕ} (q : Bool) → k ≡ m → (k ≡ n → ⊥) → false ≡ both (eqb m n) q
unfolding both
both-no-eq {k} {m} {n} q e h = rw (ne_eqb m n (λ z. h (e ∙ z))) refl

pub both-on-eq : {k m n : ℕ} {r q : Bool} → k ≡ m → k ≡ n → r ≡ q → r ≡ both (eqb m n) q
unfolding both
both-on-eq {k} {m} {n} e h g = rw (eq-eqb m n (sym e ∙ h)) g

pub either-here : {t b : Bool} (q : Bool) → t ≡ b → t ≡ true → true ≡ either b q
unfolding either
either-here q e h = rw (sym e ∙ h) refl

pub either-on : {t b r q : Bool} → t ≡ b → t ≡ false → r ≡ q → r ≡ either b q
unfolding either
either-on e h g = rw (sym e ∙ h) g

pub either_lt : {k m n : ℕ} (q : Bool) → k ≡ m → n < k → true ≡ either (ltb n m) q
unfolding either
either_lt {k} {m} {n} q e h = rw (lt-ltb n m (omega arith)) refl

pub either-le : {k m n : ℕ} {r q : Bool} → k ≡ m → k ≤ n → r ≡ q → r ≡ either (ltb n m) q
unfolding either
either-le {k} {m} {n} e h g = rw (le-ltb n m (omega arith)) g

pub either_true : (q : Bool) {b : Bool} → b ≡ true → true ≡ either b q
unfolding either
either_true q h = rw h refl

pub either-false : {b r q : Bool} → b ≡ false → r ≡ q → r ≡ either b q
unfolding either
either-false h g = rw h g

pub lt_same : {k m : ℕ} (n : ℕ) → k ≡ m → ltb n k ≡ ltb n m
lt_same n e = ap (ltb n) e

pub ruleset tests = (
  lt_same,
  both-no,
  both-on,
  both-no-eq,
  both-on-eq,
  either-here,
  either-on,
  either_lt,
  either-le,
  either_true,
  either-false,
  refl,
)

-- ---- What a size says of the bytes.
of-bytes : (d : Decoded) {n : ℕ} → Some n ≡ size_of 0 d → (true ≡ good d) × (n ≡ length (plain d))
of-bytes (bytes y) {n} q = let z : n ≡ 0 + length y = cc in let u : n ≡ length y = omega arith in (refl, u)
of-bytes none {n} q = let z : ◌≡◌ {A = ℕ} 0 1 = cc in absurd (omega arith)

of_none : (d : Decoded) → None ≡ size_of 0 d → false ≡ good d
of_none (bytes y) q = let z : ◌≡◌ {A = ℕ} 0 1 = cc in absurd (omega arith)
of_none none q = refl

module _ (d : Decoded) {x : Option ℕ} (e : x ≡ size_in d) where
  pub size-good : {n : ℕ} → x ≡ Some n → true ≡ is64 d
  unfolding size_in is64
  size-good {n} h = (of-bytes d (sym h ∙ e)).0

  pub size-no-good : x ≡ None → false ≡ is64 d
  unfolding size_in is64
  size-no-good h = of_none d (sym h ∙ e)

  pub size-length : {n : ℕ} → x ≡ Some n → n ≡ length (held d)
  unfolding size_in held
  size-length {n} h = (of-bytes d (sym h ∙ e)).1

-- ---- A member that was found.
module _ (s : List ℕ) {x y : Found} (e : x ≡ y) where
  pub string-at : {v : ℕ} {r : Option ℕ} → x ≡ At v → r ≡ pick (eqb (get_or s v 0) (code "\"")) (Some (v + 1)) None → r ≡ string_of s y
  unfolding string_of
  string-at h g = rw (sym e ∙ h) g

  pub string-none : x ≡ Nothing → None ≡ string_of s y
  unfolding string_of
  string-none h = rw (sym e ∙ h) refl

  pub string-twice : x ≡ Twice → None ≡ string_of s y
  unfolding string_of
  string-twice h = rw (sym e ∙ h) refl

  pub list_at : {v : ℕ} {r : Option ℕ} → x ≡ At v → r ≡ pick (eqb (get_or s v 0) (code "[")) (Some v) None → r ≡ list_of s y
  unfolding list_of
  list_at h g = rw (sym e ∙ h) g

  pub list-none : x ≡ Nothing → None ≡ list_of s y
  unfolding list_of
  list-none h = rw (sym e ∙ h) refl

  pub list-twice : x ≡ Twice → None ≡ list_of s y
  unfolding list_of
  list-twice h = rw (sym e ∙ h) refl

pub ruleset finds = (string-at, string-none, string-twice, list_at, list-none, list-twice)
