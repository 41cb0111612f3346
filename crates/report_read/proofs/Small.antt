-- Laws for the readers of a member's string: what its size says of it.
use Rattle.std.specs.Prelude.{None, Option, Some}
use Prim.Native.Nat.{ℕ, ◌+◌}
use mathlib.Core.Path.{◌≡◌, refl, sym, ◌∙◌}
use mathlib.Core.Bool.{Bool, true, false, true≢false}
use mathlib.Core.List.{List}
use native.Mathlib.Omega.{arith}
use lib.Dec.{eqb}
use lib.ListN.{length, get_or}
use borrow.Author.Tests.{eq-eqb, ne_eqb}
use Rattle.laws.specs.Pick.{pick, either}
use Rattle.json_values.specs.declared.Found.{Found}
use Rattle.json_values.specs.declared.Found.TheVariants.{At, Nothing, Twice}
use Rattle.json_strings.specs.Text.{content_at}
use Rattle.base64_strict.specs.Decode.{Decoded, bytes, none, decode64}
use Rattle.json_base64.specs.Sized.{size_of, good, plain}
use Rattle.report_read.specs.Entry.{string_of, decoded_at, is64, size_in, held, is32}
use Rattle.report_read.specs.Ready.{Measured, PartOf, Exact, Randed}

-- ---- What a size says of the bytes.
of-bytes : (d : Decoded) {n : ℕ} → Some n ≡ size_of 0 d → (eqb n 32 ≡ is32 d) × ((true ≡ good d) × (n ≡ length (plain d)))
unfolding is32
of-bytes (bytes y) {n} q = let z : n ≡ 0 + length y = cc in let u : n ≡ length y = omega arith in (rw u refl, (refl, u))
of-bytes none {n} q = let z : ◌≡◌ {A = ℕ} 0 1 = cc in absurd (omega arith)

of_none : (d : Decoded) → None ≡ size_of 0 d → good d ≡ false
of_none (bytes y) q = let z : ◌≡◌ {A = ℕ} 0 1 = cc in absurd (omega arith)
of_none none q = refl

no-32 : (d : Decoded) → is64 d ≡ false → is32 d ≡ false
unfolding is64 is32
no-32 (bytes y) e = absurd (true≢false e)
no-32 none e = refl

-- ---- The string at a place.
module _ (s : List ℕ) (v : ℕ) {b : ℕ} (e : b ≡ get_or s v 0) where
  pub part-not : (b ≡ 34 → ⊥) → is64 (decoded_at s (string_of s (At v))) ≡ false
  unfolding string_of pick is64
  part-not h = rw (sym e, ne_eqb b 34 h) refl

  module _ (h : b ≡ 34) where
    string-is : decode64 (content_at s (v + 1)) ≡ decoded_at s (string_of s (At v))
    unfolding string_of pick
    string-is = rw (sym e, h) refl

    pub part-good : {x : Option ℕ} {n : ℕ} → x ≡ size_of 0 (decode64 (content_at s (v + 1))) → x ≡ Some n
        → Measured s (At v) (v + 1) n
    unfolding size_in
    part-good g q = record { is = string-is; size = rw (sym string-is) (sym q ∙ g) }

    pub part-bad : {x : Option ℕ} → x ≡ size_of 0 (decode64 (content_at s (v + 1))) → x ≡ None
        → is64 (decoded_at s (string_of s (At v))) ≡ false
    unfolding is64
    part-bad g q = rw (sym string-is) (of_none (decode64 (content_at s (v + 1))) (sym q ∙ g))

-- ---- That of a member.
pub part-found : {f : Found} {v : ℕ} (s : List ℕ) (r : Option (ℕ × ℕ)) → f ≡ At v → PartOf s (At v) r → PartOf s f r
part-found s r e g = rw e g

pub part-nothing : {f : Found} (s : List ℕ) → f ≡ Nothing → is64 (decoded_at s (string_of s f)) ≡ false
unfolding string_of is64
part-nothing s e = rw e refl

pub part-twice : {f : Found} (s : List ℕ) → f ≡ Twice → is64 (decoded_at s (string_of s f)) ≡ false
unfolding string_of is64
part-twice s e = rw e refl

module _ {s : List ℕ} {f : Found} {p n : ℕ} (m : Measured s f p n) where
  pub exact-32 : n ≡ 32 → Exact s f (Some p)
  unfolding size_in
  exact-32 h = (m.is, sym (of-bytes (decoded_at s (string_of s f)) m.size).0 ∙ eq-eqb n 32 h)

  pub exact-other : (n ≡ 32 → ⊥) → Exact s f None
  unfolding size_in
  exact-other h = sym (of-bytes (decoded_at s (string_of s f)) m.size).0 ∙ ne_eqb n 32 h

  pub measured-64 : is64 (decoded_at s (string_of s f)) ≡ true
  unfolding size_in is64
  measured-64 = sym (of-bytes (decoded_at s (string_of s f)) m.size).1.0

  pub measured-length : n ≡ length (held (decoded_at s (string_of s f)))
  unfolding size_in held
  measured-length = (of-bytes (decoded_at s (string_of s f)) m.size).1.1

pub exact_none : (s : List ℕ) (f : Found) → is64 (decoded_at s (string_of s f)) ≡ false → Exact s f None
exact_none s f e = no-32 (decoded_at s (string_of s f)) e

pub randed-first : {first : Bool} (s : List ℕ) (f : Found) (p : ℕ) → first ≡ true → Randed s f first (Some p)
unfolding either
randed-first s f p h = (λ q. absurd (true≢false (sym h ∙ q)), rw h refl)

pub randed-later : {first : Bool} (s : List ℕ) (f : Found) (r : Option ℕ) → first ≡ false → Exact s f r → Randed s f first r
unfolding either
randed-later s f (Some p) h e = (λ q. e.0, rw h e.1)
randed-later s f None h e = rw h e
