-- A text that decodes is the encoding of what it decodes to: padding and spare bits leave no second spelling.
use Rattle.std.specs.Prelude.{None, Option, Some}
use Prim.Native.Nat.{ℕ, ◌+◌, ◌*◌, ◌/◌, ◌%◌, ◌<◌}
use mathlib.Core.Path.{◌≡◌, refl, sym, ◌∙◌, ap, ap₂}
use mathlib.Core.Bool.{Bool, true, false}
use mathlib.Core.List.{List, [], ◌∷◌, ◌++◌}
use native.Mathlib.Omega.{arith}
use borrow.Author.Tests.{eqb-true, eqb-false}
use lib.Dec.{T, eqb}
use Rattle.laws.specs.Pick.{pick}
use Rattle.base64_strict.specs.declared.Group.{Group}
use Rattle.base64_strict.specs.declared.Group.TheVariants.{Three, Two, One}
use Rattle.base64_strict.specs.Alphabet.{letter_of, sextet_of, pad}
use Rattle.base64_strict.specs.Encode.{encode_one, encode_two, encode_three, encode64}
use Rattle.base64_strict.specs.Decode.{Decoded, bytes, none, with_group, high, middle, low, one_of, two_of, three_of, group_of}
use Rattle.base64_strict.specs.Decode.{decode64}
use Rattle.base64_strict.proofs.Tables.{back-letter}

small : (c : ℕ) → eqb (sextet_of c) 64 ≡ false → (letter_of (sextet_of c) ≡ c) × (sextet_of c < 64)
small c f = back-letter c (eqb-false (sextet_of c) 64 f)

by-pick : (P : Option Group → Type 0) (b : Bool) (x y : Option Group) → (b ≡ true → P x) → (b ≡ false → P y) → P (pick b x y)
unfolding pick
by-pick P true x y f g = f refl
by-pick P false x y f g = g refl

abbrev Spelt : ℕ → ℕ → ℕ → ℕ → Option Group → Type 0
Spelt a b c d (Some (Three x y z)) = encode_three x y z ≡ a ∷ b ∷ c ∷ d ∷ []
Spelt a b c d (Some (Two x y)) = encode_two x y ≡ a ∷ b ∷ c ∷ d ∷ []
Spelt a b c d (Some (One x)) = encode_one x ≡ a ∷ b ∷ c ∷ d ∷ []
Spelt a b c d None = T true

three-spelt : (p q r t a b c d : ℕ) → p < 64 → q < 64 → r < 64 → t < 64 → letter_of p ≡ a → letter_of q ≡ b
    → letter_of r ≡ c → letter_of t ≡ d
    → encode_three (high p q) (middle q r) (low r t) ≡ a ∷ b ∷ c ∷ d ∷ []
three-spelt p q r t a b c d hp hq hr ht ha hb hc hd =
    let e₁ : high p q / 4 ≡ p = omega arith in
    let e₂ : high p q % 4 * 16 + middle q r / 16 ≡ q = omega arith in
    let e₃ : middle q r % 16 * 4 + low r t / 64 ≡ r = omega arith in
    let e₄ : low r t % 64 ≡ t = omega arith in
    rw (e₁, e₂, e₃, e₄, ha, hb, hc, hd) refl

two-spelt : (p q r a b c d : ℕ) → p < 64 → q < 64 → r < 64 → r % 4 ≡ 0 → letter_of p ≡ a → letter_of q ≡ b
    → letter_of r ≡ c → d ≡ pad
    → encode_two (high p q) (middle q r) ≡ a ∷ b ∷ c ∷ d ∷ []
two-spelt p q r a b c d hp hq hr h ha hb hc hd =
    let e₁ : high p q / 4 ≡ p = omega arith in
    let e₂ : high p q % 4 * 16 + middle q r / 16 ≡ q = omega arith in
    let e₃ : middle q r % 16 * 4 ≡ r = omega arith in
    rw (e₁, e₂, e₃, ha, hb, hc, hd) refl

one-spelt : (p q a b c d : ℕ) → p < 64 → q < 64 → q % 16 ≡ 0 → letter_of p ≡ a → letter_of q ≡ b → c ≡ pad → d ≡ pad
    → encode_one (high p q) ≡ a ∷ b ∷ c ∷ d ∷ []
one-spelt p q a b c d hp hq h ha hb hc hd =
    let e₁ : high p q / 4 ≡ p = omega arith in
    let e₂ : high p q % 4 * 16 ≡ q = omega arith in
    rw (e₁, e₂, ha, hb, hc, hd) refl

spelt : (a b c d : ℕ) → Spelt a b c d (group_of a b c d)
unfolding group_of one_of two_of three_of
spelt a b c d =
    by-pick (Spelt a b c d) _ _ _ (λ e. tt) (λ ha. let p = small a ha in
    by-pick (Spelt a b c d) _ _ _ (λ e. tt) (λ hb. let q = small b hb in
    by-pick (Spelt a b c d) _ _ _
    (λ hd. by-pick (Spelt a b c d) _ _ _
    (λ hc. by-pick (Spelt a b c d) _ _ _
    (λ g. one-spelt (sextet_of a) (sextet_of b) a b c d p.1 q.1 (eqb-true _ _ g) p.0 q.0 (eqb-true c pad hc)
    (eqb-true d pad hd))
    (λ g. tt))
    (λ hc. by-pick (Spelt a b c d) _ _ _ (λ g. tt) (λ hr. let r = small c hr in by-pick (Spelt a b c d) _ _ _
    (λ g. two-spelt (sextet_of a) (sextet_of b) (sextet_of c) a b c d p.1 q.1 r.1 (eqb-true _ _ g) p.0 q.0
    r.0 (eqb-true d pad hd))
    (λ g. tt))))
    (λ hd. by-pick (Spelt a b c d) _ _ _ (λ g. tt) (λ hr. let r = small c hr in
    by-pick (Spelt a b c d) _ _ _ (λ g. tt) (λ ht. let t = small d ht in
    three-spelt (sextet_of a) (sextet_of b) (sextet_of c) (sextet_of d) a b c d p.1 q.1 r.1 t.1 p.0 q.0
    r.0 t.0)))))

abbrev Encodes : List ℕ → Decoded → Type 0
Encodes s (bytes x) = encode64 x ≡ s
Encodes s none = T true

join : (a b c d : ℕ) (g : Option Group) (l : List ℕ) (m : Decoded) → Spelt a b c d g → Encodes l m
    → Encodes (a ∷ b ∷ c ∷ d ∷ l) (with_group g l m)
unfolding encode64
join a b c d (Some (Three x y z)) l (bytes m) h i = ap₂ (λ u v. u ++ v) h i
join a b c d (Some (Three x y z)) l none h i = tt
join a b c d (Some (Two x y)) [] m h i = h
join a b c d (Some (Two x y)) (k ∷ l) m h i = tt
join a b c d (Some (One x)) [] m h i = h
join a b c d (Some (One x)) (k ∷ l) m h i = tt
join a b c d None l m h i = tt

encodes : (s : List ℕ) → Encodes s (decode64 s)
unfolding decode64 encode64
encodes [] = refl
encodes (a ∷ []) = tt
encodes (a ∷ b ∷ []) = tt
encodes (a ∷ b ∷ c ∷ []) = tt
encodes (a ∷ b ∷ c ∷ d ∷ xs) = join a b c d (group_of a b c d) xs (decode64 xs) (spelt a b c d) (encodes xs)

-- what decodes is the encoding of what it decodes to
pub encode-decode : (s x : List ℕ) → decode64 s ≡ bytes x → encode64 x ≡ s
encode-decode s x e = rw e at (encodes s)

-- a text decodes to one byte string at most
pub one-string : (s x y : List ℕ) → decode64 s ≡ bytes x → decode64 s ≡ bytes y → x ≡ y
one-string s x y e f = ap (λ (d : Decoded). plain d) (sym e ∙ f)
  where
    plain : Decoded → List ℕ
    plain (bytes z) = z
    plain none = []

-- and one text alone decodes to a byte string
pub one-text : (s t x : List ℕ) → decode64 s ≡ bytes x → decode64 t ≡ bytes x → s ≡ t
one-text s t x e f = sym (encode-decode s x e) ∙ encode-decode t x f
