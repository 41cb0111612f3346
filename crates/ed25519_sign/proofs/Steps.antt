-- The steps of signing, one after the other, make what 5.1.5 and 5.1.6 define.
use Prim.Native.Nat.{ℕ, ◌+◌, ◌*◌, ◌%◌, ◌^◌, ◌≤◌, ◌<◌}
use mathlib.Core.Path.{◌≡◌, sym, ap, ap₂, ◌∙◌}
use mathlib.Core.List.{List, ◌++◌}
use native.Mathlib.Omega.{arith}
use borrow.Author.Tests.{lt-ltb, le-ltb}
use lib.ListN.{length, take, drop, replicate, length-drop, length-replicate}
use lib.Seq.{take_all}
use Rattle.laws.specs.Numbers.{le, le_bytes}
use Rattle.laws.specs.Pasted.{pasted}
use Rattle.laws.proofs.Pasted.{pasted-twice}
use Rattle.digits.specs.Digits.{value}
use Rattle.digits.proofs.Numbers.{le-bytes}
use Rattle.sha512.specs.Computation.{Sha512}
use Rattle.sha512.proofs.Digested.{Sha512-long}
use Rattle.ed25519_field.specs.Limbs.{radix}
use Rattle.ed25519_scalar.specs.Order.{L}
use Rattle.ed25519.specs.Verification.{k_of}
use Rattle.ed25519_sign.specs.declared.Secret.{Secret}
use Rattle.ed25519_sign.specs.declared.First.{First}
use Rattle.ed25519_sign.specs.Signing.{pruned, scalar_of, prefix_of, encoded_times, public_of, r_of, first_half}
use Rattle.ed25519_sign.specs.Signing.{number_s, signature_of, signature_parts}
use Rattle.ed25519_sign.specs.Steps.{Expanded, Begun}

-- ---- a seed, of which h is the digest

module _ (seed h : List ℕ) (h-is : h ≡ Sha512 seed) where
  pub scalar-number : (s : List ℕ) → s ≡ pruned (take 32 h) → length s ≡ 32 → value 256 s ≡ scalar_of seed
  unfolding scalar_of
  scalar-number s e long =
      sym (le-bytes 32 s long) ∙ ap (λ (l : List ℕ). le 32 l 0) (e ∙ ap (λ (d : List ℕ). pruned (take 32 d)) h-is)

  pub prefix-half : (s : List ℕ) → s ≡ take 32 (drop 32 h) → s ≡ prefix_of seed
  prefix-half s e =
      e ∙ ap (λ (d : List ℕ). take 32 (drop 32 d)) h-is
      ∙ take_all 32 (drop 32 (Sha512 seed)) (omega (arith, length-drop 32 (Sha512 seed), Sha512-long seed))

-- ---- what is made of what the seed is expanded to

module _ (seed : List ℕ) (e : Secret) (a : List ℕ) (expanded : Expanded seed e) where
  pub public-is : a ≡ encoded_times (value 256 e.scalar) → a ≡ public_of seed
  unfolding public_of
  public-is a-is = a-is ∙ ap encoded_times expanded.scalar_is

  pub signature-is : a ≡ public_of seed → (m : List ℕ) (f : First) (s b : List ℕ) → Begun (e.prefix ++ m) f
      → s ≡ le_bytes 32 ((value radix f.number + k_of f.string a m * value 256 e.scalar) % L)
      → b ≡ f.string ++ s → b ≡ signature_of seed m
  unfolding signature_of number_s first_half r_of
  signature-is a-is m f s b begun s-is b-is =
      let with : List ℕ → ℕ = λ (l : List ℕ). le 64 (Sha512 (l ++ m)) 0 % L in
      let r-is : with e.prefix ≡ r_of seed m = ap with expanded.prefix-is in
      let number : value radix f.number ≡ r_of seed m = begun.number.is ∙ r-is in
      let string : f.string ≡ first_half seed m = begun.string-is ∙ ap encoded_times r-is in
      b-is ∙ ap₂ (λ (x y : List ℕ). x ++ y) string
      (s-is ∙ (rw (number, string, a-is, expanded.scalar_is)))

-- ---- the halves in one buffer, and the text in two parts

-- n is the buffer once r is put, and b once s is
pub joined_is : (r s n b : List ℕ) → length r ≡ 32 → length s ≡ 32 → n ≡ pasted (replicate 64 0) 0 r → b ≡ pasted n 32 s
    → b ≡ r ++ s
joined_is r s n b r-long s-long n-is b-is =
    b-is ∙ ap (λ (l : List ℕ). pasted l 32 s) n-is
    ∙ pasted-twice (replicate 64 0) r s 0 32 (omega arith) (omega (arith, length-replicate {A = ℕ} 64 0))

module _ (seed context text : List ℕ) where
  pub too_long : 2 ^ 64 ≤ 64 + (length context + length text) → replicate 64 0 ≡ signature_parts seed context text
  unfolding signature_parts
  too_long h = rw (le-ltb (64 + (length context + length text)) (2 ^ 64) h)

  pub parts_whole : 64 + (length context + length text) < 2 ^ 64
      → signature_parts seed context text ≡ signature_of seed (context ++ text)
  unfolding signature_parts
  parts_whole h = rw (lt-ltb (64 + (length context + length text)) (2 ^ 64) h)
