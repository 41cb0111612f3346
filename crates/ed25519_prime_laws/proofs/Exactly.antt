-- 32 bytes decode exactly where they are the encoding of a point of the curve, and then to that point.
use Prim.Native.Nat.{ℕ}
use mathlib.Core.Path.{◌≡◌, refl, sym, ap, ◌∙◌}
use mathlib.Core.Bool.{Bool, true, false, cond, true≢false}
use mathlib.Core.List.{List}
use mathlib.Core.Logic.{◌↔◌}
use lib.Dec.{ltb}
use lib.ListN.{length}
use Rattle.laws.specs.Bytes.{Bytes}
use Rattle.ed25519_field.specs.Field.{p}
use Rattle.ed25519_curve.specs.Points.{affine}
use Rattle.ed25519_point.specs.Decoding.{Root, Decoding, no_point, y_of, sign_of, recover_x, with_x, decode_of}
use Rattle.ed25519_point.proofs.OnCurve.{decoded}
use Rattle.ed25519_point.proofs.RoundTrip.{encode-decoded}
use Rattle.ed25519_prime_laws.specs.Encodes.{Encodes}
use Rattle.ed25519_prime_laws.proofs.EveryPoint.{decode-encoded}

-- the point (x, y), as an answer
abbrev pub point_at : ℕ → ℕ → Decoding
point_at x y = record { ok = true; point = affine x y }

-- an encoding decodes to its point
pub encoding-decodes : {s : List ℕ} {x y : ℕ} → Encodes s x y → decode_of s ≡ point_at x y
encoding-decodes {s} {x} {y} e =
    ap decode_of e.is ∙ decode-encoded x y e.x_below e.y-below e.on-curve

-- where decoding fails, the answer is no point
fails : (s : List ℕ) → (decode_of s).ok ≡ false → decode_of s ≡ no_point
unfolding decode_of
fails s e = pick (ltb (y_of s) p) (recover_x (y_of s) (sign_of s)) e
  where
    found : (ok : Bool) (x : ℕ) → (with_x (y_of s) (record { ok = ok; x = x })).ok ≡ false
        → with_x (y_of s) (record { ok = ok; x = x }) ≡ no_point
    found true x f = absurd (true≢false f)
    found false x f = refl

    pick : (b : Bool) (r : Root) → (cond b (with_x (y_of s) r) no_point).ok ≡ false
        → cond b (with_x (y_of s) r) no_point ≡ no_point
    pick true r f = found r.ok r.x f
    pick false r f = refl

module _ (s : List ℕ) (bytes : Bytes s) (long : length s ≡ 32) where
  -- what decodes is the encoding of the point that it decodes to
  decoded-encodes : (x y : ℕ) → decode_of s ≡ point_at x y → Encodes s x y
  decoded-encodes x y e =
      let h = decoded s (ap (λ (f : Decoding). f.ok) e) in
      let same : point_at _ _ ≡ point_at x y = sym h.is ∙ e in
      let x-is = ap (λ (f : Decoding). f.point.X) same in
      let y-is = ap (λ (f : Decoding). f.point.Y) same in
      rw (← x-is, ← y-is)
      (record {
        x_below = h.x_below;
        y-below = h.y-below;
        on-curve = h.on-curve;
        is = sym (encode-decoded s bytes long _ _ h);
      })

  -- The answer is a point exactly where s is the encoding of that point, and no point exactly where it is that of none.
  pub decodes-exactly :
      ((x y : ℕ) → decode_of s ≡ point_at x y ↔ Encodes s x y)
      × (decode_of s ≡ no_point ↔ ((x y : ℕ) → Encodes s x y → ⊥))
  decodes-exactly = (
    λ x y. (decoded-encodes x y, encoding-decodes),
    (
      λ e x y t. true≢false (ap (λ (f : Decoding). f.ok) (sym (encoding-decodes t) ∙ e)),
      λ none. fails s (pick (decode_of s).ok refl none),
    ),
  )
    where
      pick : (b : Bool) → (decode_of s).ok ≡ b → ((x y : ℕ) → Encodes s x y → ⊥) → b ≡ false
      pick true e none = absurd (none _ _ (decoded-encodes _ _ (decoded s e).is))
      pick false e none = refl
