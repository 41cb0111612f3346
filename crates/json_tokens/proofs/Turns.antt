-- Laws about `walked` and `starts`, over the turn. A turn goes forth if it starts inside a text of L bytes and ends
-- further on.
use Rattle.std.specs.Prelude.{None, Option, Some}
use Prim.Native.Nat.{ℕ, zero, suc, ◌-◌, ◌≤◌, ◌<◌}
use mathlib.Core.Path.{◌≡◌, refl, sym, ◌∙◌, ap}
use mathlib.Core.Bool.{true}
use mathlib.Core.List.{[], ◌∷◌}
use native.Mathlib.Nat.{not-suc-le-zero}
use native.Mathlib.Omega.{arith}
use lib.Dec.{T}
use Rattle.json_tokens.specs.declared.Step.{Step}
use Rattle.json_tokens.specs.declared.Step.TheVariants.{More, End, Wrong}
use Rattle.json_tokens.specs.Walk.{onward, walk, walked, more_of, starts}

-- a reader that does not go back
abbrev pub Ahead : ℕ → Option ℕ → Type 0
Ahead k (Some e) = k ≤ e
Ahead k None = T true

abbrev pub Forth : ℕ → ℕ → Step → Type 0
Forth L k (More j) = (k < j) × (k < L)
Forth L k (End e) = k ≤ e
Forth L k Wrong = T true

pub back : (r : Option ℕ) (j k : ℕ) → k ≤ j → Ahead j r → Ahead k r
back (Some e) j k h g = omega arith
back None j k h g = tt

module _ (L : ℕ) (f : ℕ → Step) (forth : (k : ℕ) → Forth L k (f k)) where
  -- more turns than bytes are left change nothing
  fuel : (n m k : ℕ) → L - k < n → L - k < m → walk n f k ≡ walk m f k
  unfolding walk onward
  fuel zero m k h g = absurd (not-suc-le-zero h)
  fuel (suc n) zero k h g = absurd (not-suc-le-zero g)
  fuel (suc n) (suc m) k h g = by (f k) (forth k) (λ j a b. fuel n m j a b)
    where
      by : (t : Step) → Forth L k t → ((j : ℕ) → L - j < n → L - j < m → walk n f j ≡ walk m f j)
          → onward t (walk n f) ≡ onward t (walk m f)
      by (More j) o r = r j (omega arith) (omega arith)
      by (End e) o r = refl
      by Wrong o r = refl

  -- a turn that goes on: the rest is the whole. The turn's answer is x in code.
  pub walked_more : {x : Step} {j : ℕ} (k : ℕ) → x ≡ f k → x ≡ More j → walked L f j ≡ walked L f k
  unfolding walk onward
  walked_more {x} {j} k e h = sym (rw (sym e ∙ h) (fuel L (suc L) j (far (forth k)) (omega arith)))
    where
      far : Forth L k (f k) → L - j < L
      far o = let p : Forth L k (More j) = rw (sym e ∙ h) at o in omega arith

  -- the turn that goes on ends further on
  pub turn-falls : {x : Step} {j : ℕ} (k : ℕ) → x ≡ f k → x ≡ More j → L - j < L - k
  turn-falls {x} {j} k e h = let p : Forth L k (More j) = rw (sym e ∙ h) at (forth k) in omega arith

  pub turn-ahead : {x : Step} {j : ℕ} (k : ℕ) → x ≡ f k → x ≡ More j → k < j
  turn-ahead {x} {j} k e h = let p : Forth L k (More j) = rw (sym e ∙ h) at (forth k) in p.0

  ahead-walk : (n k : ℕ) → Ahead k (walk n f k)
  unfolding walk onward
  ahead-walk zero k = tt
  ahead-walk (suc n) k = by (f k) (forth k) (λ j. ahead-walk n j)
    where
      by : (t : Step) → Forth L k t → ((j : ℕ) → Ahead j (walk n f j)) → Ahead k (onward t (walk n f))
      by (More j) o r = back (walk n f j) j k (omega arith) (r j)
      by (End e) o r = o
      by Wrong o r = tt

  fuel-starts : (n m k : ℕ) → L - k < n → L - k < m → starts n f k ≡ starts m f k
  unfolding starts more_of
  fuel-starts zero m k h g = absurd (not-suc-le-zero h)
  fuel-starts (suc n) zero k h g = absurd (not-suc-le-zero g)
  fuel-starts (suc n) (suc m) k h g = ap (λ l. k ∷ l) (by (f k) (forth k) (λ j a b. fuel-starts n m j a b))
    where
      by : (t : Step) → Forth L k t → ((j : ℕ) → L - j < n → L - j < m → starts n f j ≡ starts m f j)
          → more_of t (starts n f) ≡ more_of t (starts m f)
      by (More j) o r = r j (omega arith) (omega arith)
      by (End e) o r = refl
      by Wrong o r = refl

  pub starts_more : {x : Step} {j : ℕ} (k : ℕ) → x ≡ f k → x ≡ More j → starts (suc L) f k ≡ k ∷ starts (suc L) f j
  unfolding starts more_of
  starts_more {x} {j} k e h = rw (sym e ∙ h) (ap (λ l. k ∷ l) (fuel-starts L (suc L) j (far (forth k)) (omega arith)))
    where
      far : Forth L k (f k) → L - j < L
      far o = let p : Forth L k (More j) = rw (sym e ∙ h) at o in omega arith

  -- a list that is read from j on does not go back behind an earlier place
  pub ahead-walked : (j k : ℕ) → k ≤ j → Ahead k (walked L f j)
  ahead-walked j k h = back (walked L f j) j k h (ahead-walk (suc L) j)

-- the last turn says what the walk says
pub walked_end : {x : Step} {e : ℕ} (L : ℕ) (f : ℕ → Step) (k : ℕ) → x ≡ f k → x ≡ End e → Some e ≡ walked L f k
unfolding walk onward
walked_end L f k e h = rw (sym e ∙ h) refl

pub walked-wrong : {x : Step} (L : ℕ) (f : ℕ → Step) (k : ℕ) → x ≡ f k → x ≡ Wrong → None ≡ walked L f k
unfolding walk onward
walked-wrong L f k e h = rw (sym e ∙ h) refl

pub starts-end : {x : Step} {e : ℕ} (L : ℕ) (f : ℕ → Step) (k : ℕ) → x ≡ f k → x ≡ End e → starts (suc L) f k ≡ k ∷ []
unfolding starts more_of
starts-end L f k e h = rw (sym e ∙ h) refl

pub starts-wrong : {x : Step} (L : ℕ) (f : ℕ → Step) (k : ℕ) → x ≡ f k → x ≡ Wrong → starts (suc L) f k ≡ k ∷ []
unfolding starts more_of
starts-wrong L f k e h = rw (sym e ∙ h) refl
