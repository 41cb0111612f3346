-- Laws of `steps`: for code that writes a run of steps out, call after call, and for what each step keeps.
use Rattle.std.proofs.Common.{◌≡◌, ℕ, zero, suc, ◌+◌, ◌<◌, ◌≤◌, refl, ap, ◌∙◌, subst, add-zero, arith}
use Rattle.sha512_block.specs.Steps.{steps}

-- r is what n steps from step t on make of x. A record, so that f, t, n and x are read off it.
pub record Stepped {A : Type 0} (f : ℕ → A → A) (t n : ℕ) (x r : A) : Type 0 where
  pub is : r ≡ steps f t n x

-- none yet
pub step-none : {A : Type 0} (f : ℕ → A → A) (t : ℕ) (x : A) → Stepped f t 0 x x
unfolding steps
step-none f t x = record { is = refl }

-- and one more behind n
pub step-more : {A : Type 0} {f : ℕ → A → A} {t n : ℕ} {x y r : A} → Stepped f t n x y → r ≡ f (t + n) y
    → Stepped f t (suc n) x r
unfolding steps
step-more {f = f} {t} {n} s e = record { is = e ∙ ap (f (t + n)) s.is }

-- P holds at step t; each step takes it on to the next: then it holds behind all n
pub steps-keep : {A : Type 0} (f : ℕ → A → A) (P : ℕ → A → Type 0) (t n : ℕ) (x : A)
    → ((i : ℕ) (y : A) → t ≤ i → i < t + n → P i y → P (i + 1) (f i y)) → P t x → P (t + n) (steps f t n x)
unfolding steps
steps-keep f P t zero x turn h = rw add-zero h
steps-keep f P t (suc n) x turn h =
    let so_far = steps-keep f P t n x (λ i y l u. turn i y l (omega arith)) h in
    let e : t + n + 1 ≡ t + suc n = omega arith in
    let y = steps f t n x in
    subst (λ (i : ℕ). P i (f (t + n) y)) e (turn (t + n) y (omega arith) (omega arith) so_far)
