-- A walk among servers that sign with their own seeds: what is known of it so far, and of the next answer.
use Prim.Native.Nat.{ℕ, ◌+◌, ◌*◌, ◌≤◌, ◌<◌}
use mathlib.Core.Path.{◌≡◌, refl, sym, ap, subst, ◌∙◌}
use mathlib.Core.List.{List, [], ◌∷◌, ◌++◌}
use mathlib.Core.Logic.{⊎_elim}
use native.Mathlib.Nat.{eq-or-lt_of_le}
use native.Mathlib.Omega.{arith}
use lib.ListN.{length, get_or, length-append, get_or-append}
use lib.Seq.{get_or_at}
use Rattle.check_response.specs.declared.Window.{Window}
use Rattle.walk.specs.Standing.{InStep}
use Rattle.walk.specs.Starting.{servers_in}
use Rattle.walk.specs.State.{Going, key_of}
use Rattle.walk.specs.Taking.{recorded, take_code, moved_on}
use Rattle.walk.specs.Trace.{Reached, heard}
use Rattle.walk.specs.declared.Walk.{Walk}
use Rattle.walk.proofs.Accepting.{accepted}
use Rattle.walk.proofs.Standing.{stands-more, standing}
use Rattle.walk_laws.specs.Verified.{Verifies}
use Rattle.walk_signed.proofs.Verified.{accepted-verified}
use Rattle.walk_served_laws.specs.Tour.{Tour, Says, answer_in, heard_in}
use Rattle.walk_served_laws.proofs.Answers.{window-is, answer-taken}

-- the responses xs that a walk has accepted are such answers
pub record Among {keys : List ℕ} {most : ℕ} (t : Tour keys most) (w : Walk) (xs : List (List ℕ)) : Type 0 where
  pub since : w.last ≤ t.sent w.step
  pub many : length xs ≡ w.step
  pub said : (k : ℕ) → k < w.step → Says t k (get_or xs k [])

-- the next answer is taken, says what is said at that step, and verifies
pub record Answered {keys : List ℕ} {most : ℕ} (t : Tour keys most) (nonce : List ℕ) (w : Walk) (b : List ℕ) : Type 0
  where
    pub counted : w.count ≡ servers_in keys
    pub code : (take_code w (heard_in t w) (answer_in t w) (length b)).code ≡ 0
    pub says : Says t w.step (answer_in t w)
    pub verifies : Verifies (key_of w) (answer_in t w)
    pub stands : InStep keys nonce most (moved_on w (heard_in t w) (answer_in t w)) (recorded w (answer_in t w) b)

pub answered : {keys nonce : List ℕ} {most : ℕ} (t : Tour keys most) (w : Walk) (b : List ℕ)
    (way : Reached keys nonce most w b) → length nonce ≡ 32 → Among t w (heard way) → w.step < 2 * servers_in keys
    → Answered t nonce w b
answered {keys} {nonce} {most} t w b way n32 so inside =
    let x = answer_in t w in
    let st = standing keys nonce most n32 w b way in
    let goes : Going w = record { from = st.from; to = st.to; inside = omega arith } in
    let code = answer-taken t w b st goes so.since in
    let e = window-is t w b st goes so.since in
    let v = accepted-verified w (t.sent w.step) (t.received w.step) (t.rand w.step) x (length b) code in
    record {
      counted = st.counted;
      code = code;
      says = record { midp = ap (λ (o : Window). o.midp) e; radi = ap (λ (o : Window). o.radi) e };
      verifies = record { delegation = v.0; signature = v.1 };
      stands =
          stands-more keys nonce most w b st (heard_in t w) x (accepted w (heard_in t w) x (length b) refl code)
          (t.rand-long w.step);
    }

-- what holds of each element of a list, and of one more
one_more : (P : ℕ → List ℕ → Type 0) (l : List (List ℕ)) (x : List ℕ) (k : ℕ) → length l ≡ k
    → ((j : ℕ) → j < k → P j (get_or l j [])) → P k x → (j : ℕ) → j < k + 1 → P j (get_or (l ++ (x ∷ [])) j [])
one_more P l x k many each this j h =
    let u : j ≤ k = omega arith in
    ⊎_elim (λ e. subst (λ (i : ℕ). P i (get_or (l ++ (x ∷ [])) i [])) (sym e) (rw (get_or_at l x [] [] k many) this))
    (λ m. rw (get_or-append l (x ∷ []) [] j (omega arith)) (each j m)) (eq-or-lt_of_le u)

-- so the answers of which there is one more are such answers
pub among-more : {keys nonce : List ℕ} {most : ℕ} (t : Tour keys most) (w : Walk) (b : List ℕ) (xs : List (List ℕ))
    → Among t w xs → Answered t nonce w b
    → Among t (moved_on w (heard_in t w) (answer_in t w)) (xs ++ (answer_in t w ∷ []))
unfolding moved_on
among-more t w b xs so a =
    record {
      since = t.later w.step;
      many = length-append xs (answer_in t w ∷ []) ∙ omega (arith, so.many);
      said = one_more (Says t) xs (answer_in t w) w.step so.many so.said a.says;
    }
