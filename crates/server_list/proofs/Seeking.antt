-- Where a server stands. By each way out of the search, what code knows there gives what the answer says. And only one
-- answer is right, the one that the definition computes.
use Rattle.std.specs.Prelude.{Err, Ok, Result}
use borrow.Author.Tests.{eqb-true, eqb-false, eq-eqb, ltb-true, ltb-false, lt-ltb, le-ltb}
use mathlib.Core.Bool.{Bool, true, false, cond, ◌&&◌}
use mathlib.Core.Path.{◌≡◌, refl, sym, ap, subst, ◌∙◌}
use mathlib.Core.List.{List}
use Prim.Native.Nat.{ℕ, ◌%◌, ◌≤◌, ◌<◌}
use native.Mathlib.Nat.{le_refl}
use native.Mathlib.Omega.{arith}
use lib.ListN.{length}
use Rattle.laws.specs.Numbers.{le}
use Rattle.laws.specs.Same.{same}
use Rattle.laws.proofs.Same.{same_true}
use Rattle.laws.proofs.Least.{least_first, least-never, first-least, never-least}
use Rattle.refusal.specs.Refusal.{refusal, passed, passes}
use Rattle.refusal.proofs.Passing.{quiet-passes, refuses}
use Rattle.refusal.specs.declared.Refusal.{Refusal}
use Rattle.server_list.specs.Lists.{whole, server_count, serves_at}
use Rattle.server_list.specs.Lookup.{where_refusal, first_in, known, sought}
use Rattle.server_list.specs.Meaning.{WholeLists, IsFirstIn, NotIn, NotFound, code-21, code-22, FindsServer}
use Rattle.server_list.specs.declared.Where.{Where}
use Rattle.server_list.specs.declared.Where.TheVariants.{Owner, Shipped}

-- two values of which eight bytes are not the same
pub word-differs : {x y : ℕ} (a b : List ℕ) (i : ℕ) → x ≡ le 8 a i → y ≡ le 8 b i → (x ≡ y → ⊥) → false ≡ same a b
word-differs a b i p q h = by (same a b) refl
  where
    by : (t : Bool) → same a b ≡ t → false ≡ t
    by true e = absurd (h (p ∙ ap (λ (l : List ℕ). le 8 l i) (same_true a b e) ∙ sym q))
    by false e = refl

-- one list: the number that the definition computes, as a sentence, and the other way
module _ (list srv : List ℕ) where
  first-in : {i : ℕ} → i ≡ first_in list srv → i < server_count list → IsFirstIn list srv i
  unfolding first_in
  first-in e h = least_first (serves_at srv list) (server_count list) e h

  not_in : {i : ℕ} → i ≡ first_in list srv → server_count list ≤ i → NotIn list srv
  unfolding first_in
  not_in e h = least-never (serves_at srv list) (server_count list) e h

  in-first : {k : ℕ} → IsFirstIn list srv k → k ≡ first_in list srv
  unfolding first_in
  in-first f = first-least (serves_at srv list) (server_count list) f

  known_in : {k : ℕ} → IsFirstIn list srv k → known list srv ≡ true
  known_in f = rw (← in-first f) (lt-ltb _ _ f.inside)

  not_known : NotIn list srv → known list srv ≡ false
  unfolding first_in
  not_known n =
      rw (never-least (serves_at srv list) (server_count list) n)
      (le-ltb (server_count list) (server_count list) (le_refl (server_count list)))

module _ (owner shipped srv : List ℕ) where
  -- ---- the ways out of the search

  pub owner-ragged : {why : Refusal} → (length owner % 64 ≡ 0 → ⊥) → why ≡ refusal 21
      → FindsServer owner shipped srv (Err why)
  owner-ragged p r = rw r (code-21 (λ w. p w.owner-whole))

  pub shipped-ragged : {why : Refusal} → (length shipped % 64 ≡ 0 → ⊥) → why ≡ refusal 21
      → FindsServer owner shipped srv (Err why)
  shipped-ragged p r = rw r (code-21 (λ w. p w.shipped-whole))

  module _ (p : length owner % 64 ≡ 0) (q : length shipped % 64 ≡ 0) where
    both : WholeLists owner shipped
    both = record { owner-whole = p; shipped-whole = q }

    pub in-owner : {i : ℕ} → i ≡ first_in owner srv → i < server_count owner → FindsServer owner shipped srv (Ok (Owner i))
    in-owner e g = (both, first-in owner srv e g)

    pub in-shipped : {i j : ℕ} → i ≡ first_in owner srv → server_count owner ≤ i → j ≡ first_in shipped srv
        → j < server_count shipped → FindsServer owner shipped srv (Ok (Shipped j))
    in-shipped e g f k = (both, not_in owner srv e g, first-in shipped srv f k)

    pub in-neither : {i j : ℕ} {why : Refusal} → i ≡ first_in owner srv → server_count owner ≤ i
        → j ≡ first_in shipped srv → server_count shipped ≤ j → why ≡ refusal 22
        → FindsServer owner shipped srv (Err why)
    in-neither e g f k r = rw r (code-22 both (not_in owner srv e g) (not_in shipped srv f k))

  -- ---- the answer that is right: the one that the definition computes,

  pub sought-finds : FindsServer owner shipped srv (sought owner shipped srv)
  unfolding sought
  sought-finds = by (whole owner) (whole shipped) (known owner srv) (known shipped srv) refl refl refl refl
    where
      by : (a b c d : Bool) → whole owner ≡ a → whole shipped ≡ b → known owner srv ≡ c → known shipped srv ≡ d
          → FindsServer owner shipped srv
          (cond (a && b) (cond c (Ok (Owner (first_in owner srv))) (cond d (Ok (Shipped (first_in shipped srv))) (Err (refusal 22))))
          (Err (refusal 21)))
      by false b c d e f g h = owner-ragged (eqb-false _ _ e) refl
      by true false c d e f g h = shipped-ragged (eqb-false _ _ f) refl
      by true true true d e f g h = in-owner (eqb-true _ _ e) (eqb-true _ _ f) refl (ltb-true _ _ g)
      by true true false true e f g h =
          in-shipped (eqb-true _ _ e) (eqb-true _ _ f) refl (ltb-false _ _ g) refl (ltb-true _ _ h)
      by true true false false e f g h =
          in-neither (eqb-true _ _ e) (eqb-true _ _ f) refl (ltb-false _ _ g) refl (ltb-false _ _ h)
          refl

  tests : WholeLists owner shipped → (whole owner && whole shipped) ≡ true
  tests w = simp (eq-eqb _ _ w.owner-whole, eq-eqb _ _ w.shipped-whole)

  ragged : (WholeLists owner shipped → ⊥) → (whole owner && whole shipped) ≡ false
  ragged f = by (whole owner) (whole shipped) refl refl
    where
      by : (a b : Bool) → whole owner ≡ a → whole shipped ≡ b → (a && b) ≡ false
      by true true e g = absurd (f (both (eqb-true _ _ e) (eqb-true _ _ g)))
      by true false e g = refl
      by false b e g = refl

  -- and no other
  pub finds-sought : (w : Result Where Refusal) → FindsServer owner shipped srv w → w ≡ sought owner shipped srv
  unfolding sought
  finds-sought (Ok (Owner k)) (w, f) = simp (tests w, known_in owner srv f) (ap (λ (i : ℕ). Ok (Owner i)) (in-first owner srv f))
  finds-sought (Ok (Shipped k)) (w, n, f) =
      simp (tests w, not_known owner srv n, known_in shipped srv f) (ap (λ (i : ℕ). Ok (Shipped i)) (in-first shipped srv f))
  finds-sought (Err why) (code-21 f) = simp (ragged f)
  finds-sought (Err why) (code-22 w n m) = simp (tests w, not_known owner srv n, not_known shipped srv m)

  -- ---- the answer as code has it, x, which is w

  pub finds-at : {x w : Result Where Refusal} → x ≡ w → x ≡ sought owner shipped srv → FindsServer owner shipped srv w
  finds-at e f = subst (FindsServer owner shipped srv) (sym f ∙ e) sought-finds

  -- what is said of w is said of the answer that the definition computes: any value of it, and the refusal
  pub sought-at : {A : Type 0} (of : Result Where Refusal → A) {x : Result Where Refusal} (w : Result Where Refusal) {r : A} → x ≡ w
      → x ≡ sought owner shipped srv → r ≡ of w → r ≡ of (sought owner shipped srv)
  sought-at of w e f g = g ∙ ap of (sym e ∙ f)

  -- the refusal, as an answer
  quiet : (w : Where) → where_refusal (Ok w) ≡ passed
  quiet (Owner k) = refl
  quiet (Shipped k) = refl

  refused : {why : Refusal} → NotFound owner shipped srv why → why.code ≡ 0 → ⊥
  refused (code-21 f) z = absurd (omega arith)
  refused (code-22 f n m) z = absurd (omega arith)

  pub found-passes : {x : Result Where Refusal} {w : Where} → x ≡ Ok w → x ≡ sought owner shipped srv
      → Ok tt ≡ passes (where_refusal (sought owner shipped srv))
  found-passes {x} {w} e f =
      quiet-passes passed refl ∙ ap passes (sym (quiet w) ∙ ap where_refusal (sym e ∙ f))

  pub refusal-passes : {x : Result Where Refusal} {why : Refusal} → x ≡ Err why → x ≡ sought owner shipped srv
      → Err why ≡ passes (where_refusal (sought owner shipped srv))
  refusal-passes {x} {why} e f =
      refuses (refused (finds-at {w = Err why} e f)) ∙ ap passes (ap where_refusal (sym e ∙ f))
