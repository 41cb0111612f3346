-- An address is one exactly where a host and a port stand around its last colon.
use Prim.Native.Nat.{ℕ, zero, suc, ◌+◌, ◌-◌, ◌<◌}
use mathlib.Core.Path.{◌≡◌, refl, sym, ◌∙◌, ap}
use mathlib.Core.Bool.{Bool, true, false, true≢false}
use mathlib.Core.List.{List, [], ◌∷◌}
use mathlib.Core.Logic.{◌↔◌}
use native.Mathlib.Nat.{not-suc-le-zero, le_of_suc-le-suc}
use native.Mathlib.Omega.{arith}
use borrow.Author.Tests.{eqb-true, eq-eqb}
use lib.ListN.{length, get_or, drop, length-drop}
use lib.Seq.{get_or-drop}
use Rattle.laws.proofs.Least.{somewhere-at, somewhere-here}
use Rattle.laws.specs.Pick.{pick, both}
use Rattle.json_tokens.specs.Scan.{digit, run, past_while}
use Rattle.json_tokens.proofs.Picks.{over}
use Rattle.list_address.specs.Runs.{every, is_run}
use Rattle.list_address.specs.Decimal.{is_decimal, is_port}
use Rattle.list_address.specs.Address.{divides_at, is_address}
use Rattle.list_address.specs.Meaning.{Divided}
use Rattle.list_address.proofs.Sizes.{both_first, both-second}

-- where a run goes to the end, each byte passes
run-all : (p : ℕ → Bool) (l : List ℕ) (i : ℕ) → run p l ≡ length l → i < length l → p (get_or l i 0) ≡ true
unfolding pick
run-all p [] i e h = absurd (not-suc-le-zero h)
run-all p (x ∷ l) i e h = by (p x) refl i h e (run-all p l)
  where
    by : (t : Bool) → p x ≡ t → (i : ℕ) → i < suc (length l) → pick t (suc (run p l)) 0 ≡ suc (length l)
        → ((i : ℕ) → run p l ≡ length l → i < length l → p (get_or l i 0) ≡ true) → p (get_or (x ∷ l) i 0) ≡ true
    by true f zero g e k = f
    by true f (suc i) g e k = k i (omega (arith, e)) (le_of_suc-le-suc g)
    by false f i g e k = absurd (omega (arith, e))

every-at : (p : ℕ → Bool) (x : List ℕ) (i : ℕ) → every p x ≡ true → i < length x → p (get_or x i 0) ≡ true
unfolding every past_while
every-at p x i e h = run-all p x i (omega (arith, eqb-true _ (length x) e)) h

-- a port is digits
port-digits : (x : List ℕ) → is_port x ≡ true → every digit x ≡ true
unfolding is_port is_decimal is_run
port-digits x e = both-second _ _ (both-second _ _ (both_first _ _ e))

no-colon : (b : ℕ) → digit b ≡ true → b ≡ 58 → ⊥
unfolding both
no-colon b e h = true≢false (sym e ∙ ap digit h)

-- no colon stands behind the one that divides
none-behind : (x : List ℕ) (k j : ℕ) → is_port (drop (k + 1) x) ≡ true → k < j → get_or x j 0 ≡ 58 → ⊥
none-behind x k j e h g = no-colon (get_or (drop (k + 1) x) i 0) (every-at _ _ i (port-digits _ e) inside) (there ∙ g)
  where
    i : ℕ
    i = j - (k + 1)

    in-x : j < length x
    in-x = over x refl (omega (arith, g))

    inside : i < length (drop (k + 1) x)
    inside = omega (arith, length-drop (k + 1) x, in-x, h)

    there : get_or (drop (k + 1) x) i 0 ≡ get_or x j 0
    there = get_or-drop (k + 1) x i 0 ∙ ap (λ n. get_or x n 0) (omega (arith, h))

both_of : (p q : Bool) → p ≡ true → q ≡ true → both p q ≡ true
unfolding both
both_of p q e f = rw e f

divides-exactly : (x : List ℕ) (k : ℕ) → k < length x → divides_at x k ≡ true ↔ Divided x k
unfolding divides_at
divides-exactly x k h = (
  λ e. record {
    inside = h;
    colon = eqb-true _ 58 (both_first _ _ e);
    last = λ j l g. none-behind x k j (both_first _ _ (both-second _ _ e)) l g;
    host = both-second _ _ (both-second _ _ e);
    port = both_first _ _ (both-second _ _ e);
  },
  λ d. both_of _ _ (eq-eqb _ 58 d.colon) (both_of _ _ d.port d.host),
)

pub address-exactly : (x : List ℕ) → is_address x ≡ true ↔ ((k : ℕ) × Divided x k)
unfolding is_address
address-exactly x = (
  λ e. let f = somewhere-at (divides_at x) (length x) e in (_, (divides-exactly x _ f.0).0 f.1),
  λ d. somewhere-here (divides_at x) (length x) d.0 d.1.inside ((divides-exactly x _ d.1.inside).1 d.1),
)
