-- Laws of `counted`: a loop over the parts keeps how many it has passed, and what is counted of those left.
use Prim.Native.Nat.{ℕ, suc, ◌+◌, ◌≤◌, ◌<◌}
use mathlib.Core.Path.{◌≡◌, refl, sym, ◌∙◌, ap}
use mathlib.Core.Bool.{Bool, true, false, not}
use mathlib.Core.List.{List, [], ◌∷◌}
use native.Mathlib.Omega.{arith}
use lib.Dec.{eqb}
use lib.ListN.{length, take, drop}
use Rattle.std.specs.Prelude.{None, Option, Some}
use Rattle.laws.specs.Pick.{pick}
use Rattle.json_tokens.specs.Scan.{run}
use Rattle.list_address.specs.Parts.{split, plus, counted}
use Rattle.list_address.specs.Facts.{ends, Lined}
use Rattle.list_address.proofs.Scans.{run-within}
use Rattle.list_address.proofs.Split.{split-some, last-part, next-part}

plus-zero : (d : Option ℕ) → d ≡ plus 0 d
unfolding plus
plus-zero (Some n) = ap Some (omega arith)
plus-zero None = refl

plus-plus : (n : ℕ) (d : Option ℕ) → plus n (plus 1 d) ≡ plus (n + 1) d
unfolding plus
plus-plus n (Some m) = ap Some (omega arith)
plus-plus n None = refl

plus-last : (n : ℕ) (t : Bool) → plus n (pick t (Some 1) None) ≡ pick t (Some (n + 1)) None
unfolding plus pick
plus-last n true = refl
plus-last n false = refl

module _ (p : List ℕ → Bool) where
  -- a part that is not the last
  counted-more : (q : List ℕ → Bool) (x : List ℕ) (l : List (List ℕ)) → 0 < length l
      → counted p q (x ∷ l) ≡ pick (p x) (plus 1 (counted p q l)) None
  unfolding counted
  counted-more q x [] h = absurd (omega arith)
  counted-more q x (y ∷ l) h = refl

  module _ (c : ℕ) (s : List ℕ) where
    -- n parts have passed, and the others are left
    pub record Kept (n : ℕ) (rest : List ℕ) : Type 0 where
      pub told : (q : List ℕ → Bool) → counted p q (split c s) ≡ plus n (counted p q (split c rest))

    pub kept-first : Kept 0 s
    kept-first = record { told = λ q. plus-zero _ }

    module _ {n : ℕ} {rest : List ℕ} (kept : Kept n rest) where
      pub kept-last : length rest ≤ run (λ b. not (eqb b c)) rest → n ≤ length s → Lined p c s (Some (n, rest))
      unfolding ends counted
      kept-last h g = record {
        told =
            λ q. kept.told q ∙ ap (λ l. plus n (counted p q l)) (last-part c rest (run-within _ rest h))
            ∙ plus-last n (q rest);
        few = g;
      }

      module _ {k : ℕ} (stops : k ≡ run (λ b. not (eqb b c)) rest) (inside : k < length rest) where
        -- one part that is not the last
        passes : (q : List ℕ → Bool)
            → counted p q (split c s) ≡ plus n (pick (p (take k rest)) (plus 1 (counted p q (split c (drop (k + 1) rest)))) None)
        passes q =
            let behind : suc k ≡ k + 1 = omega arith in
            kept.told q
            ∙ ap (λ l. plus n (counted p q l))
            (next-part c rest (rw stops at inside)
            ∙ ap (λ j. take j rest ∷ split c (drop (suc j) rest)) (sym stops)
            ∙ ap (λ j. take k rest ∷ split c (drop j rest)) behind)
            ∙ ap (plus n) (counted-more q _ _ (split-some c _))

        pub kept-wrong : p (take k rest) ≡ false → Lined p c s None
        unfolding ends pick plus
        kept-wrong g = record {
          told = λ q. passes q ∙ ap (λ t. plus n (pick t (plus 1 (counted p q (split c (drop (k + 1) rest)))) None)) g;
          few = tt;
        }

        pub kept_more : {more : List ℕ} → more ≡ drop (k + 1) rest → p (take k rest) ≡ true → Kept (n + 1) more
        unfolding pick
        kept_more e g = rw e record {
          told =
              λ q. passes q ∙ ap (λ t. plus n (pick t (plus 1 (counted p q (split c (drop (k + 1) rest)))) None)) g
              ∙ plus-plus n _;
        }
