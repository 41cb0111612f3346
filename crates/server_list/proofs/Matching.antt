-- The part that an answer names is the first match of document 01's sentence, and lies within its list.
use Rattle.refusal.specs.declared.Refusal.{Refusal}
use Rattle.std.specs.Prelude.{Err, Ok, Result}
use borrow.Author.Tests.{ltb-true, lt-ltb, le-ltb}
use mathlib.Core.Bool.{Bool, true, false, cond, ◌&&◌}
use mathlib.Core.Path.{◌≡◌, refl, sym, ap, ◌∙◌}
use mathlib.Core.List.{List, [], ◌∷◌, ◌++◌, append_assoc, append-nil}
use Prim.Native.Nat.{ℕ, zero, suc, ◌+◌, ◌*◌, ◌≤◌, ◌<◌}
use native.Mathlib.Nat.{le_refl}
use native.Mathlib.Omega.{arith}
use lib.Dec.{ltb}
use lib.ListN.{length, length-take, length-drop}
use Rattle.laws.specs.Least.{least}
use Rattle.laws.specs.Upto.{upto}
use Rattle.refusal.specs.Refusal.{refusal}
use Rattle.server_list.specs.Lists.{whole, server_count, server_at, servers_in, serves}
use Rattle.server_list.specs.Lookup.{searched, first_match, handed, first_in, known, sought, place_of}
use Rattle.server_list.specs.declared.Where.{Where}
use Rattle.server_list.specs.declared.Where.TheVariants.{Owner, Shipped}
use Rattle.server_list.proofs.Seeking.{finds-at, sought-at}

-- the first match among n records by their rule, and then others: the least number tells it
first-upto : (srv : List ℕ) (f : ℕ → List ℕ) (n : ℕ) (rest : List (List ℕ))
    → let k = least (λ i. serves srv (f i)) n in
    first_match srv (upto f n ++ rest) ≡ cond (ltb k n) (f k) (first_match srv rest)
unfolding first_match least upto
first-upto srv f zero rest = refl
first-upto srv f (suc n) rest =
    rw append_assoc (first-upto srv f n (f n ∷ rest) ∙ by (ltb k n) (serves srv (f n)) refl)
  where
    k : ℕ
    k = least (λ i. serves srv (f i)) n

    by : (b t : Bool) → ltb k n ≡ b
        → cond b (f k) (cond t (f n) (first_match srv rest))
        ≡ cond (ltb (cond b k (cond t n (suc n))) (suc n)) (f (cond b k (cond t n (suc n)))) (first_match srv rest)
    by true t e = let h = ltb-true k n e in rw (lt-ltb k (suc n) (omega arith))
    by false true e = rw (lt-ltb n (suc n) (omega arith))
    by false false e = rw (le-ltb (suc n) (suc n) (le_refl (suc n)))

-- the same of a list
first_of : (srv list : List ℕ) (rest : List (List ℕ))
    → first_match srv (servers_in list ++ rest)
    ≡ cond (known list srv) (server_at list (first_in list srv)) (first_match srv rest)
unfolding servers_in first_in
first_of srv list rest = first-upto srv (server_at list) (server_count list) rest

-- each record of a list has 64 bytes
pub server-long : (list : List ℕ) (k : ℕ) → k < server_count list → length (server_at list k) ≡ 64
unfolding server_at
server-long list k h = simp (length-take, length-drop) (omega arith)

-- the bytes of the part that an answer names
abbrev pub part_of : List ℕ → List ℕ → Result Where Refusal → List ℕ
part_of owner shipped (Ok (Owner k)) = server_at owner k
part_of owner shipped (Ok (Shipped k)) = server_at shipped k
part_of owner shipped (Err why) = []

module _ (owner shipped srv : List ℕ) where
  -- of the answer that is right, they are the first match
  pub part-sought : part_of owner shipped (sought owner shipped srv) ≡ handed owner shipped srv
  unfolding sought handed first_match
  part-sought =
      by (whole owner && whole shipped) (known owner srv) (known shipped srv)
      ∙ ap (λ (m : List ℕ). cond (whole owner && whole shipped) m []) (sym found)
    where
      i : ℕ
      i = first_in owner srv

      j : ℕ
      j = first_in shipped srv

      found : first_match srv (searched owner shipped)
          ≡ cond (known owner srv) (server_at owner i) (cond (known shipped srv) (server_at shipped j) [])
      found =
          first_of srv owner (servers_in shipped)
          ∙ ap (cond (known owner srv) (server_at owner i)) (rw append-nil at (first_of srv shipped []))

      by : (t u v : Bool)
          → part_of owner shipped (cond t (cond u (Ok (Owner i)) (cond v (Ok (Shipped j)) (Err (refusal 22)))) (Err (refusal 21)))
          ≡ cond t (cond u (server_at owner i) (cond v (server_at shipped j) [])) []
      by true true v = refl
      by true false true = refl
      by true false false = refl
      by false u v = refl

  -- ---- the answer as code has it, x, which is w

  -- a record that is found lies within its list
  pub within-owner : {x : Result Where Refusal} {k : ℕ} → x ≡ Ok (Owner k) → x ≡ sought owner shipped srv → k * 64 + 64 ≤ length owner
  within-owner e f = omega (arith, (finds-at owner shipped srv e f).1.inside)

  pub within-shipped : {x : Result Where Refusal} {k : ℕ} → x ≡ Ok (Shipped k) → x ≡ sought owner shipped srv
      → k * 64 + 64 ≤ length shipped
  within-shipped e f = omega (arith, (finds-at owner shipped srv e f).2.inside)

  -- its part is what is handed back, at its place
  pub part_at : {x : Result Where Refusal} (w : Result Where Refusal) {b : List ℕ} → x ≡ w → x ≡ sought owner shipped srv
      → b ≡ part_of owner shipped w → b ≡ handed owner shipped srv
  part_at w e f g = sought-at owner shipped srv (part_of owner shipped) w e f g ∙ part-sought

  pub place_at : {x : Result Where Refusal} (w : Result Where Refusal) {a : ℕ × ℕ} (p q : ℕ × ℕ) → x ≡ w → x ≡ sought owner shipped srv
      → a ≡ place_of p q w → a ≡ place_of p q (sought owner shipped srv)
  place_at w p q e f g = sought-at owner shipped srv (place_of p q) w e f g
