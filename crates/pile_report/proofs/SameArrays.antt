-- From the arrays that hold verdicts and flags to the pile that they are of: what the check says of the ones it says of
-- the other.
use Rattle.check_response.specs.declared.Window.{Window}
use Rattle.refusal.specs.declared.Refusal.{Refusal}
use Rattle.std.specs.Prelude.{Err, Ok, Result}
use mathlib.Core.Path.{◌≡◌, sym, subst, ap}
use mathlib.Core.Bool.{Bool, not}
use mathlib.Core.Logic.{◌↔◌}
use Prim.Native.Nat.{ℕ, ◌<◌}
use native.Mathlib.Omega.{arith}
use lib.Dec.{T}
use Rattle.laws.specs.Least.{IsFirst, Never}
use Rattle.pile_runs.specs.Alike.{Alike}
use Rattle.pile_runs.specs.Convict.{Contradiction}
use Rattle.pile_runs.proofs.SamePile.{same-least, alike_same, alike-sym, alike-valid, alike-refused, alike-contradicting}
use Rattle.pile_report.specs.Report.{refused, loose, of-record, code-17, code-18, Says}

-- two tests that agree below n
module _ (p q : ℕ → Bool) (n : ℕ) (e : (i : ℕ) → i < n → p i ≡ q i) where
  never-moved : Never p n → Never q n
  never-moved f k l t = f k l (subst T (sym (e k l)) t)

  first-moved : (k : ℕ) → IsFirst p n k → IsFirst q n k
  first-moved k f = record {
    inside = f.inside;
    holds = subst T (e k f.inside) f.holds;
    earlier = λ i l t. f.earlier i l (subst T (sym (e i (omega (arith, f.inside)))) t);
  }

-- two piles of n records of which the verdicts differ in MINT and MAXT at the most
pair-moved : (v w : ℕ → Result Window Refusal) (n : ℕ) → ((i : ℕ) → i < n → Alike (v i) (w i)) → (i j : ℕ)
    → Contradiction v n i j → Contradiction w n i j
pair-moved v w n e i j h = record {
  order = h.order;
  inside = h.inside;
  holds =
      subst T
      (alike-contradicting (v i) (w i) (v j) (w j) (e i (omega (arith, h.order, h.inside))) (e j h.inside))
      h.holds;
}

-- and the flags in nothing
module _
    (v w : ℕ → Result Window Refusal) (l k : ℕ → Bool) (n : ℕ)
    (e : (i : ℕ) → i < n → Alike (v i) (w i)) (f : (i : ℕ) → i < n → l i ≡ k i) where
  same-refused : (i : ℕ) → i < n → refused v i ≡ refused w i
  same-refused i u = ap not (alike-valid (v i) (w i) (e i u))

  same-loose : (i : ℕ) → i < n → loose l i ≡ loose k i
  same-loose i u = ap not (f i u)

  none-refused : Never (refused v) n → Never (refused w) n
  none-refused = never-moved (refused v) (refused w) n same-refused

  none-loose : Never (loose l) n → Never (loose k) n
  none-loose = never-moved (loose l) (loose k) n same-loose

  same-pairs : (i j : ℕ) → Contradiction v n i j ↔ Contradiction w n i j
  same-pairs i j = (pair-moved v w n e i j, pair-moved w v n (λ a u. alike-sym (v a) (w a) (e a u)) i j)

  pub says-alike : (r : Result (ℕ × ℕ) (Refusal × ℕ)) → Says v l n r → Says w k n r
  says-alike (Ok (i, j)) s = (none-refused s.0, none-loose s.1, same-least same-pairs s.2)
  says-alike (Err (why, i)) (of-record g h) =
      of-record (first-moved (refused v) (refused w) n same-refused i g)
      (alike-refused (v i) (w i) why (e i g.inside) h)
  says-alike (Err (why, i)) (code-17 g h) =
      code-17 (none-refused g) (first-moved (loose l) (loose k) n same-loose i h)
  says-alike (Err (why, i)) (code-18 g h m) =
      code-18 (none-refused g) (none-loose h) (λ i j u. m i j ((same-pairs i j).1 u))

-- and so where the verdicts are the same
pub says-moved : (v w : ℕ → Result Window Refusal) (l k : ℕ → Bool) (n : ℕ) → ((i : ℕ) → i < n → v i ≡ w i)
    → ((i : ℕ) → i < n → l i ≡ k i) → (r : Result (ℕ × ℕ) (Refusal × ℕ)) → Says v l n r → Says w k n r
says-moved v w l k n e f = says-alike v w l k n (λ i u. alike_same (e i u)) f
