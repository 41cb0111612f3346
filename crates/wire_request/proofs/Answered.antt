-- Laws of `answered`, for every writer: what it has to show by each way out, and where it writes.
use Rattle.std.specs.Prelude.{Err, Ok, Result}
use Prim.Native.Nat.{ℕ, ◌≤◌, ◌<◌}
use mathlib.Core.Path.{◌≡◌, refl, sym, ap, ◌∙◌}
use mathlib.Core.Bool.{Bool, true, false, cond}
use mathlib.Core.List.{List, ◌++◌}
use mathlib.Core.Logic.{◌↔◌}
use native.Mathlib.Nat.{zero-add}
use native.Mathlib.Omega.{arith}
use borrow.Author.Tests.{eq-eqb, ne_eqb, eqb-true, ltb-false}
use lib.Dec.{eqb}
use lib.ListN.{length, take, drop}
use lib.Seq.{take_at}
use Rattle.laws.specs.Written.{written, Puts}
use Rattle.laws.proofs.First.{says-0, says-more, is-empty, at_most, less}
use Rattle.laws.proofs.First.{row-quiet, test-quiet, none-quiet, chosen-says}
use Rattle.laws.proofs.Written.{written-whole, written-refused}
use Rattle.refusal.specs.Refusal.{refusal, passed, refusals}
use Rattle.refusal.specs.declared.Refusal.{Refusal}
use Rattle.wire_request.specs.Answered.{wrote_number, write_code, answered}

-- both clauses of a writer's contract: it answers r, and leaves d in the buffer that held o
abbrev pub Writes : Refusal → List ℕ → List ℕ → Result ℕ Refusal → List ℕ → Type 0
Writes why p o r d = (r ≡ answered why p o) × (d ≡ written (wrote_number r) p o)

-- the contract of any writer settles what it leaves
pub leaves-once : {x y : Result ℕ Refusal} {d e : List ℕ} (why : Refusal) (p o : List ℕ)
    → Writes why p o x d → Writes why p o y e → d ≡ e
leaves-once why p o v w =
    v.1 ∙ ap (λ (r : Result ℕ Refusal). written (wrote_number r) p o) (v.0 ∙ sym w.0) ∙ sym w.1

-- ---- the ways out, where code has the refusal `why` of the input as x

-- some refusal applies, and code has the first as z
refuses : {z : Refusal} (why : Refusal) (p o : List ℕ) → z ≡ write_code why p o → (z.code ≡ 0 → ⊥)
    → Writes why p o (Err z) o
unfolding answered
refuses {z} why p o e h = (
  simp (ne_eqb (write_code why p o).code 0 (λ q. h (ap (λ (r : Refusal). r.code) e ∙ q))) (ap Err e),
  written-refused z.code p o h,
)

-- the input is refused
pub writer-refused : {x why : Refusal} (p o : List ℕ) → x ≡ why → (x.code ≡ 0 → ⊥) → Writes why p o (Err x) o
unfolding write_code
writer-refused p o e h = refuses _ p o (says-more refusals _ e h) h

-- the input is not refused, and the bytes do not fit
pub writer-short : {x why z : Refusal} (p o : List ℕ) → x ≡ why → x.code ≡ 0 → z ≡ refusal 19 → length o < length p
    → Writes why p o (Err z) o
unfolding write_code
writer-short {z = z} p o e q g h =
    refuses _ p o (says-0 refusals _ _ e q (less refusals (length o) (length p) _ _ g tt h))
    (λ f. let n : z.code ≡ 19 = ap (λ (r : Refusal). r.code) g in omega arith)

-- the input is not refused, and the bytes fit
fits : {x why : Refusal} (p o : List ℕ) → x ≡ why → x.code ≡ 0 → length p ≤ length o
    → Ok (length p) ≡ answered why p o
unfolding write_code answered
fits {why = why} p o e q h =
    let none : passed ≡ write_code why p o =
    says-0 refusals _ _ e q (at_most refusals (length o) (length p) _ _ h (is-empty refusals refl)) in
    simp (eq-eqb (write_code why p o).code 0 (none-quiet refusals (sym none)))

-- the input is not refused, and all bytes are written
pub writer-done : {x why : Refusal} {p o d : List ℕ} {n : ℕ} → x ≡ why → x.code ≡ 0 → Puts o 0 p d n
    → Writes why p o (Ok n) d
writer-done {p = p} {o} e q w =
    (ap Ok (w.ends ∙ zero-add (length p)) ∙ fits p o e q (omega (arith, w.ends, w.fits)), written-whole w)

-- the input is not refused, and a function that refuses no input writes the bytes, which it has as q
pub writer-handed : {x why : Refusal} {p q d : List ℕ} {r : Result ℕ Refusal} (o : List ℕ) → x ≡ why → x.code ≡ 0 → q ≡ p
    → Writes passed q o r d → Writes why p o r d
unfolding write_code answered
writer-handed {why = why} {p} {r = r} o e z f w =
    let same : write_code passed p o ≡ write_code why p o =
    sym (says-0 refusals _ _ refl refl refl) ∙ says-0 refusals _ _ e z refl in (
      w.0
          ∙ ap (λ (l : List ℕ). answered passed l o) f
          ∙ ap (λ (c : Refusal). cond (eqb c.code 0) (Ok (length p)) (Err c)) same,
      w.1 ∙ ap (λ (l : List ℕ). written (wrote_number r) l o) f,
    )

module _ (why : Refusal) (p o : List ℕ) where
  -- document 01's number of the answer is that of the first refusal
  pub answered-says : wrote_number (answered why p o) ≡ (write_code why p o).code
  unfolding answered
  answered-says =
      let c = write_code why p o in
      chosen-says wrote_number (Ok (length p)) (Err c) c.code refl refl

  -- ---- where it writes

  module _ (n : ℕ) where
    -- it writes exactly where the input is not refused and the bytes fit, and then it answers their number
    pub done-exactly : answered why p o ≡ Ok n ↔ ((why.code ≡ 0) × ((n ≡ length p) × (n ≤ length o)))
    unfolding write_code answered
    done-exactly =
        (by (eqb (write_code why p o).code 0) refl, λ h. sym (ap Ok h.1.0 ∙ fits p o refl h.0 (omega arith)))
      where
        by : (t : Bool) → eqb (write_code why p o).code 0 ≡ t
            → cond t (Ok (length p)) (Err (write_code why p o)) ≡ Ok n
            → (why.code ≡ 0) × ((n ≡ length p) × (n ≤ length o))
        by true q e =
            let row = row-quiet refusals _ _ (eqb-true (write_code why p o).code 0 q) in
            let long = test-quiet refusals _ _ tt (row-quiet refusals _ _ row.1).0 in
            let is : n ≡ length p = cc in
            (row.0, (is, omega (arith, ltb-false (length o) (length p) long)))
        by false q e = absurd (let z : ◌≡◌ {A = ℕ} 0 1 = cc in omega arith)

    -- where it answers n, the bytes are the first n of what it leaves
    pub done-front : {r : Result ℕ Refusal} {d : List ℕ} → Writes why p o r d → r ≡ Ok n → take n d ≡ p
    done-front {r} {d} w e =
        let is : length p ≡ n = sym (done-exactly.0 (sym w.0 ∙ e)).1.0 in
        let left : d ≡ p ++ drop (length p) o = w.1 ∙ ap (λ (x : Result ℕ Refusal). written (wrote_number x) p o) e in
        ap (take n) left ∙ take_at p (drop (length p) o) n is
