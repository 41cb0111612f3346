-- What the call answers, where it is refused and where not.
use Rattle.std.specs.Prelude.{Err, Ok}
use mathlib.Core.List.{List}
use mathlib.Core.Path.{◌≡◌, refl, sym, ap, ◌∙◌}
use Prim.Native.Nat.{ℕ, ◌≤◌, ◌<◌}
use borrow.Author.Tests.{ne_eqb, eq-eqb}
use lib.ListN.{length}
use Rattle.laws.proofs.First.{quiet_of, row-quiet, test-quiet}
use Rattle.refusal.specs.Refusal.{refusals}
use Rattle.refusal.specs.declared.Refusal.{Refusal}
use Rattle.tree_build.specs.Leaves.{most}
use Rattle.server_batch.specs.Answering.{batch_answer, sizes_code, count_wrong, room_short, LeftBy}
use Rattle.server_batch.specs.Batch.{Batch, longest}
use Rattle.server_batch.specs.Steps.{Enough, Left}
use Rattle.server_batch.proofs.Rooms.{count-right, enough}

-- the sizes are right
pub sizes-right : (n c packets slot rows out room lengths : ℕ) {x : Refusal}
    → x ≡ sizes_code n c packets slot rows out room lengths → x.code ≡ 0
    → (0 < n) × (n ≤ most) × Enough n c packets slot rows out room lengths
unfolding sizes_code
sizes-right n c packets slot rows out room lengths e z =
    let a = row-quiet refusals _ _ (quiet_of refusals e z) in
    let d = row-quiet refusals _ _ a.1 in
    let right = count-right n refl (test-quiet refusals (count_wrong n) _ tt a.0) in
    let fits = test-quiet refusals (room_short n c packets slot rows out room lengths) _ tt d.0 in
    (right.0, right.1, enough n c packets slot rows out room lengths right.0 refl fits)

module _ (b : Batch) (cert seed : List ℕ) (midp radi room : ℕ) (rows out lengths : List ℕ) where
  -- refused: nothing is written
  pub told-refused : {x code : Refusal} → x ≡ code → (x.code ≡ 0 → ⊥)
      → (Err x ≡ batch_answer b cert code)
      × LeftBy b cert seed midp radi room rows out lengths x.code rows out lengths
  unfolding batch_answer
  told-refused {x} {code} e some =
      let test = ne_eqb x.code 0 some in
      let same = ne_eqb code.code 0 (λ z. some (ap (λ r. r.code) e ∙ z)) in (
        simp same (ap Err e),
        record { of-rows = simp test; of-out = simp test; of-lengths = simp test },
      )

  -- not refused: all is
  pub told-answered : {x code : Refusal} {rows-after out-after lengths-after : List ℕ} {n : ℕ} → x ≡ code → x.code ≡ 0
      → Left b (longest b (length cert)) cert seed midp radi room rows out lengths rows-after out-after lengths-after n
      → (Ok n ≡ batch_answer b cert code)
      × LeftBy b cert seed midp radi room rows out lengths 0 rows-after out-after lengths-after
  unfolding batch_answer
  told-answered {code = code} e z left =
      let same = eq-eqb code.code 0 (sym (ap (λ r. r.code) e) ∙ z) in (
        simp same (ap Ok left.many),
        record { of-rows = left.of-rows; of-out = left.of-out; of-lengths = left.of-lengths },
      )
