-- What is said of a record, and of a place in a pile, from what the tests before it say: the same whoever says whether
-- signatures verify.
use Rattle.check_response.specs.declared.Window.{Window}
use Rattle.refusal.specs.declared.Refusal.{Refusal}
use Rattle.std.specs.Prelude.{Result}
use mathlib.Core.Path.{◌≡◌, sym, ap, ap₂, ◌∙◌}
use mathlib.Core.Bool.{Bool, true, false}
use mathlib.Core.List.{List}
use Prim.Native.Nat.{ℕ}
use Rattle.laws.proofs.First.{before-true, before-false}
use Rattle.refusal.specs.Refusal.{refusals}
use Rattle.check_response.specs.Check.{checked_of, verdict_of, key_of, verdict_by, key_by, verdict_number}
use Rattle.check_response.specs.declared.Checked.{Checked}
use Rattle.check_response.proofs.Lent.{verdict-says}
use Rattle.pile.specs.Pile.{request_packet, response_packet}
use Rattle.pile.specs.Valid.{record_bad, record_code, refused_by, record_verdict, record_checked, checked_at, window_at}
use Rattle.pile.specs.Valid.{pubk_at, nothing_at, judge_code, judged_by, judgement_of}
use Rattle.pile.specs.declared.Judgement.{Judgement}

-- ---- a record: 16, else what is said of its response
module _ (r : List ℕ) (d s : Bool) {b : Bool} {x : Checked} (e : b ≡ record_bad r) where
  pub said-damaged : b ≡ true → x ≡ refused_by 16 → x ≡ record_checked r d s
  unfolding record_verdict record_code
  said-damaged h g = rw (before-true refusals _ _ _ tt (sym e ∙ h)) g

  pub said-whole : b ≡ false → x ≡ checked_of (request_packet r) (response_packet r) d s → x ≡ record_checked r d s
  unfolding record_verdict record_code verdict_of key_of
  said-whole h g = rw (before-false refusals _ _ _ (sym e ∙ h)) g

-- ---- the judge, whose answer has document 01's number of the first check that refuses the record

-- both its clauses, from the verdict and the key that it hands out beside the place
judge-clauses : (pile answers : List ℕ) (k : ℕ) {c : Checked} {j : Judgement}
    → c.verdict ≡ verdict_by (judge_code pile answers k) (window_at pile k)
    → c.pubk ≡ key_by (judge_code pile answers k) (pubk_at pile k) → j ≡ judged_by k c
    → (verdict_number j.verdict ≡ (judge_code pile answers k).code) × (j ≡ judgement_of pile answers k)
unfolding judgement_of
judge-clauses pile answers k e f g = rw g (
  ap verdict_number e ∙ verdict-says (judge_code pile answers k) (window_at pile k),
  ap₂ (λ (v : Result Window Refusal) (key : List ℕ). record { place = k; verdict = v; pubk = key }) e f,
)

module _ (pile answers : List ℕ) (k : ℕ) {b : Bool} {c : Checked} {j : Judgement} (e : b ≡ nothing_at pile answers k) where
  -- 15 where there is no record k,
  pub judge-nothing : b ≡ true → c ≡ refused_by 15 → j ≡ judged_by k c
      → (verdict_number j.verdict ≡ (judge_code pile answers k).code) × (j ≡ judgement_of pile answers k)
  unfolding judge_code
  judge-nothing h g i =
      judge-clauses pile answers k {c = c}
      (rw (before-true refusals _ _ _ tt (sym e ∙ h)) (ap (λ (x : Checked). x.verdict) g))
      (rw (before-true refusals _ _ _ tt (sym e ∙ h)) (ap (λ (x : Checked). x.pubk) g)) i

  -- else what is said of it
  pub judge-record : b ≡ false → c ≡ checked_at pile answers k → j ≡ judged_by k c
      → (verdict_number j.verdict ≡ (judge_code pile answers k).code) × (j ≡ judgement_of pile answers k)
  unfolding judge_code record_verdict
  judge-record h g i =
      judge-clauses pile answers k {c = c}
      (rw (before-false refusals _ _ _ (sym e ∙ h)) (ap (λ (x : Checked). x.verdict) g))
      (rw (before-false refusals _ _ _ (sym e ∙ h)) (ap (λ (x : Checked). x.pubk) g)) i
