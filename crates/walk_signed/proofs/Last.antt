-- Signatures are judged last by the walk's taker, too.
use Rattle.refusal.specs.declared.Refusal.{Refusal}
use Rattle.std.specs.Prelude.{Result}
use Prim.Native.Nat.{ℕ}
use mathlib.Core.Path.{◌≡◌, refl, subst}
use mathlib.Core.Bool.{Bool, true}
use mathlib.Core.List.{List}
use Rattle.check_signatures.proofs.Verdicts.{Until, until-more, until-last, until-check}
use Rattle.check_response.specs.Check.{answers_code}
use Rattle.walk.specs.State.{request_now}
use Rattle.walk.specs.Taking.{clock_wrong, step_code, response_code_now, take_code}
use Rattle.walk.specs.declared.Said.{Said}
use Rattle.walk.specs.declared.Heard.{Heard}
use Rattle.walk.specs.declared.Walk.{Walk}
use Rattle.walk.proofs.Taken.{Took}

-- what is heard at these times with these answers
abbrev pub heard_with : ℕ → ℕ → List ℕ → Bool → Bool → Heard
heard_with sent received rand d s =
    record { delegation = d; signature = s; sent = sent; received = received; rand = rand }

module _ (w : Walk) (sent received : ℕ) (rand : List ℕ) (room : ℕ) (d s : Bool) where
  -- what refuses a response before it is looked at does not ask for the answers;
  pub step-whatever : step_code w (heard_with sent received rand true true) room
      ≡ step_code w (heard_with sent received rand d s) room
  unfolding step_code clock_wrong
  step-whatever = refl

  -- where something refuses it with two answers of yes, that is told whatever the answers are; and else 12 and 13
  pub until-take : (x : List ℕ)
      → Until (take_code w (heard_with sent received rand true true) x room)
      (take_code w (heard_with sent received rand d s) x room) (answers_code d s)
  unfolding take_code step_code clock_wrong response_code_now
  until-take x = until-more _ _ _ _ _ (until-last (until-check (request_now w) x d s))

-- what a call said and left, by what was heard
pub took-as : (w : Walk) {g : Heard} (h : Heard) (x pile : List ℕ) (s : Result Said Refusal) (v : Walk) {after : List ℕ}
    → g ≡ h → Took w g x pile s v after → Took w h x pile s v after
took-as w h x pile s v {after} e t =
    subst (λ (y : Heard). Took w y x pile s v after) e t
