-- A call of a walk's taker on the fields of a host's struct, from the call on the state.
use Rattle.refusal.specs.declared.Refusal.{Refusal}
use Rattle.std.specs.Prelude.{Err, Ok, Result}
use Prim.Native.Nat.{ℕ}
use mathlib.Core.Bool.{Bool}
use mathlib.Core.Path.{◌≡◌, refl, subst, ap, ap₂, ◌∙◌}
use mathlib.Core.List.{List}
use lib.Dec.{eqb}
use Rattle.c_evidence.specs.Walking.{tb_took}
use Rattle.c_evidence.specs.declared.TbTook.{TbTook}
use Rattle.walk.specs.Taking.{moved_on, said_in, next_in, walk_after}
use Rattle.walk.specs.declared.Walk.{Walk}
use Rattle.walk.specs.declared.Heard.{Heard}
use Rattle.walk.specs.declared.Stepped.{Stepped}
use Rattle.walk.specs.declared.Said.{Said}
use Rattle.walk.specs.declared.Said.TheVariants.{Next, Ended}
use Rattle.walk.proofs.Taken as taken
use Rattle.capi.specs.Walking.{walk_of, heard_of, Took}

-- what is heard, with the answers as code has them
abbrev pub heard_by : Bool → Bool → ℕ → ℕ → List ℕ → Heard
heard_by d s sent received rand =
    record { delegation = d; signature = s; sent = sent; received = received; rand = rand }

pub heard-by : {d s : Bool} (delegation signature sent received : ℕ) (rand : List ℕ) → d ≡ eqb delegation 1
    → s ≡ eqb signature 1 → heard_by d s sent received rand ≡ heard_of delegation signature sent received rand
heard-by delegation signature sent received rand e f =
    ap₂ (λ (d s : Bool). heard_by d s sent received rand) e f

-- the fields that a call changes, out of v, beside those that it leaves
abbrev pub changed : Walk → Walk → Walk
changed w v = walk_of w.keys w.count v.step v.nonce v.rand v.last w.most

changed-after : (s : Result Said Refusal) (w : Walk) (h : Heard) (x : List ℕ)
    → changed w (walk_after s w h x) ≡ walk_after s w h x
unfolding moved_on
changed-after (Ok (Next v)) w h x = refl
changed-after (Ok (Ended v r)) w h x = refl
changed-after (Err why) w h x = refl

-- code has the state that a call leaves as v
pub took_of : (w : Walk) {g : Heard} (h : Heard) (x pile : List ℕ) {after : List ℕ} (m : Result Stepped Refusal) {v : Walk}
    {r : TbTook} → g ≡ h → taken.Took w g x pile (said_in m) (next_in w m) after → v ≡ next_in w m
    → r ≡ tb_took (said_in m) → Took w h x pile r (changed w v) after
took_of w h x pile {after} m e t n f =
    let u = subst (λ (y : Heard). taken.Took w y x pile (said_in m) (next_in w m) after) e t in
    record {
      answer = said_in m;
      right = u.1.0;
      same = f;
      stepped = ap (changed w) (n ∙ u.1.1.0) ∙ changed-after (said_in m) w h x;
      left = u.1.1.1;
    }
