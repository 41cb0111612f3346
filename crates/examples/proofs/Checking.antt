-- The response check where no check before the path's refuses.
use Rattle.std.specs.Prelude.{Ok}
use mathlib.Core.Path.{◌≡◌, refl, sym, ap, ◌∙◌}
use mathlib.Core.Bool.{Bool, true, false, and-false}
use mathlib.Core.List.{List, [], ◌∷◌}
use Prim.Native.Nat.{ℕ, ◌/◌, ◌^◌, ◌≤◌, ◌<◌}
use native.Mathlib.Omega.{arith}
use borrow.Author.Tests.{lt-ltb, le-ltb}
use lib.ListN.{length}
use Rattle.laws.specs.Any.{any}
use Rattle.laws.specs.First.{first_of, when_of}
use Rattle.laws.proofs.First.{says-0, is_last, test-false}
use Rattle.refusal.specs.Refusal.{refusals, first, when}
use Rattle.refusal.specs.declared.Refusal.{Refusal}
use Rattle.wire_message.specs.Tags.{PATH}
use Rattle.wire_message.specs.Values.{value_of}
use Rattle.tree.specs.PathCheck.{leads_of}
use Rattle.wire_packet.specs.Packet.{body}
use Rattle.wire_packet.specs.Response.{midp_in, mint_in, maxt_in}
use Rattle.check_response.specs.Check.{path_misses, time_outside, answers_code, agreement_code, check_code, window_in, verdict_of}
use Rattle.check_response.specs.Check.{verdict_number}
use Rattle.check_response.proofs.Lent.{verdict-says, valid-by}
use Rattle.examples.specs.Claims.{Before10, Climbs, Misses}

-- what is left of the row of checks
module _ (q p : List ℕ) (d s : Bool) (b : Before10 q p) where
  abbrev left : Refusal
  left = first (when (path_misses q (body p)) 10 ∷ when (time_outside (body p)) 11 ∷ answers_code d s ∷ [])

  from-10 : left ≡ check_code q p d s
  unfolding check_code agreement_code
  from-10 =
      test-false refusals _ _ refl b.request
      (says-0 refusals _ _ refl b.shape
      (is_last refusals
      (test-false refusals _ _ refl b.version
      (test-false refusals _ _ refl b.highest (test-false refusals _ _ refl b.nonce refl)))))

  says-left : verdict_number (verdict_of q p d s) ≡ left.code
  unfolding verdict_of
  says-left = verdict-says (check_code q p d s) _ ∙ ap (λ (r : Refusal). r.code) (sym from-10)

-- an INDX that needs more bits than there are siblings
module _ (i n : ℕ) (large : 2 ^ n ≤ i) where
  pub large-misses : Misses i n
  unfolding leads_of
  large-misses leaf path root l =
      let q : length path / 32 ≡ n = omega arith in
      rw (q, le-ltb i (2 ^ n) large, and-false)

  pub large-refused : (q p : List ℕ) (d s : Bool) → Climbs i n q p → verdict_number (verdict_of q p d s) ≡ 10
  unfolding path_misses first_of when_of
  large-refused q p d s c =
      let misses : path_misses q (body p) ≡ true = rw (c.names, large-misses _ (value_of (body p) PATH) _ c.long) in
      says-left q p d s c.before ∙ rw misses

-- a path that leads to ROOT, and a MIDP that is not before MINT
module _ (q p : List ℕ) (b : Before10 q p) (leads : path_misses q (body p) ≡ false)
    (from : mint_in (body p) ≤ midp_in (body p)) where
  -- a MIDP after MAXT is refused before the signature answers are asked for,
  pub late-refused : (d s : Bool) → maxt_in (body p) < midp_in (body p) → verdict_number (verdict_of q p d s) ≡ 11
  unfolding time_outside any first_of when_of
  late-refused d s h = says-left q p d s b ∙ rw (leads, le-ltb _ _ from, lt-ltb _ _ h)

  -- and where it is not after MAXT, they are all that is left
  pub answers-left : (d s : Bool) → midp_in (body p) ≤ maxt_in (body p) → check_code q p d s ≡ answers_code d s
  unfolding time_outside any first_of when_of
  answers-left d s h = sym (from-10 q p d s b) ∙ rw (leads, le-ltb _ _ from, le-ltb _ _ h)

  pub in-time-passes : midp_in (body p) ≤ maxt_in (body p) → verdict_of q p true true ≡ Ok (window_in (body p))
  unfolding verdict_of answers_code first_of when_of
  in-time-passes h = valid-by _ _ (ap (λ (r : Refusal). r.code) (answers-left true true h))
