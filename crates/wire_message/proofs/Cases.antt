-- What holds of each refusal that a frame or a message can have, where the checks before it pass, holds of its refusal.
use mathlib.Core.Path.{◌≡◌}
use mathlib.Core.List.{List}
use mathlib.Core.Bool.{true}
use Prim.Native.Nat.{ℕ}
use Rattle.laws.proofs.First.{first-keeps, when-keeps, end-keeps, test-quiet}
use Rattle.refusal.specs.Refusal.{refusals, refusal_at, passed}
use Rattle.refusal.specs.declared.Refusal.{Refusal}
use Rattle.wire_message.specs.Frame.{length_bad, count_bad, offsets_bad, tags_bad, bad_offset_place, low_tag_place, frame_code}
use Rattle.wire_message.specs.Rules.{some_absent, some_broken, broken_place, message_code}
use Rattle.wire_message.specs.declared.rules.TagRule.{TagRule}
use Rattle.wire_message.specs.Sentences.{LengthGood, CountGood, OffsetsGood}
use Rattle.wire_message.proofs.Tests.{length-test, count-test, offsets-test}

module _ (m : List ℕ) (P : Refusal → Type 0) (none : P passed) where
  pub frame-by : (length_bad m ≡ true → P (refusal_at 4 0)) → (LengthGood m → count_bad m ≡ true → P (refusal_at 4 0))
      → (LengthGood m → CountGood m → offsets_bad m ≡ true → P (refusal_at 4 (bad_offset_place m)))
      → (LengthGood m → CountGood m → OffsetsGood m → tags_bad m ≡ true → P (refusal_at 5 (low_tag_place m)))
      → P (frame_code m)
  unfolding frame_code
  frame-by size head offsets tags =
      first-keeps refusals P _ _ (when-keeps refusals P (length_bad m) _ size none)
      (λ a. let s = (length-test m).0 (test-quiet refusals _ _ tt a) in
      first-keeps refusals P _ _ (when-keeps refusals P (count_bad m) _ (head s) none)
      (λ b. let h = (count-test m).0 (test-quiet refusals _ _ tt b) in
      first-keeps refusals P _ _ (when-keeps refusals P (offsets_bad m) _ (offsets s h) none)
      (λ c. let o = (offsets-test m).0 (test-quiet refusals _ _ tt c) in
      first-keeps refusals P _ _ (when-keeps refusals P (tags_bad m) _ (tags s h o) none)
      (λ d. end-keeps refusals P none))))

  pub message-by : (rows : List TagRule) → P (frame_code m)
      → ((frame_code m).code ≡ 0 → some_absent m rows ≡ true → P (refusal_at 6 0))
      → ((frame_code m).code ≡ 0 → some_broken m rows ≡ true → P (refusal_at 7 (broken_place m rows)))
      → P (message_code m rows)
  unfolding message_code
  message-by rows frame absent broken =
      first-keeps refusals P _ _ frame
      (λ a. first-keeps refusals P _ _ (when-keeps refusals P (some_absent m rows) _ (absent a) none)
      (λ b. first-keeps refusals P _ _ (when-keeps refusals P (some_broken m rows) _ (broken a) none)
      (λ c. end-keeps refusals P none)))
