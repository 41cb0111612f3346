-- What stands at the place that each of the codes 4 to 7 is told with, and that the place is within the message, or its
-- end.
use Prim.Native.Nat.{ℕ, zero, suc, zero-le, ◌+◌, ◌-◌, ◌*◌, ◌≤◌, ◌<◌}
use mathlib.Core.Path.{◌≡◌, refl, sym, ap, ◌∙◌}
use mathlib.Core.Logic.{◌↔◌}
use mathlib.Core.List.{List, [], ◌∷◌}
use mathlib.Core.Bool.{Bool, true, false, not, cond, true≢false}
use native.Mathlib.Nat.{le_refl, add-zero}
use native.Mathlib.Omega.{arith, by_contra}
use borrow.Author.Tests.{eqb-false, leb-false, lt-leb}
use lib.ListN.{length, take, drop}
use Rattle.laws.specs.Least.{least, somewhere, IsFirst}
use Rattle.laws.proofs.Holds.{fails-exactly, both}
use Rattle.laws.proofs.Least.{somewhere-at, nowhere-at, least_first}
use Rattle.refusal.specs.declared.Refusal.{Refusal}
use Rattle.wire_message.specs.Frame.{not_above, count, tag_at, edge, offset_bad, first_bad_offset, first_low_tag, frame_code}
use Rattle.wire_message.specs.Places.{FirstWrong, OffsetRight, Wrong4, by_length, by_count, by-offset, TagAbove}
use Rattle.wire_message.specs.Places.{Wrong5, Wrong6, RowsRise, Wrong7, WrongAt}
use Rattle.wire_message.specs.Rules.{row, absent, broken, row_absent, row_broken, some_absent, some_broken}
use Rattle.wire_message.specs.declared.rules.TagRule.{TagRule}
use Rattle.wire_message.specs.Rules.{first_broken, message_code}
use Rattle.wire_message.specs.Values.{is_tag, index_of, has, value_at, value_of, value_start}
use Rattle.wire_message.proofs.Cases.{frame-by, message-by}
use Rattle.wire_message.proofs.Codes.{frame-good}
use Rattle.wire_message.specs.Sentences.{Good}
use Rattle.wire_message.proofs.Edges.{offset_word, start-in, value-ends}
use Rattle.wire_message.proofs.Tests.{length-test, count-test, offset-test, first-right, and-test, value-test}

-- a test decides each of n things: the least at which it holds is the first that is not right
first-wrong : (p : ℕ → Bool) (Right : ℕ → Type 0) → ((k : ℕ) → p k ≡ false ↔ Right k) → (n : ℕ) → somewhere p n ≡ true
    → FirstWrong Right n (least p n)
first-wrong p Right test n e =
    let f : IsFirst p n (least p n) = least_first p n refl (somewhere-at p n e).0 in
    record {
      inside = f.inside;
      wrong = λ g. (fails-exactly _).0 ((test _).1 g) f.holds;
      earlier = λ i l. (test i).0 ((fails-exactly _).1 (f.earlier i l));
    }

-- a test that holds refutes what it decides
refuted : {P : Type 0} {b : Bool} → b ≡ false ↔ P → b ≡ true → P → ⊥
refuted test e g = true≢false (sym e ∙ test.1 g)

module _ (m : List ℕ) where
  -- ---- codes 4 and 5

  At4 : Refusal → Type 0
  At4 r = r.code ≡ 4 → Wrong4 m r.at

  frame-4 : At4 (frame_code m)
  unfolding At4
  frame-4 =
      frame-by m At4 (λ e. absurd (omega arith))
      (λ t e. by_length (record { wrong = refuted (length-test m) t; is = refl }))
      (λ s t e. by_count (record { size = s; wrong = refuted (count-test m) t; is = refl; word = refl }))
      (λ s h t e.
      let f : FirstWrong (OffsetRight m) (count m) (first_bad_offset m) =
      first-wrong (offset_bad m) (OffsetRight m) (offset-test m) (count m) t in
      by-offset
      (record {
        size = s;
        head = h;
        place = first_bad_offset m;
        first = f;
        is = refl;
        word = sym (offset_word m (first_bad_offset m) (behind-first (first_bad_offset m) f.wrong));
      }))
      (λ s h o t e. absurd (omega arith))
    where
      -- offset[0] is right
      behind-first : (i : ℕ) → (OffsetRight m i → ⊥) → 0 < i
      behind-first zero w = absurd (w ((offset-test m 0).0 (first-right m)))
      behind-first (suc i) w = omega arith

  At5 : Refusal → Type 0
  At5 r = r.code ≡ 5 → Wrong5 m r.at

  frame-5 : At5 (frame_code m)
  unfolding At5
  frame-5 =
      frame-by m At5 (λ e. absurd (omega arith)) (λ t e. absurd (omega arith)) (λ s t e. absurd (omega arith))
      (λ s h t e. absurd (omega arith))
      (λ s h o t e. record {
        good = record { size = s; head = h; offsets = o };
        place = first_low_tag m;
        first = first-wrong (not_above m (4 * count m)) (TagAbove m) above (count m - 1) t;
        is = refl;
        word = refl;
      })
    where
      above : (k : ℕ) → not_above m (4 * count m) k ≡ false ↔ TagAbove m k
      above k = (leb-false _ _, lt-leb _ _)

  -- a frame has no other code
  frame-low : (frame_code m).code ≤ 5
  frame-low =
      frame-by m (λ r. r.code ≤ 5) zero-le (λ t. omega arith) (λ s t. omega arith) (λ s h t. omega arith)
      (λ s h o t. omega arith)

  frame-in : (frame_code m).at ≤ length m
  frame-in =
      frame-by m (λ r. r.at ≤ length m) zero-le (λ t. zero-le) (λ s t. zero-le)
      (λ s h t. omega (arith, h.fits, (somewhere-at (offset_bad m) (count m) t).0))
      (λ s h o t. omega (arith, h.fits, (somewhere-at (not_above m (4 * count m)) (count m - 1) t).0))

-- ---- laws for codes 6 and 7

not-true : (b : Bool) → not b ≡ true → b ≡ false
not-true true e = absurd (true≢false (sym e))
not-true false e = refl

-- no tag of the message is one that it has not
has-none : (m : List ℕ) (tag : ℕ) → has m tag ≡ false → (i : ℕ) → i < count m → tag_at m i ≡ tag → ⊥
unfolding has index_of somewhere
has-none m tag e i l = eqb-false _ _ (nowhere-at (is_tag m tag) (count m) i e l)

-- as many bytes as were taken, taken again
take_again : (n : ℕ) (xs : List ℕ) → take (length (take n xs)) xs ≡ take n xs
take_again zero xs = refl
take_again (suc n) [] = refl
take_again (suc n) (x ∷ xs) = ap (λ (l : List ℕ). x ∷ l) (take_again n xs)

-- the value of a tag stands at its start
pub value-stands : (m : List ℕ) (tag : ℕ) → take (length (value_of m tag)) (drop (value_start m tag) m) ≡ value_of m tag
unfolding value_at value_of value_start
value-stands m tag = by (has m tag)
  where
    at : ℕ
    at = 8 * count m + edge m (index_of m tag)

    by : (t : Bool) → take (length (cond t (value_at m (index_of m tag)) [])) (drop at m)
        ≡ cond t (value_at m (index_of m tag)) []
    by true = take_again (edge m (index_of m tag + 1) - edge m (index_of m tag)) (drop at m)
    by false = refl

-- rows that rise: a smaller tag stands before
module _ (rows : List TagRule) (rise : RowsRise rows) where
  rows-up : (i d : ℕ) → i + d < length rows → (row rows i).tag ≤ (row rows (i + d)).tag
  rows-up i zero h = rw (add-zero i) (le_refl _)
  rows-up i (suc d) h =
      let e : i + suc d ≡ i + d + 1 = omega arith in
      rw e (omega (arith, rows-up i d (omega arith), rise (i + d) (omega arith)))

  rows-order : (k i : ℕ) → k < length rows → (row rows k).tag < (row rows i).tag → k < i
  rows-order k i l less =
      by_contra (suc k) i
      (λ h. let e : i + (k - i) ≡ k = omega arith in omega (arith, rw e at (rows-up i (k - i) (rw e l))))

-- ---- the codes of a message

module _ (m : List ℕ) (rows : List TagRule) where
  -- 4: the word at its place breaks the rule, and none before it does
  pub place-4 : (message_code m rows).code ≡ 4 → Wrong4 m (message_code m rows).at
  unfolding At4
  place-4 =
      message-by m (At4 m) (λ e. absurd (omega arith)) rows (frame-4 m) (λ a t e. absurd (omega arith))
      (λ a t e. absurd (omega arith))

  -- 5: the tag at its place is not above the one before it, and no word before it breaks a rule
  pub place-5 : (message_code m rows).code ≡ 5 → Wrong5 m (message_code m rows).at
  unfolding At5
  place-5 =
      message-by m (At5 m) (λ e. absurd (omega arith)) rows (frame-5 m) (λ a t e. absurd (omega arith))
      (λ a t e. absurd (omega arith))

  -- 6: no tag of the message is a needed one
  pub place-6 : (message_code m rows).code ≡ 6 → Wrong6 m rows (message_code m rows).at
  unfolding absent
  place-6 =
      message-by m (λ r. r.code ≡ 6 → Wrong6 m rows r.at) (λ e. absurd (omega arith)) rows
      (λ e. absurd (omega (arith, frame-low m))) (λ a t e. lacks t) (λ a t e. absurd (omega arith))
    where
      lacks : some_absent m rows ≡ true → Wrong6 m rows 0
      lacks t =
          let f = somewhere-at (row_absent m rows) (length rows) t in
          let b = both _ _ f.1 in
          record {
            is = refl;
            place = least (row_absent m rows) (length rows);
            inside = f.0;
            needed = b.0;
            missing = has-none m (row rows (least (row_absent m rows) (length rows))).tag (not-true _ b.1);
          }

  -- 7: the value at its place breaks its rule, and no value of a smaller tag does
  pub place-7 : RowsRise rows → (message_code m rows).code ≡ 7 → Wrong7 m rows (message_code m rows).at
  unfolding broken
  place-7 rise =
      message-by m (λ r. r.code ≡ 7 → Wrong7 m rows r.at) (λ e. absurd (omega arith)) rows
      (λ e. absurd (omega (arith, frame-low m))) (λ a t e. absurd (omega arith)) (λ a t e. breaks t)
    where
      breaks : some_broken m rows ≡ true → Wrong7 m rows (value_start m (row rows (first_broken m rows)).tag)
      breaks t =
          let f = somewhere-at (row_broken m rows) (length rows) t in
          let g : IsFirst (row_broken m rows) (length rows) (first_broken m rows) =
          least_first (row_broken m rows) (length rows) refl f.0 in
          let b = both _ _ f.1 in
          record {
            place = first_broken m rows;
            inside = f.0;
            there = b.0;
            wrong = refuted (value-test _ _) b.1;
            smaller = λ k l less there.
                let h : k < first_broken m rows = rows-order rows rise k (first_broken m rows) l less in
                (value-test _ _).0 ((and-test _ _).0 ((fails-exactly _).1 (g.earlier k h)) there);
            is = refl;
            value = value-stands m (row rows (first_broken m rows)).tag;
          }

  -- all four
  pub place-wrong : RowsRise rows → WrongAt m rows (message_code m rows)
  place-wrong rise = record { by_4 = place-4; by-5 = place-5; by-6 = place-6; by-7 = place-7 rise }

  -- a place is within the message, or its end
  pub place_in : (message_code m rows).at ≤ length m
  place_in =
      message-by m (λ r. r.at ≤ length m) zero-le rows (frame-in m) (λ a t. zero-le)
      (λ a t. start-in m (frame-good m _ refl a) _)

-- the place of a value's refusal, told of the message around it, is within that message too
pub value-fits : (m : List ℕ) → Good m → (tag : ℕ) (rows : List TagRule) {r : Refusal} {s : ℕ}
    → r ≡ message_code (value_of m tag) rows → s ≡ value_start m tag → r.at + s ≤ length m
value-fits m g tag rows e f = rw (e, f) (omega (arith, place_in (value_of m tag) rows, value-ends m g tag))
