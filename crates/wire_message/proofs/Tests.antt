-- Each test of a message decides a sentence: it is false exactly where the sentence holds.
use Prim.Native.Nat.{ℕ, zero, suc, zero-le, ◌+◌, ◌-◌, ◌*◌, ◌/◌, ◌%◌, ◌≤◌, ◌<◌}
use mathlib.Core.Path.{◌≡◌, refl, sym, ap, ◌∙◌}
use mathlib.Core.Logic.{◌↔◌}
use mathlib.Core.List.{List}
use mathlib.Core.Bool.{Bool, true, false, not, ◌&&◌, true≢false}
use native.Mathlib.Nat.{le_refl}
use native.Mathlib.Numerals.{add-one}
use native.Mathlib.Omega.{arith}
use borrow.Author.Tests.{le-ltb, eq-eqb, ne_eqb, lt-leb, ltb-false, leb-false, eqb-true, eqb-false, not-false}
use lib.ListN.{length}
use Rattle.laws.specs.Least.{somewhere}
use Rattle.laws.specs.Numbers.{le}
use Rattle.laws.proofs.Any.{any-not, any_none, any-parts}
use Rattle.laws.proofs.Least.{nowhere, nowhere-at}
use Rattle.wire_message.specs.Frame.{word, not_above, count, offset, length_bad, count_bad, offset_bad}
use Rattle.wire_message.specs.Frame.{offsets_bad, tags_bad}
use Rattle.wire_message.specs.Places.{OffsetRight}
use Rattle.wire_message.specs.declared.rules.Rule.TheVariants.{Length, Nonzero, Versions, Siblings, Message}
use Rattle.wire_message.specs.Rules.{nonzero_bad, versions_bad}
use Rattle.wire_message.specs.declared.rules.Rule.{Rule}
use Rattle.wire_message.specs.declared.rules.TagRule.{TagRule}
use Rattle.wire_message.specs.Rules.{siblings_bad, value_bad, absent, broken, row_absent, row_broken, some_absent}
use Rattle.wire_message.specs.Rules.{some_broken}
use Rattle.wire_message.specs.Sentences.{LengthGood, CountGood, OffsetsGood, TagsRise, TagsThere, NonzeroNumber}
use Rattle.wire_message.specs.Sentences.{VersionList, SiblingList, KeepsRule, ValuesRight}
use Rattle.wire_message.proofs.Edges.{offset-first}

-- the n words from `at` rise where none of them is followed by one that is not above it
pub words-rise : (s : List ℕ) (at n : ℕ)
    → somewhere (not_above s at) (n - 1) ≡ false ↔ ((k : ℕ) → k + 1 < n → word s at k < word s at (k + 1))
words-rise s at n = (
  λ e k h. leb-false _ _ (nowhere-at (not_above s at) (n - 1) k e (omega arith)),
  λ r. nowhere (not_above s at) (n - 1) (λ k h. lt-leb _ _ (r k (omega arith))),
)

-- a number that is not 0 is above it
positive : {n : ℕ} → (n ≡ 0 → ⊥) → 0 < n
positive {n} h = omega arith

before : (i : ℕ) → suc i - 1 ≡ i
before i = omega arith

module _ (m : List ℕ) where
  -- ---- codes 4 and 5

  pub length-test : length_bad m ≡ false ↔ LengthGood m
  unfolding length_bad
  length-test = (
    λ e.
        let a = any-parts _ _ e in
        let b = any-parts _ _ a.1 in
        record { four = ltb-false _ _ a.0; whole = eqb-true _ _ (not-false _ b.0) },
    λ g. any-not _ (le-ltb _ _ g.four) (any-not _ (ap not (eq-eqb _ _ g.whole)) any_none),
  )

  pub count-test : count_bad m ≡ false ↔ CountGood m
  unfolding count_bad
  count-test = (
    λ e.
        let a = any-parts _ _ e in
        let b = any-parts _ _ a.1 in
        let c = any-parts _ _ b.1 in
        record {
          one = positive (eqb-false (count m) 0 a.0);
          few = ltb-false _ _ b.0;
          fits = ltb-false _ _ c.0;
        },
    λ g.
        any-not _ (ne_eqb (count m) 0 (λ e. omega (arith, g.one)))
        (any-not _ (le-ltb _ _ g.few) (any-not _ (le-ltb _ _ g.fits) any_none)),
  )

  -- the same of a test's answer that code has as t
  pub length-good : (t : Bool) → t ≡ length_bad m → t ≡ false → LengthGood m
  length-good t e f = length-test.0 (sym e ∙ f)

  pub count-good : (t : Bool) → t ≡ count_bad m → t ≡ false → CountGood m
  count-good t e f = count-test.0 (sym e ∙ f)

  pub tags-test : tags_bad m ≡ false ↔ TagsRise m
  tags-test = words-rise m (4 * count m) (count m)

  -- the test of one offset
  pub offset-test : (i : ℕ) → offset_bad m i ≡ false ↔ OffsetRight m i
  offset-test i = (
    λ e.
        let a = any-parts _ _ e in
        let b = any-parts _ _ a.1 in
        let c = any-parts _ _ b.1 in
        record {
          four = eqb-true _ _ (not-false _ a.0);
          order = ltb-false _ _ b.0;
          inside = ltb-false _ _ c.0;
        },
    λ p.
        any-not _ (ap not (eq-eqb _ _ p.four))
        (any-not _ (le-ltb _ _ p.order) (any-not _ (le-ltb _ _ p.inside) any_none)),
  )

  -- of offset[0] nothing is wrong
  pub first-right : offset_bad m 0 ≡ false
  first-right =
      (offset-test 0).1
      (record { four = rw (offset-first m); order = le_refl (offset m 0); inside = rw (offset-first m) zero-le })

  good_placed : OffsetsGood m → (i : ℕ) → i < count m → OffsetRight m i
  good_placed g zero h = (offset-test 0).0 first-right
  good_placed g (suc i) h =
      record {
        four = g.four (suc i) h;
        order = rw (before i, ← add-one i) (g.order i (omega arith));
        inside = g.inside (suc i) h;
      }

  pub offsets-test : offsets_bad m ≡ false ↔ OffsetsGood m
  offsets-test = (
    λ e.
        let right : (i : ℕ) → i < count m → OffsetRight m i =
        λ i h. (offset-test i).0 (nowhere-at (offset_bad m) (count m) i e h) in
        record {
          four = λ i h. (right i h).four;
          order = λ i h. rw (before i, ← add-one i) at (right (suc i) (omega arith)).order;
          inside = λ i h. (right i h).inside;
        },
    λ g. nowhere (offset_bad m) (count m) (λ i h. (offset-test i).1 (good_placed g i h)),
  )

-- ---- codes 6 and 7

pub nonzero-test : (v : List ℕ) → nonzero_bad v ≡ false ↔ NonzeroNumber v
unfolding nonzero_bad
nonzero-test v = (
  λ e.
      let a = any-parts _ _ e in
      let b = any-parts _ _ a.1 in
      record { four = eqb-true _ _ (not-false _ a.0); more = positive (eqb-false (le 4 v 0) 0 b.0) },
  λ g.
      any-not _ (ap not (eq-eqb _ _ g.four))
      (any-not _ (ne_eqb (le 4 v 0) 0 (λ e. omega (arith, g.more))) any_none),
)

pub versions-test : (v : List ℕ) → versions_bad v ≡ false ↔ VersionList v
unfolding versions_bad
versions-test v = (
  λ e.
      let a = any-parts _ _ e in
      let b = any-parts _ _ a.1 in
      let c = any-parts _ _ b.1 in
      let d = any-parts _ _ c.1 in
      let four : 4 ≤ length v = ltb-false _ _ a.0 in
      let few : length v ≤ 128 = ltb-false _ _ b.0 in
      let whole : length v % 4 ≡ 0 = eqb-true _ _ (not-false _ c.0) in
      record { whole = whole; one = omega arith; few = omega arith; rise = (words-rise v 0 (length v / 4)).0 d.0 },
  λ g.
      any-not _ (le-ltb (length v) 4 (omega (arith, g.whole, g.one)))
      (any-not _ (le-ltb 128 (length v) (omega (arith, g.whole, g.few)))
      (any-not _ (ap not (eq-eqb _ _ g.whole)) (any-not _ ((words-rise v 0 (length v / 4)).1 g.rise) any_none))),
)

pub siblings-test : (v : List ℕ) → siblings_bad v ≡ false ↔ SiblingList v
unfolding siblings_bad
siblings-test v = (
  λ e.
      let a = any-parts _ _ e in
      let b = any-parts _ _ a.1 in
      let most : length v ≤ 1024 = ltb-false _ _ a.0 in
      record { whole = eqb-true _ _ (not-false _ b.0); few = omega arith },
  λ g.
      any-not _ (le-ltb 1024 (length v) (omega (arith, g.whole, g.few)))
      (any-not _ (ap not (eq-eqb _ _ g.whole)) any_none),
)

pub value-test : (rule : Rule) (v : List ℕ) → value_bad rule v ≡ false ↔ KeepsRule rule v
unfolding value_bad
value-test (Length n) v = (λ e. eqb-true _ _ (not-false _ e), λ g. ap not (eq-eqb _ _ g))
value-test Nonzero v = nonzero-test v
value-test Versions v = versions-test v
value-test Siblings v = siblings-test v
value-test Message v = (λ e. record {}, λ g. refl)

-- a && b is false exactly where b is, if a is true
pub and-test : (a b : Bool) → (a && b) ≡ false ↔ (a ≡ true → b ≡ false)
and-test true b = (λ e q. e, λ f. f refl)
and-test false b = (λ e q. absurd (true≢false (sym q)), λ f. refl)

module _ (m : List ℕ) (rows : List TagRule) where
  pub absent-test : some_absent m rows ≡ false ↔ TagsThere m rows
  unfolding absent
  absent-test = (
    λ e k h n. not-false _ ((and-test _ _).0 (nowhere-at (row_absent m rows) (length rows) k e h) n),
    λ t. nowhere (row_absent m rows) (length rows) (λ k h. (and-test _ _).1 (λ n. ap not (t k h n))),
  )

  pub broken-test : some_broken m rows ≡ false ↔ ValuesRight m rows
  unfolding broken
  broken-test = (
    λ e k h n. (value-test _ _).0 ((and-test _ _).0 (nowhere-at (row_broken m rows) (length rows) k e h) n),
    λ t. nowhere (row_broken m rows) (length rows) (λ k h. (and-test _ _).1 (λ n. (value-test _ _).1 (t k h n))),
  )
