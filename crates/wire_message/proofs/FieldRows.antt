-- Fields and a table: the message of fields has none of the codes 4 to 7 exactly where the fields keep each row.
use Prim.Native.Nat.{ℕ, zero, suc, suc-le-suc, ◌<◌}
use mathlib.Core.Path.{◌≡◌, refl, sym, ◌∙◌}
use mathlib.Core.Bool.{Bool, true, false, not, ◌&&◌, true≢false}
use mathlib.Core.List.{List, [], ◌∷◌}
use native.Mathlib.Nat.{le_of_suc-le-suc, not-suc-le-zero}
use native.Mathlib.Omega.{arith}
use borrow.Author.Tests.{not-false}
use lib.ListN.{length}
use Rattle.laws.proofs.First.{none-quiet}
use Rattle.refusal.specs.Refusal.{passed, refusals}
use Rattle.wire_message.specs.Encode.{Field, Fields, encode, among, value_among}
use Rattle.wire_message.specs.Rules.{row, value_bad, message_code}
use Rattle.wire_message.specs.declared.rules.Rule.{Rule}
use Rattle.wire_message.specs.declared.rules.TagRule.{TagRule}
use Rattle.wire_message.specs.Sentences.{Holds, MayHold, KeepsRule, TagsThere, ValuesRight}
use Rattle.wire_message.proofs.Codes.{frame-0, code-0, code-passed}
use Rattle.wire_message.proofs.Encoded.{encode-good, has-encoded, value-encoded}
use Rattle.wire_message.proofs.Tests.{and-test, value-test}

-- what a row says of fields: that they hold its tag, or may hold it
abbrev pub Held : Bool → List Field → ℕ → Rule → Type 0
Held true fs tag rule = Holds fs tag rule
Held false fs tag rule = MayHold fs tag rule

module _ (fs : List Field) (tag : ℕ) (rule : Rule) where
  held-there : (b : Bool) → Held b fs tag rule → b ≡ true → among tag fs ≡ true
  held-there true h e = h.there
  held-there false h e = absurd (true≢false (sym e))

  held-right : (b : Bool) → Held b fs tag rule → among tag fs ≡ true → KeepsRule rule (value_among tag fs)
  held-right true h e = h.right
  held-right false h e = h e

  held : (b : Bool) → (b ≡ true → among tag fs ≡ true) → (among tag fs ≡ true → KeepsRule rule (value_among tag fs))
      → Held b fs tag rule
  held true t r = record { there = t refl; right = r (t refl) }
  held false t r = r

-- ---- row by row

module _ (fs : List Field) where
  abbrev RowHeld : TagRule → Type 0
  RowHeld r = Held r.needed fs r.tag r.rule

  -- what each row of a table says of fields
  abbrev pub AllHeld : List TagRule → Type 0
  AllHeld [] = record {}
  AllHeld (r ∷ rows) = RowHeld r × AllHeld rows

  each : (rows : List TagRule) → AllHeld rows → (k : ℕ) → k < length rows → RowHeld (row rows k)
  each [] a k h = absurd (not-suc-le-zero h)
  each (r ∷ rows) a zero h = a.0
  each (r ∷ rows) a (suc k) h = each rows a.1 k (le_of_suc-le-suc h)

  all : (rows : List TagRule) → ((k : ℕ) → k < length rows → RowHeld (row rows k)) → AllHeld rows
  all [] f = record {}
  all (r ∷ rows) f = (f 0 (omega arith), all rows (λ k h. f (suc k) (suc-le-suc h)))

module _ (fs : List Field) (ok : Fields fs) (rows : List TagRule) where
  held-passes : ((k : ℕ) → k < length rows → RowHeld fs (row rows k)) → message_code (encode fs) rows ≡ passed
  held-passes h =
      let f = (frame-0 (encode fs)).0 (none-quiet refusals (encode-good fs ok)) in
      code-passed (encode fs) rows ((code-0 (encode fs) rows).1 (f.0, f.1, there, right))
    where
      there : TagsThere (encode fs) rows
      there k l n = has-encoded fs ok (row rows k).tag ∙ held-there fs _ _ (row rows k).needed (h k l) n

      right : ValuesRight (encode fs) rows
      right k l n =
          rw (value-encoded fs ok (row rows k).tag)
          (held-right fs _ _ (row rows k).needed (h k l) (sym (has-encoded fs ok (row rows k).tag) ∙ n))

  -- fields that keep a table encode to a message with none of the codes 4 to 7,
  pub all-passes : AllHeld fs rows → message_code (encode fs) rows ≡ passed
  all-passes a = held-passes (each fs rows a)

  -- and the other way
  pub passes-all : (message_code (encode fs) rows).code ≡ 0 → AllHeld fs rows
  passes-all e = all fs rows (λ k l. held fs _ _ (row rows k).needed (there k l) (right k l))
    where
      there : (k : ℕ) → k < length rows → (row rows k).needed ≡ true → among (row rows k).tag fs ≡ true
      there k l n = sym (has-encoded fs ok (row rows k).tag) ∙ ((code-0 (encode fs) rows).0 e).2 k l n

      right : (k : ℕ) → k < length rows → among (row rows k).tag fs ≡ true
          → KeepsRule (row rows k).rule (value_among (row rows k).tag fs)
      right k l n =
          rw (value-encoded fs ok (row rows k).tag) at
          (((code-0 (encode fs) rows).0 e).3 k l (has-encoded fs ok (row rows k).tag ∙ n))

-- ---- the same where the rows are tested, and the tests compute

-- the fields keep row k: a needed tag is among them, and the value of a tag that is keeps its rule
pub record Keeps (fs : List Field) (rows : List TagRule) (k : ℕ) : Type 0 where
  pub there : (row rows k).needed && not (among (row rows k).tag fs) ≡ false
  pub right : among (row rows k).tag fs && value_bad (row rows k).rule (value_among (row rows k).tag fs) ≡ false

-- all rows are kept
pub encode-kept : (fs : List Field) → Fields fs → (rows : List TagRule) → ((k : ℕ) → k < length rows → Keeps fs rows k)
    → message_code (encode fs) rows ≡ passed
encode-kept fs ok rows keeps =
    held-passes fs ok rows
    (λ k l. held fs _ _ (row rows k).needed
    (λ n. not-false _ ((and-test _ _).0 (keeps k l).there n))
    (λ n. (value-test _ _).0 ((and-test _ _).0 (keeps k l).right n)))
