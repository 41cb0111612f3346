-- Each of the codes 4 to 7 exactly: it is given where all rules before it hold and its own do not.
use Prim.Native.Nat.{ℕ}
use mathlib.Core.Path.{◌≡◌, refl, sym, ◌∙◌}
use mathlib.Core.Logic.{◌↔◌}
use mathlib.Core.List.{List, [], ◌∷◌}
use mathlib.Core.Bool.{Bool, true, false, cond, true≢false}
use native.Mathlib.Omega.{arith}
use lib.Dec.{T, ltb, ltb→lt}
use lib.ListN.{length}
use Rattle.laws.specs.Any.{any}
use Rattle.laws.specs.First.{first_of, when_of}
use Rattle.laws.proofs.Any.{any-not, any_none, any-parts}
use Rattle.laws.proofs.First.{quiet_of}
use Rattle.std.specs.Prelude.{Result, Ok}
use Rattle.refusal.specs.Refusal.{refusals, first, when_at, passed, passes}
use Rattle.refusal.proofs.Passing.{goes-on}
use Rattle.refusal.specs.declared.Refusal.{Refusal}
use Rattle.wire_message.specs.Frame.{length_bad, count_bad, offsets_bad, tags_bad, bad_offset_place, low_tag_place}
use Rattle.wire_message.specs.Frame.{frame_code}
use Rattle.wire_message.specs.Rules.{row, some_absent, some_broken, broken_place, message_code}
use Rattle.wire_message.specs.declared.rules.TagRule.{TagRule}
use Rattle.wire_message.specs.Sentences.{Good, TagsRise, TagsThere, KeepsRule, ValuesRight}
use Rattle.wire_message.specs.Values.{has, value_of}
use Rattle.wire_message.proofs.Cases.{frame-by, message-by}
use Rattle.wire_message.proofs.Tests.{length-test, count-test, offsets-test, tags-test, absent-test, broken-test}

-- ---- four tests, of which the first that holds gives the code

told : Bool → Bool → Bool → Bool → ℕ
told a b c d = cond a 4 (cond b 5 (cond c 6 (cond d 7 0)))

-- the answer is not the first code: its test fails, and the answer is that of the tests behind it
miss : (a : Bool) {x r n : ℕ} → (x ≡ n → ⊥) → cond a x r ≡ n → (a ≡ false) × (r ≡ n)
miss true h e = absurd (h e)
miss false h e = (refl, e)

-- the answer is the first code, which the tests behind it do not give: its test holds
hit : (a : Bool) {x r : ℕ} → (r ≡ x → ⊥) → cond a x r ≡ x → a ≡ true
hit true h e = refl
hit false h e = absurd (h e)

-- a test that decides P holds where P does not
fails : {P : Type 0} (a : Bool) → a ≡ false ↔ P → (P → ⊥) → a ≡ true
fails true p n = refl
fails false p n = absurd (n (p.0 refl))

holds : {P : Type 0} (a : Bool) → a ≡ false ↔ P → a ≡ true → P → ⊥
holds a p e x = true≢false (sym e ∙ p.1 x)

module _ {P Q R S : Type 0} (a b c d : Bool)
    (p : a ≡ false ↔ P) (q : b ≡ false ↔ Q) (r : c ≡ false ↔ R) (s : d ≡ false ↔ S) where
  -- no code past the last
  rest-7 : {n : ℕ} → (7 ≡ n → ⊥) → (0 ≡ n → ⊥) → cond d 7 0 ≡ n → ⊥
  rest-7 h z e = z (miss d h e).1

  rest-6 : {n : ℕ} → (6 ≡ n → ⊥) → (7 ≡ n → ⊥) → (0 ≡ n → ⊥) → cond c 6 (cond d 7 0) ≡ n → ⊥
  rest-6 g h z e = rest-7 h z (miss c g e).1

  told-4 : told a b c d ≡ 4 ↔ (P → ⊥)
  unfolding told
  told-4 = (
    λ e.
        holds a p
        (hit a
        (λ f. rest-6 (λ z. omega arith) (λ z. omega arith) (λ z. omega arith) (miss b (λ z. omega arith) f).1) e),
    λ n. rw (fails a p n),
  )

  told-5 : told a b c d ≡ 5 ↔ (P × (Q → ⊥))
  unfolding told
  told-5 = (
    λ e.
        let f = miss a (λ z. omega arith) e in
        (p.0 f.0, holds b q (hit b (rest-6 (λ z. omega arith) (λ z. omega arith) (λ z. omega arith)) f.1)),
    λ n. rw (p.1 n.0, fails b q n.1),
  )

  told-6 : told a b c d ≡ 6 ↔ (P × Q × (R → ⊥))
  unfolding told
  told-6 = (
    λ e.
        let f = miss a (λ z. omega arith) e in
        let g = miss b (λ z. omega arith) f.1 in
        (p.0 f.0, q.0 g.0, holds c r (hit c (rest-7 (λ z. omega arith) (λ z. omega arith)) g.1)),
    λ n. rw (p.1 n.0, q.1 n.1, fails c r n.2),
  )

  told-7 : told a b c d ≡ 7 ↔ (P × Q × R × (S → ⊥))
  unfolding told
  told-7 = (
    λ e.
        let f = miss a (λ z. omega arith) e in
        let g = miss b (λ z. omega arith) f.1 in
        let h = miss c (λ z. omega arith) g.1 in
        (p.0 f.0, q.0 g.0, r.0 h.0, holds d s (hit d (λ z. omega arith) h.1)),
    λ n. rw (p.1 n.0, q.1 n.1, r.1 n.2, fails d s n.3),
  )

  told-0 : told a b c d ≡ 0 ↔ (P × Q × R × S)
  unfolding told
  told-0 = (
    λ e.
        let f = miss a (λ z. omega arith) e in
        let g = miss b (λ z. omega arith) f.1 in
        let h = miss c (λ z. omega arith) g.1 in
        (p.0 f.0, q.0 g.0, r.0 h.0, s.0 (miss d (λ z. omega arith) h.1).0),
    λ n. rw (p.1 n.0, q.1 n.1, r.1 n.2, s.1 n.3),
  )

-- ---- the codes of a message

-- its three tests of code 4 as one
abbrev frame_bad : List ℕ → Bool
frame_bad m = any (length_bad m ∷ count_bad m ∷ offsets_bad m ∷ [])

frame-test : (m : List ℕ) → frame_bad m ≡ false ↔ Good m
frame-test m = (
  λ e.
      let a = any-parts _ _ e in
      let b = any-parts _ _ a.1 in
      let c = any-parts _ _ b.1 in
      record { size = (length-test m).0 a.0; head = (count-test m).0 b.0; offsets = (offsets-test m).0 c.0 },
  λ g.
      any-not _ ((length-test m).1 g.size)
      (any-not _ ((count-test m).1 g.head) (any-not _ ((offsets-test m).1 g.offsets) any_none)),
)

-- the row of its checks gives the code that the tests tell
frame_row : (a b c d : Bool) (x y : ℕ)
    → (first (when_at a 4 0 ∷ when_at b 4 0 ∷ when_at c 4 x ∷ when_at d 5 y ∷ [])).code
    ≡ told (any (a ∷ b ∷ c ∷ [])) d false false
unfolding told any first_of when_of
frame_row true b c d x y = refl
frame_row false true c d x y = refl
frame_row false false true d x y = refl
frame_row false false false true x y = refl
frame_row false false false false x y = refl

-- a code of the frame comes before those of the table
table-row : (x : Refusal) (a b c d : Bool) (y : ℕ) → x.code ≡ told a b false false
    → (first (x ∷ when_at c 6 0 ∷ when_at d 7 y ∷ [])).code ≡ told a b c d
unfolding told first_of when_of
table-row x true b c d y e = rw e
table-row x false true c d y e = rw e
table-row x false false true d y e = rw e
table-row x false false false true y e = rw e
table-row x false false false false y e = rw e

-- a refusal whose number is 0 has no place
abbrev Honest : Refusal → Type 0
Honest r = r.code ≡ 0 → r ≡ passed

module _ (m : List ℕ) where
  frame-told : (frame_code m).code ≡ told (frame_bad m) (tags_bad m) false false
  unfolding frame_code
  frame-told =
      frame_row (length_bad m) (count_bad m) (offsets_bad m) (tags_bad m) (bad_offset_place m) (low_tag_place m)

  -- neither 4 nor 5
  pub frame-0 : (frame_code m).code ≡ 0 ↔ (Good m × TagsRise m)
  frame-0 =
      let t = told-0 _ _ false false (frame-test m) (tags-test m) nothing nothing in
      let from : (frame_code m).code ≡ 0 → Good m × TagsRise m = λ e. let g = t.0 (sym frame-told ∙ e) in (g.0, g.1) in
      (from, λ g. frame-told ∙ t.1 (g.0, g.1, record {}, record {}))
    where
      nothing : false ≡ false ↔ record {}
      nothing = (λ e. record {}, λ g. refl)

  -- where the number is 0 there is no place either: nothing is refused
  pub frame-passed : (frame_code m).code ≡ 0 → frame_code m ≡ passed
  frame-passed =
      frame-by m Honest (λ e. refl) (λ t e. absurd (omega arith)) (λ s t e. absurd (omega arith))
      (λ s h t e. absurd (omega arith)) (λ s h o t e. absurd (omega arith))

  -- the same of a code that a check gave
  pub frame-good : (x : Refusal) → x ≡ frame_code m → x.code ≡ 0 → Good m
  frame-good x e z = (frame-0.0 (quiet_of refusals e z)).0

  -- the same of what a check answered
  pub frame-passes : {r : Result (Unit {0}) Refusal} {u : Unit {0}} → r ≡ passes (frame_code m) → r ≡ Ok u → Good m
  frame-passes e f = (frame-0.0 (goes-on (frame_code m) e f)).0

module _ (m : List ℕ) (rows : List TagRule) where
  code-told : (message_code m rows).code ≡ told (frame_bad m) (tags_bad m) (some_absent m rows) (some_broken m rows)
  unfolding message_code
  code-told =
      table-row (frame_code m) (frame_bad m) (tags_bad m) (some_absent m rows) (some_broken m rows) (broken_place m rows)
      (frame-told m)

  pub code-4 : (message_code m rows).code ≡ 4 ↔ (Good m → ⊥)
  code-4 = rw code-told (told-4 _ _ _ _ (frame-test m) (tags-test m) (absent-test m rows) (broken-test m rows))

  pub code-5 : (message_code m rows).code ≡ 5 ↔ (Good m × (TagsRise m → ⊥))
  code-5 = rw code-told (told-5 _ _ _ _ (frame-test m) (tags-test m) (absent-test m rows) (broken-test m rows))

  pub code-6 : (message_code m rows).code ≡ 6 ↔ (Good m × TagsRise m × (TagsThere m rows → ⊥))
  code-6 = rw code-told (told-6 _ _ _ _ (frame-test m) (tags-test m) (absent-test m rows) (broken-test m rows))

  pub code-7 : (message_code m rows).code ≡ 7 ↔ (Good m × TagsRise m × TagsThere m rows × (ValuesRight m rows → ⊥))
  code-7 = rw code-told (told-7 _ _ _ _ (frame-test m) (tags-test m) (absent-test m rows) (broken-test m rows))

  pub code-0 : (message_code m rows).code ≡ 0 ↔ (Good m × TagsRise m × TagsThere m rows × ValuesRight m rows)
  code-0 = rw code-told (told-0 _ _ _ _ (frame-test m) (tags-test m) (absent-test m rows) (broken-test m rows))

  -- where the number is 0 there is no place either: nothing is refused
  pub code-passed : (message_code m rows).code ≡ 0 → message_code m rows ≡ passed
  code-passed =
      message-by m Honest (λ e. refl) rows (frame-passed m) (λ a t e. absurd (omega arith))
      (λ a t e. absurd (omega arith))

  -- the same of a code that a check gave
  pub message-good : (x : Refusal) → x ≡ message_code m rows → x.code ≡ 0 → Good m
  message-good x e z = (code-0.0 (quiet_of refusals e z)).0

  -- the same of what a check answered
  pub message-passes : {r : Result (Unit {0}) Refusal} {u : Unit {0}} → r ≡ passes (message_code m rows) → r ≡ Ok u
      → Good m
  message-passes e f = (code-0.0 (goes-on (message_code m rows) e f)).0

  -- the value of a needed tag keeps its rule, and so does that of any tag that is there
  pub kept : (message_code m rows).code ≡ 0 → (k : ℕ) → T (ltb k (length rows)) → (row rows k).needed ≡ true
      → KeepsRule (row rows k).rule (value_of m (row rows k).tag)
  kept e k h n = (code-0.0 e).3 k (ltb→lt _ _ h) ((code-0.0 e).2 k (ltb→lt _ _ h) n)

  pub kept_if : (message_code m rows).code ≡ 0 → (k : ℕ) → T (ltb k (length rows)) → has m (row rows k).tag ≡ true
      → KeepsRule (row rows k).rule (value_of m (row rows k).tag)
  kept_if e k h n = (code-0.0 e).3 k (ltb→lt _ _ h) n
