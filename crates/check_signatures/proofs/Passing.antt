-- A response passes exactly when document 01's sentence holds with "verifies" for the answers; and a refusal that is
-- not 12 or 13 is told whatever the signatures are.
use Rattle.std.specs.Prelude.{Ok}
use Prim.Native.Nat.{ℕ}
use mathlib.Core.Path.{◌≡◌, refl, sym, ap, ◌∙◌}
use mathlib.Core.Bool.{Bool, true, false}
use mathlib.Core.List.{List}
use mathlib.Core.Logic.{◌↔◌}
use borrow.Author.Tests.{eqb-true, eqb-false}
use lib.Dec.{eqb}
use Rattle.laws.specs.Bytes.{Bytes}
use Rattle.laws.specs.First.{first_of, when_of}
use Rattle.refusal.specs.declared.Refusal.{Refusal}
use Rattle.check_response.specs.Check.{answers_code, check_code, window_in, verdict_of, checked_of}
use Rattle.check_response.specs.Passes.{Passes}
use Rattle.check_response.proofs.Exactly.{passes-code, passes-exactly}
use Rattle.wire_packet.specs.Packet.{body}
use Rattle.wire_packet.specs.Response.{signed_code}
use Rattle.check_signatures.specs.SignatureAnswers.{delegated, responded}
use Rattle.check_signatures.specs.Meaning.{PassesSigned}
use Rattle.check_signatures.proofs.Verdicts.{until-check, same-checked, checked-texts, delegated-as, responded-as}

-- ---- demand 2

-- the sentence does not ask more of the packets where both answers are yes
pub with-answers : {q p : List ℕ} {d s e t : Bool} → e ≡ true → t ≡ true → Passes q p d s → Passes q p e t
with-answers y z o = record {
  request = o.request;
  shape = o.shape;
  nonce = o.nonce;
  version = o.version;
  highest = o.highest;
  path = o.path;
  from = o.from;
  to = o.to;
  delegation = y;
  signature = z;
}

module _ (key q p : List ℕ) where
  -- where the sentence holds with two answers of yes, the answers of our Ed25519 are whether the signatures verify
  texts : Passes q p true true → (signed_code p).code ≡ 0
  texts o = checked-texts q p (passes-code q p true true o)

  -- so the sentence with these answers is the one with "verifies",
  pub passes-alone : Passes q p (delegated key p) (responded p) ↔ PassesSigned key q p
  passes-alone = (
    λ o.
        let rest = with-answers refl refl o in
        let z = texts rest in
        record {
          rest = rest;
          delegation = sym (delegated-as key p z) ∙ o.delegation;
          signature = sym (responded-as key p z) ∙ o.signature;
        },
    λ o.
        let z = texts o.rest in
        with-answers (delegated-as key p z ∙ o.delegation) (responded-as key p z ∙ o.signature) o.rest,
  )

  -- and the check passes exactly where that holds
  pub signed-exactly : Bytes q → Bytes p
      → verdict_of q p (delegated key p) (responded p) ≡ Ok (window_in (body p)) ↔ PassesSigned key q p
  signed-exactly q-bytes p-bytes =
      let exactly = passes-exactly q p (delegated key p) (responded p) q-bytes p-bytes in
      (λ e. passes-alone.0 (exactly.0 e), λ o. exactly.1 (passes-alone.1 o))

-- ---- signatures come last

answers-codes : (d s : Bool) → ((answers_code d s).code ≡ 0 → ⊥) → ((answers_code d s).code ≡ 12 → ⊥)
    → ((answers_code d s).code ≡ 13 → ⊥) → ⊥
unfolding answers_code when_of first_of
answers-codes true true a b c = a refl
answers-codes true false a b c = c refl
answers-codes false true a b c = b refl
answers-codes false false a b c = b refl

module _ (q p : List ℕ) (d s e t : Bool) where
  pub code-whatever : ((check_code q p d s).code ≡ 0 → ⊥) → ((check_code q p d s).code ≡ 12 → ⊥)
      → ((check_code q p d s).code ≡ 13 → ⊥) → check_code q p e t ≡ check_code q p d s
  code-whatever a b c = by (eqb (check_code q p true true).code 0) refl
    where
      by : (x : Bool) → eqb (check_code q p true true).code 0 ≡ x → check_code q p e t ≡ check_code q p d s
      by true h =
          let f = (until-check q p d s).passed (eqb-true _ 0 h) in
          let n = ap (λ (w : Refusal). w.code) f in
          absurd (answers-codes d s (λ z. a (n ∙ z)) (λ z. b (n ∙ z)) (λ z. c (n ∙ z)))
      by false h =
          let n = eqb-false _ 0 h in
          (until-check q p e t).refused n ∙ sym ((until-check q p d s).refused n)

  -- a refusal of 14 or of 1 to 11 is told whatever the signatures are
  pub told-whatever : ((check_code q p d s).code ≡ 0 → ⊥) → ((check_code q p d s).code ≡ 12 → ⊥)
      → ((check_code q p d s).code ≡ 13 → ⊥) → checked_of q p e t ≡ checked_of q p d s
  told-whatever a b c = same-checked q p e t d s (code-whatever a b c)
