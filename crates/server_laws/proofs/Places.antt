-- Beside the code 7 of a response that is not written, 0 is no place: it stands there exactly where RADI is 0, since no
-- value of CERT starts at its first byte.
use mathlib.Core.Bool.{Bool, true≢false}
use mathlib.Core.List.{List}
use mathlib.Core.Logic.{◌↔◌, ⊎_elim}
use mathlib.Core.Path.{◌≡◌, refl, sym, ◌∙◌}
use Prim.Native.Nat.{ℕ, ◌<◌}
use native.Mathlib.Nat.{eq-zero-or-pos}
use native.Mathlib.Omega.{arith}
use borrow.Author.Tests.{eq-eqb, eqb-true}
use Rattle.laws.proofs.First.{first-keeps, when-keeps, end-keeps, test-quiet}
use Rattle.wire_message.specs.Places.{RowsRise}
use Rattle.wire_message.specs.Rules.{message_code}
use Rattle.wire_message.specs.declared.rules.TagRule.{TagRule}
use Rattle.wire_message.specs.Sentences.{Good}
use Rattle.wire_message.specs.Tags.{DELE}
use Rattle.wire_message.specs.Values.{value_start}
use Rattle.wire_message.proofs.Codes.{code-7, message-good}
use Rattle.wire_message.proofs.Places.{place-7}
use Rattle.refusal.specs.Refusal.{refusals, shifted, when}
use Rattle.refusal.specs.declared.Refusal.{Refusal}
use Rattle.server_response.specs.Refusing.{cert_code, reply_code}
use Rattle.server_response.specs.Response.{Reply}
use Rattle.wire_packet.specs.Tables.{cert_table}
use Rattle.wire_packet.proofs.Places.{cert-rises}

-- a place beside 7
abbrev Placed7 : Refusal → Type 0
Placed7 r = r.code ≡ 7 → 0 < r.at

-- a value starts behind the header
start-later : (m : List ℕ) → Good m → (tag : ℕ) → 0 < value_start m tag
unfolding value_start
start-later m g tag = omega (arith, g.head.one)

message-7 : (m : List ℕ) (rows : List TagRule) → RowsRise rows → Placed7 (message_code m rows)
message-7 m rows rise e = rw (place-7 m rows rise e).is (start-later m ((code-7 m rows).0 e).0 _)

shifted-7 : (by : ℕ) (r : Refusal) → 0 < by → Placed7 (shifted by r)
shifted-7 by r h e = rw e (omega arith)

-- another code than 7
other-7 : (P : Refusal → Type 0) (n : ℕ) → (n ≡ 7 → ⊥) → (b : Bool)
    → ((when b n).code ≡ 7 → P (when b n))
other-7 P n h b = when-keeps refusals (λ r. r.code ≡ 7 → P r) b _ (λ t e. absurd (h e)) (λ e. absurd (omega arith))

cert-7 : (cert : List ℕ) → Placed7 (cert_code cert)
unfolding cert_code
cert-7 cert =
    first-keeps refusals Placed7 _ _ (message-7 cert cert_table cert-rises)
    (λ a. first-keeps refusals Placed7 _ _
    (shifted-7 (value_start cert DELE) _ (start-later cert (message-good cert cert_table _ refl a) DELE))
    (λ b. end-keeps refusals Placed7 (λ e. absurd (omega arith))))

module _ (a : Reply) where
  placed : (a.radi ≡ 0 → ⊥) → Placed7 (reply_code a)
  unfolding reply_code
  placed some =
      first-keeps refusals Placed7 _ _ (other-7 (λ r. 0 < r.at) 14 (λ e. omega arith) _)
      (λ c14. first-keeps refusals Placed7 _ _
      (when-keeps refusals Placed7 _ _ (λ t e. absurd (some (eqb-true a.radi 0 t))) (λ e. absurd (omega arith)))
      (λ c7. first-keeps refusals Placed7 _ _ (cert-7 a.cert)
      (λ c. first-keeps refusals Placed7 _ _ (other-7 (λ r. 0 < r.at) 10 (λ e. omega arith) _)
      (λ c10. first-keeps refusals Placed7 _ _ (other-7 (λ r. 0 < r.at) 11 (λ e. omega arith) _)
      (λ c11. first-keeps refusals Placed7 _ _ (other-7 (λ r. 0 < r.at) 23 (λ e. omega arith) _)
      (λ c23. end-keeps refusals Placed7 (λ e. absurd (omega arith))))))))

  abbrev Unplaced7 : Refusal → Type 0
  Unplaced7 r = r.code ≡ 7 → r.at ≡ 0

  unplaced : a.radi ≡ 0 → Unplaced7 (reply_code a)
  unfolding reply_code
  unplaced none =
      first-keeps refusals Unplaced7 _ _ (other-7 (λ r. r.at ≡ 0) 14 (λ e. omega arith) _)
      (λ c14. first-keeps refusals Unplaced7 _ _ (when-keeps refusals Unplaced7 _ _ (λ t e. refl) (λ e. refl))
      (λ c7. absurd (true≢false (sym (eq-eqb a.radi 0 none) ∙ test-quiet refusals _ _ tt c7))))

  -- beside 7 stands the place of a value of CERT, or 0, and 0 exactly where RADI is 0
  pub no_place : (reply_code a).code ≡ 7 → (reply_code a).at ≡ 0 ↔ a.radi ≡ 0
  no_place e =
      (λ z. ⊎_elim (λ r. r) (λ h. absurd (omega (arith, placed (λ (r : a.radi ≡ 0). omega arith) e))) (eq-zero-or-pos a.radi), λ r. unplaced r e)
