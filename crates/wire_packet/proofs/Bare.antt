-- No code but 4 to 7 carries a place: of a packet's refusal with another number the place is 0.
use Prim.Native.Nat.{ℕ, ◌+◌, ◌≤◌}
use mathlib.Core.Path.{◌≡◌, refl}
use mathlib.Core.List.{List, [], ◌∷◌}
use mathlib.Core.Bool.{Bool, true, false, cond, ◌&&◌}
use native.Mathlib.Omega.{arith}
use lib.Dec.{leb}
use borrow.Author.Tests.{leb-true}
use Rattle.laws.proofs.First.{first-keeps, when-keeps, end-keeps}
use Rattle.refusal.specs.Refusal.{refusal_at, refusals, first, when, shifted}
use Rattle.refusal.specs.declared.Refusal.{Refusal}
use Rattle.wire_message.specs.Rules.{message_code}
use Rattle.wire_message.specs.declared.rules.TagRule.{TagRule}
use Rattle.wire_message.proofs.Cases.{frame-by, message-by}
use Rattle.wire_packet.specs.Packet.{packet_code, body_start, body}
use Rattle.wire_packet.specs.Places.{Bare}
use Rattle.wire_packet.specs.Request.{request_message_code, request_code}
use Rattle.wire_packet.specs.Response.{srep, cert, dele, srep_start, cert_start, dele_start, shape_code, signed_code}
use Rattle.wire_packet.specs.Response.{response_message_code, response_code}
use Rattle.wire_packet.specs.Tables.{request_table, root_table, srep_table, cert_table, dele_table}

-- ---- laws

-- a check that tells no place
pub when-bare : (b : Bool) (n : ℕ) → Bare (when b n)
when-bare b n = when-keeps refusals Bare b _ (λ t c. refl) (λ c. refl)

-- a row of checks which keep to it
pub first-bare : (a : Refusal) (row : List Refusal) → Bare a → Bare (first row) → Bare (first (a ∷ row))
first-bare a row p q = first-keeps refusals Bare a row p (λ z. q)

pub end-bare : Bare (first [])
end-bare = end-keeps refusals Bare (λ c. refl)

-- a place that is not there is not shifted
shifted-bare : (by : ℕ) (r : Refusal) → Bare r → Bare (shifted by r)
shifted-bare by r bare other = go (leb 4 r.code) (leb r.code 7) refl refl
  where
    go : (s t : Bool) → leb 4 r.code ≡ s → leb r.code 7 ≡ t → cond (s && t) (r.at + by) r.at ≡ 0
    go true true e f = absurd (other (record { least = leb-true _ _ e; most = leb-true _ _ f }))
    go true false e f = bare other
    go false t e f = bare other

-- ---- the messages of a packet

carried : (n place : ℕ) → 4 ≤ n → n ≤ 7 → Bare (refusal_at n place)
carried n place l h other = absurd (other (record { least = l; most = h }))

message-bare : (m : List ℕ) (rows : List TagRule) → Bare (message_code m rows)
message-bare m rows =
    message-by m Bare (λ c. refl) rows (frame-by m Bare (λ c. refl) (λ t. four _) (λ s t. four _) (λ s h t. four _)
    (λ s h o t. carried 5 _ (omega arith) (omega arith))) (λ a t. carried 6 _ (omega arith) (omega arith))
    (λ a t. carried 7 _ (omega arith) (omega arith))
  where
    four : (place : ℕ) → Bare (refusal_at 4 place)
    four place = carried 4 place (omega arith) (omega arith)

shape-bare : (m : List ℕ) → Bare (shape_code m)
unfolding shape_code
shape-bare m =
    first-bare _ _ (message-bare m root_table)
    (first-bare _ _ (shifted-bare (srep_start m) _ (message-bare (srep m) srep_table))
    (first-bare _ _ (shifted-bare (cert_start m) _ (message-bare (cert m) cert_table))
    (first-bare _ _ (shifted-bare (dele_start m) _ (message-bare (dele m) dele_table)) end-bare)))

packet-bare : (p : List ℕ) → Bare (packet_code p)
unfolding packet_code
packet-bare p =
    first-bare _ _ (when-bare _ 1)
    (first-bare _ _ (when-bare _ 1)
    (first-bare _ _ (when-bare _ 2) (first-bare _ _ (when-bare _ 3) end-bare)))

-- ---- packets

-- a packet's own checks, and then those of its message
by-body : (p : List ℕ) (r : Refusal) → Bare r → Bare (first (packet_code p ∷ shifted body_start r ∷ []))
by-body p r bare = first-bare _ _ (packet-bare p) (first-bare _ _ (shifted-bare body_start r bare) end-bare)

pub request-bare : (p : List ℕ) → Bare (request_code p)
unfolding request_code request_message_code
request-bare p =
    by-body p (request_message_code (body p))
    (first-bare _ _ (message-bare (body p) request_table)
    (first-bare _ _ (when-bare _ 8) (first-bare _ _ (when-bare _ 8) end-bare)))

pub signed-bare : (p : List ℕ) → Bare (signed_code p)
unfolding signed_code
signed-bare p = by-body p (shape_code (body p)) (shape-bare (body p))

pub response-bare : (p : List ℕ) → Bare (response_code p)
unfolding response_code response_message_code
response-bare p =
    by-body p (response_message_code (body p))
    (first-bare _ _ (shape-bare (body p))
    (first-bare _ _ (when-bare _ 8) (first-bare _ _ (when-bare _ 8) (first-bare _ _ (when-bare _ 8) end-bare))))
