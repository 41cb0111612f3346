-- A place is within the packet, or its end: what moving a place from a message to what holds it asks.
use Prim.Native.Nat.{ℕ, zero-le, ◌+◌, ◌≤◌}
use mathlib.Core.Path.{◌≡◌, refl}
use mathlib.Core.List.{List}
use mathlib.Core.Bool.{Bool, true, false, cond}
use native.Mathlib.Omega.{arith}
use lib.ListN.{length, length-drop}
use Rattle.laws.proofs.First.{first-keeps, when-keeps, end-keeps}
use Rattle.std.specs.Prelude.{Result, Err}
use Rattle.refusal.specs.Refusal.{refusals, carries, passes, shifted}
use Rattle.refusal.proofs.Passing.{error-is}
use Rattle.refusal.specs.declared.Refusal.{Refusal}
use Rattle.wire_message.specs.Rules.{message_code}
use Rattle.wire_message.specs.declared.rules.TagRule.{TagRule}
use Rattle.wire_message.specs.Sentences.{Good}
use Rattle.wire_message.specs.Tags.{DELE, SREP, CERT}
use Rattle.wire_message.specs.Values.{value_of, value_start}
use Rattle.wire_message.proofs.Codes.{message-good}
use Rattle.wire_message.proofs.Edges.{value-ends}
use Rattle.wire_message.proofs.Places.{place_in, value-fits}
use Rattle.wire_packet.specs.Packet.{body_start, body}
use Rattle.wire_packet.specs.Request.{request_message_code}
use Rattle.wire_packet.specs.Response.{srep, cert, dele, srep_start, cert_start, dele_start, shape_code}
use Rattle.wire_packet.specs.Response.{response_message_code}
use Rattle.wire_packet.specs.Tables.{root_table, srep_table, cert_table, dele_table, request_table}

-- a refusal's place is within bytes, or their end
abbrev In : List ℕ → Refusal → Type 0
In m r = r.at ≤ length m

-- a shifted place is at most the sum
shifted_in : (by n : ℕ) (r : Refusal) → r.at + by ≤ n → (shifted by r).at ≤ n
shifted_in by n r h = go (carries r.code)
  where
    go : (t : Bool) → cond t (r.at + by) r.at ≤ n
    go true = h
    go false = omega arith

-- DELE starts in the message, and the same of its refusal
pub dele-in : (m : List ℕ) → Good m → Good (cert m) → dele_start m + length (dele m) ≤ length m
dele-in m g h = omega (arith, value-ends m g CERT, value-ends (cert m) h DELE)

pub dele-fits : (m : List ℕ) → Good m → Good (cert m) → {r : Refusal} {s : ℕ} → r ≡ message_code (dele m) dele_table
    → s ≡ dele_start m → r.at + s ≤ length m
dele-fits m g h e f = rw (e, f) (omega (arith, place_in (dele m) dele_table, dele-in m g h))

-- ---- the messages of a packet

pub shape-in : (m : List ℕ) → In m (shape_code m)
unfolding shape_code
shape-in m =
    first-keeps refusals (In m) _ _ (place_in m root_table)
    (λ a. let g = message-good m root_table _ refl a in
    first-keeps refusals (In m) _ _
    (shifted_in (srep_start m) _ (message_code (srep m) srep_table) (value-fits m g SREP srep_table refl refl))
    (λ b. first-keeps refusals (In m) _ _
    (shifted_in (cert_start m) _ (message_code (cert m) cert_table) (value-fits m g CERT cert_table refl refl))
    (λ c. let h = message-good (cert m) cert_table _ refl c in
    first-keeps refusals (In m) _ _
    (shifted_in (dele_start m) _ (message_code (dele m) dele_table) (dele-fits m g h refl refl))
    (λ d. end-keeps refusals (In m) zero-le))))

pub request-in : (m : List ℕ) → In m (request_message_code m)
unfolding request_message_code
request-in m =
    first-keeps refusals (In m) _ _ (place_in m request_table)
    (λ a. first-keeps refusals (In m) _ _ (when-keeps refusals (In m) _ _ (λ t. zero-le) zero-le)
    (λ b. first-keeps refusals (In m) _ _ (when-keeps refusals (In m) _ _ (λ t. zero-le) zero-le)
    (λ c. end-keeps refusals (In m) zero-le)))

pub response-in : (m : List ℕ) → In m (response_message_code m)
unfolding response_message_code
response-in m =
    first-keeps refusals (In m) _ _ (shape-in m)
    (λ a. first-keeps refusals (In m) _ _ (when-keeps refusals (In m) _ _ (λ t. zero-le) zero-le)
    (λ b. first-keeps refusals (In m) _ _ (when-keeps refusals (In m) _ _ (λ t. zero-le) zero-le)
    (λ c. first-keeps refusals (In m) _ _ (when-keeps refusals (In m) _ _ (λ t. zero-le) zero-le)
    (λ d. end-keeps refusals (In m) zero-le))))

-- the refusal of a packet's message, which code has as r: its place is within the packet too
pub body-fits : (f : List ℕ → Refusal) → ((m : List ℕ) → (f m).at ≤ length m) → (p : List ℕ) → 12 ≤ length p
    → {m : List ℕ} {r : Refusal} → r ≡ f m → m ≡ body p → r.at + body_start ≤ length p
body-fits f fits p h e b = rw (e, b) (omega (arith, fits (body p), length-drop 12 p))

-- the refusal of DELE in CERT, which code has as r, told of the message around CERT
pub dele-in-cert : (m : List ℕ) → Good m → Good (cert m) → {r : Refusal} {s : ℕ}
    → r ≡ shifted (value_start (cert m) DELE) (message_code (dele m) dele_table) → s ≡ value_start m CERT
    → r.at + s ≤ length m
dele-in-cert m g h e f =
    rw (e, f)
    (omega (
      arith,
      shifted_in (value_start (cert m) DELE) (length (cert m)) (message_code (dele m) dele_table)
          (value-fits (cert m) h DELE dele_table refl refl),
      value-ends m g CERT,
    ))

-- the refusal of a packet's message, which a check gave, told of the packet
pub told-fits : (f : List ℕ → Refusal) → ((m : List ℕ) → (f m).at ≤ length m) → (p : List ℕ) → 12 ≤ length p
    → {m : List ℕ} {r : Result (Unit {0}) Refusal} → r ≡ passes (f m) → m ≡ body p → (e : Refusal) → r ≡ Err e
    → e.at + body_start ≤ length p
told-fits f fits p h {m} told b e is = body-fits f fits p h (error-is (f m) told is) b
