-- What the codes of a packet and of a request say where they are 0.
use Prim.Native.Nat.{ℕ, ◌≤◌}
use mathlib.Core.Path.{◌≡◌, refl, sym, ap, ◌∙◌}
use mathlib.Core.Bool.{Bool, false}
use mathlib.Core.List.{List, [], ◌∷◌}
use borrow.Author.Tests.{eqb-true, not-false}
use lib.ListN.{length}
use Rattle.laws.proofs.First.{quiet_of, row-quiet}
use Rattle.std.specs.Prelude.{Result}
use Rattle.refusal.specs.Refusal.{refusals, first, passes, shifted, number_of}
use Rattle.refusal.proofs.Passing.{answer-number, passed-by, last-is}
use Rattle.refusal.specs.declared.Refusal.{Refusal}
use Rattle.wire_message.proofs.Codes.{message-good, kept, kept_if}
use Rattle.wire_packet.specs.Facts.{Asks}
use Rattle.wire_packet.specs.Packet.{packet_code, body_start, body}
use Rattle.wire_packet.specs.Request.{request_message_code, request_code, request_bad, request_in, request_of}
use Rattle.wire_packet.specs.Tables.{request_table}
use Rattle.wire_packet.proofs.Packets.{packet-0}

-- a packet has at least its header
pub packet-long : (p : List ℕ) (x : Refusal) → x ≡ packet_code p → x.code ≡ 0 → 12 ≤ length p
packet-long p x e z = (packet-0 p (quiet_of refusals e z)).least

-- the answer to a packet whose message a check of f is asked about, which code has as m
pub message-answers : (f : List ℕ → Refusal) (p : List ℕ) {m : List ℕ} {s : Result (Unit {0}) Refusal}
    → (packet_code p).code ≡ 0 → m ≡ body p → s ≡ passes (shifted body_start (f m))
    → s ≡ passes (first (packet_code p ∷ shifted body_start (f (body p)) ∷ []))
message-answers f p z b told =
    passed-by _ _ _ z (last-is _ (told ∙ ap (λ (m : List ℕ). passes (shifted body_start (f m))) b))

-- the message of a good request
pub asks : (m : List ℕ) → (request_message_code m).code ≡ 0 → Asks m
unfolding request_message_code
asks m e =
    let k = (row-quiet refusals _ _ e).0 in
    record {
      frame = message-good m request_table _ refl k;
      nonc-long = kept m request_table k 2 tt refl;
      srv-long = λ h. kept_if m request_table k 1 tt h;
    }

-- a good packet's message is a good request's
pub request-body : (p : List ℕ) → (request_code p).code ≡ 0 → (12 ≤ length p) × ((request_message_code (body p)).code ≡ 0)
unfolding request_code
request-body p e =
    let a = row-quiet refusals _ _ e in
    (packet-long p _ refl a.0, (row-quiet refusals _ _ a.1).0)

-- a request that is not bad has code 0,
pub lent-good : (q : List ℕ) {t : Bool} → t ≡ request_bad q → t ≡ false → (request_code q).code ≡ 0
unfolding request_bad
lent-good q e f = eqb-true _ _ (not-false _ (sym e ∙ f))

-- and its message is a good request's
pub lent-body : (q : List ℕ) {t : Bool} → t ≡ request_bad q → t ≡ false → (12 ≤ length q) × Asks (body q)
lent-body q e f = let b = request-body q (lent-good q e f) in (b.0, asks (body q) b.1)

-- the answer says the packet's code, in document 01's numbers
pub request-says : (p : List ℕ) → number_of (request_of p) ≡ (request_code p).code
unfolding request_of
request-says p = answer-number (request_code p) (request_in (body p))
