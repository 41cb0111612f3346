-- What the codes of a response say where they are 0.
use Prim.Native.Nat.{ℕ, ◌≤◌}
use mathlib.Core.Path.{◌≡◌, refl}
use mathlib.Core.List.{List}
use lib.ListN.{length}
use Rattle.laws.proofs.First.{quiet_of, row-quiet}
use Rattle.std.specs.Prelude.{Result, Ok}
use Rattle.refusal.specs.Refusal.{refusals, passes, number_of}
use Rattle.refusal.proofs.Passing.{answer-number, goes-on}
use Rattle.refusal.specs.declared.Refusal.{Refusal}
use Rattle.wire_message.proofs.Codes.{message-good, kept}
use Rattle.wire_packet.specs.Facts.{Shaped}
use Rattle.wire_packet.specs.Packet.{body}
use Rattle.wire_packet.specs.Response.{srep, cert, dele, shape_code, signed_code, response_message_code, response_code}
use Rattle.wire_packet.specs.Response.{response_in, response_of}
use Rattle.wire_packet.specs.Tables.{root_table, srep_table, cert_table, dele_table}
use Rattle.wire_packet.proofs.RequestCodes.{packet-long}

pub shaped : (m : List ℕ) (x : Refusal) → x ≡ shape_code m → x.code ≡ 0 → Shaped m
unfolding shape_code
shaped m x e z =
    let a = row-quiet refusals _ _ (quiet_of refusals e z) in
    let b = row-quiet refusals _ _ a.1 in
    let c = row-quiet refusals _ _ b.1 in
    let d = row-quiet refusals _ _ c.1 in
    record {
      root-frame = message-good m root_table _ refl a.0;
      sig-long = kept m root_table a.0 0 tt refl;
      nonc-long = kept m root_table a.0 1 tt refl;
      type-long = kept m root_table a.0 2 tt refl;
      indx-long = kept m root_table a.0 6 tt refl;
      srep-frame = message-good (srep m) srep_table _ refl b.0;
      ver-long = kept (srep m) srep_table b.0 0 tt refl;
      radi-long = (kept (srep m) srep_table b.0 1 tt refl).four;
      midp-long = kept (srep m) srep_table b.0 2 tt refl;
      rootv-long = kept (srep m) srep_table b.0 4 tt refl;
      cert-frame = message-good (cert m) cert_table _ refl c.0;
      cert-sig-long = kept (cert m) cert_table c.0 0 tt refl;
      dele-frame = message-good (dele m) dele_table _ refl d.0;
      pubk-long = kept (dele m) dele_table d.0 0 tt refl;
      mint-long = kept (dele m) dele_table d.0 1 tt refl;
      maxt-long = kept (dele m) dele_table d.0 2 tt refl;
    }

-- the same of what a check answered
pub shaped-passes : {m : List ℕ} {r : Result (Unit {0}) Refusal} {u : Unit {0}} → r ≡ passes (shape_code m) → r ≡ Ok u
    → Shaped m
shaped-passes {m} e f = shaped m _ refl (goes-on (shape_code m) e f)

-- a good packet's message has the right shape
pub response-body : (p : List ℕ) (x : Refusal) → x ≡ response_code p → x.code ≡ 0 → (12 ≤ length p) × Shaped (body p)
unfolding response_code response_message_code
response-body p x e z =
    let a = row-quiet refusals _ _ (quiet_of refusals e z) in
    let b = row-quiet refusals _ _ a.1 in
    (packet-long p _ refl a.0, shaped (body p) _ refl (row-quiet refusals _ _ b.0).0)

-- and so has that of one whose texts can be signed
pub signed-body : (p : List ℕ) (x : Refusal) → x ≡ signed_code p → x.code ≡ 0 → (12 ≤ length p) × Shaped (body p)
unfolding signed_code
signed-body p x e z =
    let a = row-quiet refusals _ _ (quiet_of refusals e z) in
    (packet-long p _ refl a.0, shaped (body p) _ refl (row-quiet refusals _ _ a.1).0)

-- the answer says the packet's code, in document 01's numbers
pub response-says : (p : List ℕ) → number_of (response_of p) ≡ (response_code p).code
unfolding response_of
response-says p = answer-number (response_code p) (response_in (body p))
