-- The codes of a record: of document 01's order, 16, 14 and 1 to 13, none is above 16. So a refusal of a record is told
-- from those of a whole pile, 17 to 19, by its number.
use Rattle.std.specs.Prelude.{Err, Ok}
use Prim.Native.Nat.{ℕ, ◌≤◌}
use mathlib.Core.Path.{◌≡◌}
use mathlib.Core.Bool.{Bool, true, false, cond}
use mathlib.Core.List.{List, [], ◌∷◌}
use native.Mathlib.Omega.{arith}
use lib.Dec.{eqb}
use Rattle.laws.proofs.First.{first-keeps, when-keeps, end-keeps}
use Rattle.refusal.specs.Refusal.{refusals, first, when}
use Rattle.refusal.specs.declared.Refusal.{Refusal}
use Rattle.wire_message.specs.Rules.{message_code}
use Rattle.wire_message.specs.declared.rules.TagRule.{TagRule}
use Rattle.wire_message.proofs.Cases.{frame-by, message-by}
use Rattle.wire_packet.specs.Packet.{packet_code, body}
use Rattle.wire_packet.specs.Response.{srep, cert, dele, shape_code, response_message_code, response_code}
use Rattle.wire_packet.specs.Tables.{root_table, srep_table, cert_table, dele_table}
use Rattle.check_response.specs.Check.{answers_code, agreement_code, check_code, verdict_by}
use Rattle.check_response.specs.declared.Window.{Window}
use Rattle.pile.specs.Pile.{record_at, request_packet, response_packet}
use Rattle.pile.specs.Valid.{record_code, window_at, judge_code, judgement_of}

abbrev Low : Refusal → Type 0
Low r = r.code ≤ 16

-- ---- a row of checks

test : (b : Bool) (n : ℕ) → n ≤ 16 → Low (when b n)
test b n h = when-keeps refusals Low b _ (λ t. h) (omega arith)

then : (a : Refusal) (row : List Refusal) → Low a → Low (first row) → Low (first (a ∷ row))
then a row p q = first-keeps refusals Low a row p (λ z. q)

last : Low (first [])
last = end-keeps refusals Low (omega arith)

-- ---- a response

message-low : (m : List ℕ) (rows : List TagRule) → Low (message_code m rows)
message-low m rows =
    message-by m Low (omega arith) rows
    (frame-by m Low (omega arith) (λ t. omega arith) (λ s t. omega arith) (λ s h t. omega arith) (λ s h o t. omega arith))
    (λ a t. omega arith) (λ a t. omega arith)

shape-low : (m : List ℕ) → Low (shape_code m)
unfolding shape_code
shape-low m =
    then _ _ (message-low m root_table)
    (then _ _ (message-low (srep m) srep_table)
    (then _ _ (message-low (cert m) cert_table) (then _ _ (message-low (dele m) dele_table) last)))

response-low : (p : List ℕ) → Low (response_code p)
unfolding response_code response_message_code packet_code
response-low p =
    then _ _
    (then _ _ (test _ 1 (omega arith))
    (then _ _ (test _ 1 (omega arith)) (then _ _ (test _ 2 (omega arith)) (then _ _ (test _ 3 (omega arith)) last))))
    (then _ _
    (then _ _ (shape-low (body p))
    (then _ _ (test _ 8 (omega arith)) (then _ _ (test _ 8 (omega arith)) (then _ _ (test _ 8 (omega arith)) last))))
    last)

-- ---- its check, and a record

check-low : (q p : List ℕ) (d s : Bool) → Low (check_code q p d s)
unfolding check_code agreement_code answers_code
check-low q p d s =
    then _ _ (test _ 14 (omega arith))
    (then _ _ (response-low p)
    (then _ _
    (then _ _ (test _ 8 (omega arith))
    (then _ _ (test _ 8 (omega arith))
    (then _ _ (test _ 9 (omega arith))
    (then _ _ (test _ 10 (omega arith))
    (then _ _ (test _ 11 (omega arith))
    (then _ _ (then _ _ (test _ 12 (omega arith)) (then _ _ (test _ 13 (omega arith)) last)) last))))))
    last))

judge-low : (pile answers : List ℕ) (k : ℕ) → Low (judge_code pile answers k)
unfolding judge_code record_code
judge-low pile answers k =
    then _ _ (test _ 15 (omega arith))
    (then _ _
    (then _ _ (test _ 16 (omega arith))
    (then _ _
    (check-low (request_packet (record_at pile k)) (response_packet (record_at pile k)) _ _) last))
    last)

by-low : (r : Refusal) (w : Window) → Low r → {why : Refusal} → verdict_by r w ≡ Err why → Low why
by-low r w low {why} = go (eqb r.code 0)
  where
    go : (b : Bool) → cond b (Ok w) (Err r) ≡ Err why → Low why
    go true e = absurd (let z : ◌≡◌ {A = ℕ} 0 1 = cc in omega arith)
    go false e = let same : r ≡ why = cc in rw same at low

-- so a record that is refused has no code above 16
pub refused-low : (pile answers : List ℕ) (k : ℕ) {why : Refusal} → (judgement_of pile answers k).verdict ≡ Err why
    → why.code ≤ 16
unfolding judgement_of
refused-low pile answers k e = by-low (judge_code pile answers k) (window_at pile k) (judge-low pile answers k) e
