-- Each of the codes 4 to 7 of a packet is told of the message in which it is given, at that message's place in the
-- packet. The tables' rows rise, so that message's place-7 holds of each of them.
use Prim.Native.Nat.{ℕ, zero, suc, ◌+◌, ◌≤◌, ◌<◌}
use mathlib.Core.Path.{◌≡◌, refl, sym, ap, ◌∙◌}
use mathlib.Core.List.{List, [], ◌∷◌}
use mathlib.Core.Bool.{Bool, true}
use native.Mathlib.Omega.{arith}
use borrow.Author.Tests.{le-leb}
use lib.ListN.{length, take, drop}
use lib.Seq.{drop-drop, take-take, take-length}
use Rattle.laws.proofs.First.{first-keeps, when-keeps, end-keeps}
use Rattle.refusal.specs.Refusal.{refusal, passed, refusals, first, when, shifted}
use Rattle.refusal.specs.declared.Refusal.{Refusal}
use Rattle.wire_message.specs.Places.{RowsRise}
use Rattle.wire_message.specs.Rules.{message_code}
use Rattle.wire_message.specs.declared.rules.TagRule.{TagRule}
use Rattle.wire_message.specs.Tags.{DELE, SREP, CERT}
use Rattle.wire_message.specs.Sentences.{Good}
use Rattle.wire_message.specs.Values.{value_start}
use Rattle.wire_message.proofs.Codes.{message-good}
use Rattle.wire_message.proofs.Edges.{value-ends}
use Rattle.wire_message.proofs.Places.{value-stands, place-wrong}
use Rattle.wire_packet.specs.Packet.{body_start, body, packet_code}
use Rattle.wire_packet.specs.Places.{Carries, ToldOf, ToldIn, of-root, of-srep, of-cert, of-dele}
use Rattle.wire_packet.specs.Request.{request_message_code, request_code}
use Rattle.wire_packet.specs.Response.{srep, cert, dele, srep_start, cert_start, dele_start, shape_code, signed_code}
use Rattle.wire_packet.specs.Response.{response_message_code, response_code}
use Rattle.wire_packet.proofs.PlacesIn.{dele-in}
use Rattle.wire_packet.specs.Tables.{request_table, root_table, srep_table, cert_table, dele_table}

-- ---- the tables rise

pub request-rises : RowsRise request_table
request-rises zero h = omega arith
request-rises (suc zero) h = omega arith
request-rises (suc (suc zero)) h = omega arith
request-rises (suc (suc (suc k))) h = absurd (omega arith)

pub root-rises : RowsRise root_table
root-rises zero h = omega arith
root-rises (suc zero) h = omega arith
root-rises (suc (suc zero)) h = omega arith
root-rises (suc (suc (suc zero))) h = omega arith
root-rises (suc (suc (suc (suc zero)))) h = omega arith
root-rises (suc (suc (suc (suc (suc zero))))) h = omega arith
root-rises (suc (suc (suc (suc (suc (suc k)))))) h = absurd (omega arith)

pub srep-rises : RowsRise srep_table
srep-rises zero h = omega arith
srep-rises (suc zero) h = omega arith
srep-rises (suc (suc zero)) h = omega arith
srep-rises (suc (suc (suc zero))) h = omega arith
srep-rises (suc (suc (suc (suc k)))) h = absurd (omega arith)

pub cert-rises : RowsRise cert_table
cert-rises zero h = omega arith
cert-rises (suc k) h = absurd (omega arith)

pub dele-rises : RowsRise dele_table
dele-rises zero h = omega arith
dele-rises (suc zero) h = omega arith
dele-rises (suc (suc k)) h = absurd (omega arith)

-- ---- moving

-- a place that is carried is shifted by the whole way
shifted_at : (by : ℕ) (r : Refusal) → Carries r.code → (shifted by r).at ≡ r.at + by
shifted_at by r c = rw (le-leb 4 r.code c.least, le-leb r.code 7 c.most)

-- what stands in a part stands in the whole
take_within : (t a n : ℕ) (xs : List ℕ) → t + a ≤ n → take a (drop t (take n xs)) ≡ take a (drop t xs)
take_within zero a n xs h = take-take a n xs (omega arith)
take_within (suc t) a zero xs h = absurd (omega arith)
take_within (suc t) a (suc n) [] h = refl
take_within (suc t) a (suc n) (x ∷ xs) h = take_within t a n xs (omega arith)

inner-stands : (whole part sub : List ℕ) (s t : ℕ) → take (length part) (drop s whole) ≡ part
    → take (length sub) (drop t part) ≡ sub → t + length sub ≤ length part
    → take (length sub) (drop (s + t) whole) ≡ sub
inner-stands whole part sub s t e f h =
    ap (take (length sub)) (sym (drop-drop t s whole))
    ∙ sym (take_within t (length sub) (length part) (drop s whole) h)
    ∙ ap (λ (l : List ℕ). take (length sub) (drop t l)) e
    ∙ f

-- no code of 1 to 3 carries a place
Low : Refusal → Type 0
Low r = Carries r.code → ⊥

packet-low : (p : List ℕ) → Low (packet_code p)
unfolding Low packet_code
packet-low p =
    first-keeps refusals Low _ _ (when-keeps refusals Low _ _ (λ t c. omega (arith, c.least)) none)
    (λ a. first-keeps refusals Low _ _ (when-keeps refusals Low _ _ (λ t c. omega (arith, c.least)) none)
    (λ b. first-keeps refusals Low _ _ (when-keeps refusals Low _ _ (λ t c. omega (arith, c.least)) none)
    (λ d. first-keeps refusals Low _ _ (when-keeps refusals Low _ _ (λ t c. omega (arith, c.least)) none)
    (λ e. end-keeps refusals Low none))))
  where
    none : Carries 0 → ⊥
    none c = omega (arith, c.least)

module _ (p : List ℕ) where
  body-stands : take (length (body p)) (drop body_start p) ≡ body p
  body-stands = take-length (body p)

  -- the refusal of the packet's message, told of the packet
  body-told : (rows : List TagRule) → RowsRise rows → Carries (message_code (body p) rows).code
      → ToldOf p (shifted body_start (message_code (body p) rows)) (body p) rows body_start
  body-told rows rise c =
      record {
        stands = body-stands;
        code = refl;
        at = shifted_at body_start (message_code (body p) rows) c;
        wrong = place-wrong (body p) rows rise;
      }

  -- and that of a message within
  part-told : (part : List ℕ) (rows : List TagRule) → RowsRise rows → (start : ℕ)
      → take (length part) (drop start (body p)) ≡ part
      → start + length part ≤ length (body p) → Carries (message_code part rows).code
      → ToldOf p (shifted body_start (shifted start (message_code part rows))) part rows (body_start + start)
  part-told part rows rise start e h c =
      let whole : Carries (shifted start (message_code part rows)).code = record { least = c.least; most = c.most } in
      let outer = shifted_at body_start (shifted start (message_code part rows)) whole in
      let inner = shifted_at start (message_code part rows) c in
      let sum : (message_code part rows).at + start + body_start ≡ (message_code part rows).at + (body_start + start) =
      omega arith in
      record {
        stands = inner-stands p (body p) part body_start start body-stands e h;
        code = refl;
        at = outer ∙ ap (λ (n : ℕ). n + body_start) inner ∙ sum;
        wrong = place-wrong part rows rise;
      }

  -- ---- requests

  AsRequest : Refusal → Type 0
  AsRequest r = Carries r.code → ToldOf p (shifted body_start r) (body p) request_table body_start

  request-told : AsRequest (request_message_code (body p))
  unfolding AsRequest request_message_code
  request-told =
      first-keeps refusals AsRequest _ _ (body-told request_table request-rises)
      (λ a. first-keeps refusals AsRequest _ _ (when-keeps refusals AsRequest _ _ eight none)
      (λ b. first-keeps refusals AsRequest _ _ (when-keeps refusals AsRequest _ _ eight none)
      (λ d. end-keeps refusals AsRequest none)))
    where
      eight : {b : Bool} → b ≡ true → AsRequest (refusal 8)
      eight t c = absurd (omega (arith, c.most))

      none : AsRequest passed
      none c = absurd (omega (arith, c.least))

  -- of a request: the place is that in its message, counted from the packet's first byte
  pub request-place : Carries (request_code p).code → ToldOf p (request_code p) (body p) request_table body_start
  unfolding Low AsRequest request_code
  request-place =
      first-keeps refusals Whole _ _ (λ c. absurd (packet-low p c))
      (λ a. first-keeps refusals Whole (shifted body_start (request_message_code (body p))) []
      (λ c. request-told (record { least = c.least; most = c.most }))
      (λ b. end-keeps refusals Whole (λ c. absurd (omega (arith, c.least)))))
    where
      Whole : Refusal → Type 0
      Whole r = Carries r.code → ToldOf p r (body p) request_table body_start

  -- ---- responses

  AsResponse : Refusal → Type 0
  AsResponse r = Carries r.code → ToldIn p (shifted body_start r)

  shape-told : AsResponse (shape_code (body p))
  unfolding AsResponse shape_code
  shape-told =
      first-keeps refusals AsResponse (message_code m root_table) _ (λ c. of-root (body-told root_table root-rises c))
      (λ a. let g = message-good m root_table _ refl a in
      first-keeps refusals AsResponse (shifted (srep_start m) (message_code (srep m) srep_table)) _
      (λ c. of-srep a
      (part-told (srep m) srep_table srep-rises (srep_start m) (value-stands m SREP) (value-ends m g SREP) (same c)))
      (λ b. first-keeps refusals AsResponse (shifted (cert_start m) (message_code (cert m) cert_table)) _
      (λ c. of-cert a b
      (part-told (cert m) cert_table cert-rises (cert_start m) (value-stands m CERT) (value-ends m g CERT) (same c)))
      (λ d. let h = message-good (cert m) cert_table _ refl d in
      first-keeps refusals AsResponse (shifted (dele_start m) (message_code (dele m) dele_table)) _
      (λ c. of-dele a b d (part-told (dele m) dele_table dele-rises (dele_start m) (dele-stands h) (dele-in m g h) (same c)))
      (λ e. end-keeps refusals AsResponse (λ c. absurd (omega (arith, c.least)))))))
    where
      m : List ℕ
      m = body p

      same : {n : ℕ} → Carries n → Carries n
      same c = c

      dele-stands : Good (cert (body p)) → take (length (dele m)) (drop (dele_start m) m) ≡ dele m
      dele-stands h =
          inner-stands m (cert m) (dele m) (cert_start m) (value_start (cert m) DELE) (value-stands m CERT)
          (value-stands (cert m) DELE) (value-ends (cert m) h DELE)

  response-told : AsResponse (response_message_code (body p))
  unfolding AsResponse response_message_code
  response-told =
      first-keeps refusals AsResponse _ _ shape-told
      (λ a. first-keeps refusals AsResponse _ _ (when-keeps refusals AsResponse _ _ eight none)
      (λ b. first-keeps refusals AsResponse _ _ (when-keeps refusals AsResponse _ _ eight none)
      (λ d. first-keeps refusals AsResponse _ _ (when-keeps refusals AsResponse _ _ eight none)
      (λ e. end-keeps refusals AsResponse none))))
    where
      eight : {b : Bool} → b ≡ true → AsResponse (refusal 8)
      eight t c = absurd (omega (arith, c.most))

      none : AsResponse passed
      none c = absurd (omega (arith, c.least))

  -- a packet whose message's refusal is told so is told so itself
  by-body : (r : Refusal) → AsResponse r → Carries (first (packet_code p ∷ shifted body_start r ∷ [])).code
      → ToldIn p (first (packet_code p ∷ shifted body_start r ∷ []))
  unfolding Low AsResponse
  by-body r told =
      first-keeps refusals Whole _ _ (λ c. absurd (packet-low p c))
      (λ a. first-keeps refusals Whole (shifted body_start r) [] (λ c. told (record { least = c.least; most = c.most }))
      (λ b. end-keeps refusals Whole (λ c. absurd (omega (arith, c.least)))))
    where
      Whole : Refusal → Type 0
      Whole x = Carries x.code → ToldIn p x

  -- of a response: the place is that in one of its four messages, counted from the packet's first byte
  pub response-place : Carries (response_code p).code → ToldIn p (response_code p)
  unfolding response_code
  response-place = by-body (response_message_code (body p)) response-told

  -- and so for the signed texts and parts
  pub signed-place : Carries (signed_code p).code → ToldIn p (signed_code p)
  unfolding signed_code
  signed-place = by-body (shape_code (body p)) shape-told

-- ---- rows of checks above these: what tells a place tells it of the packet p

abbrev pub Told : List ℕ → Refusal → Type 0
Told p r = Carries r.code → ToldIn p r

-- a test that tells a code above 7
pub over-told : (p : List ℕ) (b : Bool) (n : ℕ) → 7 < n → Told p (when b n)
over-told p b n h =
    when-keeps refusals (Told p) b _ (λ t c. absurd (omega (arith, c.most, h)))
    (λ c. absurd (omega (arith, c.least)))

pub row_told : (p : List ℕ) (a : Refusal) (row : List Refusal) → Told p a → Told p (first row)
    → Told p (first (a ∷ row))
row_told p a row t u = first-keeps refusals (Told p) a row t (λ z. u)

pub end-told : (p : List ℕ) → Told p (first [])
end-told p = end-keeps refusals (Told p) (λ c. absurd (omega (arith, c.least)))
