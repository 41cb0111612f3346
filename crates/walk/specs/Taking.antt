-- A response taken (request P10): 28, 19, 26, 27, then 1 to 13; or its record is written and the walk moves on.
use Rattle.std.specs.Prelude.{ℕ, ◌+◌, ◌-◌, ◌*◌, ◌≤◌, ◌<◌, ◌≡◌, Bool, List, [], ◌∷◌, ltb, length, take, replicate, Err, Ok, Result}
use Rattle.hash.specs.Hashes.{link_of}
use Rattle.laws.specs.Any.{any}
use Rattle.laws.specs.Pasted.{pasted}
use Rattle.pile.specs.Layout.{RECORD}
use Rattle.pile.specs.Recording.{record_bytes}
use Rattle.refusal.specs.Refusal.{first, when}
use Rattle.refusal.specs.declared.Refusal.{Refusal}
use Rattle.pile_report.specs.Report.{Reports}
use Rattle.check_response.specs.Check.{check_code, window_in}
use Rattle.check_response.specs.declared.Window.{Window}
use Rattle.wire_packet.specs.Packet.{body}
use Rattle.walk.specs.State.{over_of, key_of, request_now}
use Rattle.walk.specs.declared.Walk.{Walk}
use Rattle.walk.specs.declared.Heard.{Heard}
use Rattle.walk.specs.declared.Said.{Said}
use Rattle.walk.specs.declared.Stepped.{Stepped}
use Rattle.walk.specs.declared.Said.TheVariants.{Next, Ended}

-- ---- the codes

-- 26: receive before send, or a send before the last receive
unfoldable pub clock_wrong : Walk → Heard → Bool
clock_wrong w h = any (ltb h.received h.sent ∷ ltb h.sent w.last ∷ [])

-- 27: a delay above the caller's maximum
abbrev pub too_slow : Walk → Heard → Bool
too_slow w h = ltb w.most (h.received - h.sent)

-- 1 to 13, with their places: what the response check says of the answer to the request that was asked. It never says
-- 14: that request is good (`never-14`).
unfoldable pub response_code_now : Walk → Heard → List ℕ → Refusal
response_code_now w h response = check_code (request_now w) response h.delegation h.signature

-- what is asked before the response is looked at, with a pile's buffer of room bytes
unfoldable pub step_code : Walk → Heard → ℕ → Refusal
step_code w h room =
    first
    (when (over_of w) 28
    ∷ when (ltb room (2 * RECORD * w.count)) 19
    ∷ when (clock_wrong w h) 26
    ∷ when (too_slow w h) 27
    ∷ [])

-- the order: that, and then the response
unfoldable pub take_code : Walk → Heard → List ℕ → ℕ → Refusal
take_code w h response room = first (step_code w h room ∷ response_code_now w h response ∷ [])

-- ---- an accepted response

-- its record, with the rand that its nonce was made with
unfoldable pub record_now : Walk → List ℕ → List ℕ
record_now w response = record_bytes (key_of w) w.rand (request_now w) response

-- the buffer with that record behind those before it; every other byte stays
abbrev pub recorded : Walk → List ℕ → List ℕ → List ℕ
recorded w response buffer = pasted buffer (RECORD * w.step) (record_now w response)

-- the state behind it: the next nonce is H(response, rand)
unfoldable pub moved_on : Walk → Heard → List ℕ → Walk
moved_on w h response =
    record {
      keys = w.keys;
      count = w.count;
      step = w.step + 1;
      nonce = link_of response h.rand;
      rand = h.rand;
      last = h.received;
      most = w.most;
    }

-- ---- the answer

-- the pile of n records at the front of a buffer, and as many answers: all yes
abbrev pub pile_of : ℕ → List ℕ → List ℕ
pile_of n buffer = take (RECORD * n) buffer

abbrev pub all_yes : ℕ → List ℕ
all_yes n = replicate (2 * n) 1

-- what is said of a response with the window v once its record is in the buffer. It is that window, and there is a next
-- step; or the walk has ended with two records a server, and with what the report check says of the pile
abbrev pub SaidOf : Walk → Window → List ℕ → Result Said Refusal → Type 0
SaidOf w v buffer (Ok (Next window)) = (w.step + 1 < 2 * w.count) × (window ≡ v)
SaidOf w v buffer (Ok (Ended window r)) =
    (2 * w.count ≤ w.step + 1)
    × Reports (pile_of (2 * w.count) buffer) (all_yes (2 * w.count)) r
    × (window ≡ v)
SaidOf w v buffer (Err why) = ⊥

-- the answer: that, with the response's own window, where nothing is refused, or the first refusal
abbrev pub Takes : Walk → Heard → List ℕ → List ℕ → Result Said Refusal → Type 0
Takes w h response buffer (Ok (Next v)) =
    ((take_code w h response (length buffer)).code ≡ 0)
    × SaidOf w (window_in (body response)) (recorded w response buffer) (Ok (Next v))
Takes w h response buffer (Ok (Ended v r)) =
    ((take_code w h response (length buffer)).code ≡ 0)
    × SaidOf w (window_in (body response)) (recorded w response buffer) (Ok (Ended v r))
Takes w h response buffer (Err why) = (why ≡ take_code w h response (length buffer)) × (why.code ≡ 0 → ⊥)

-- its number and its byte place, 0 where nothing is refused
abbrev pub said_number : Result Said Refusal → ℕ
said_number (Ok (Next v)) = 0
said_number (Ok (Ended v r)) = 0
said_number (Err why) = why.code

abbrev pub said_at : Result Said Refusal → ℕ
said_at (Ok (Next v)) = 0
said_at (Ok (Ended v r)) = 0
said_at (Err why) = why.at

-- of a call, which hands out what is said with the state for the next call: what is said, and that state. A refusal
-- hands out none, and the caller's stays.
abbrev pub said_in : Result Stepped Refusal → Result Said Refusal
said_in (Ok t) = Ok t.said
said_in (Err why) = Err why

abbrev pub next_in : Walk → Result Stepped Refusal → Walk
next_in w (Ok t) = t.walk
next_in w (Err why) = w

-- the state and the buffer afterwards, by the answer: a refusal leaves both
abbrev pub walk_after : Result Said Refusal → Walk → Heard → List ℕ → Walk
walk_after (Ok (Next v)) w h response = moved_on w h response
walk_after (Ok (Ended v r)) w h response = moved_on w h response
walk_after (Err why) w h response = w

abbrev pub pile_after : Result Said Refusal → Walk → List ℕ → List ℕ → List ℕ
pile_after (Ok (Next v)) w response buffer = recorded w response buffer
pile_after (Ok (Ended v r)) w response buffer = recorded w response buffer
pile_after (Err why) w response buffer = buffer
