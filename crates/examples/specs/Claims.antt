-- What an example of document 01 claims, by its kind. Each claim is about the definitions that the contracts cite, for
-- all that the example leaves open: every pile with such records, every batch of so many leaves, every request and
-- response of which it is true, every message.
use Rattle.refusal.specs.declared.Refusal.{Refusal}
use Rattle.std.specs.Prelude.{◌≡◌, Bool, true, false, List, ℕ, ◌+◌, ◌*◌, ◌-◌, ◌^◌, ◌≤◌, ◌<◌, length, Err, None, Ok, Option, Result, Some}
use Rattle.wire_message.specs.Frame.{count, tag_at}
use Rattle.wire_message.specs.Rules.{message_code}
use Rattle.wire_message.specs.declared.rules.TagRule.{TagRule}
use Rattle.wire_message.specs.Sentences.{Good}
use Rattle.wire_message.specs.Tags.{PATH}
use Rattle.wire_message.specs.Values.{value_of}
use Rattle.wire_packet.specs.Packet.{packet_of, body}
use Rattle.wire_packet.specs.Request.{request_of, request_bad}
use Rattle.wire_packet.specs.Response.{indx_in, midp_in, mint_in, maxt_in, response_code, response_of}
use Rattle.tree.specs.PathCheck.{leads_of}
use Rattle.tree_build.specs.Leaves.{count_of}
use Rattle.tree_build.specs.Building.{rooted_of, rooted_number, rooted_depth, path_answer, path_bytes}
use Rattle.check_response.specs.Window.{window_of}
use Rattle.check_response.specs.Check.{version_unasked, version_downgraded, nonce_differs, path_misses, window_in, verdict_of}
use Rattle.check_response.specs.Check.{verdict_number}
use Rattle.check_response.specs.declared.Window.{Window}
use Rattle.pile.specs.Pile.{records_in}
use Rattle.pile.specs.Links.{linked_of}
use Rattle.pile.specs.Meaning.{GoodPile}
use Rattle.pile_runs.specs.Alike.{Alike}
use Rattle.pile_runs.specs.Clash.{windows_clash}
use Rattle.pile_runs.specs.Spans.{Answers}
use Rattle.pile_runs.specs.Convict.{Convicts, verdict_in}
use Rattle.refusal.specs.Refusal.{refusal, number_of}
use Rattle.pile_report.specs.Report.{judged}
use Rattle.pile_report.specs.Taking.{Takes}

-- the window of a response that says MIDP and RADI; MINT and MAXT, of which no example speaks, are as wide as can be
infix 80 ◌±◌
abbrev pub ◌±◌ : ℕ → ℕ → Window
midp ± radi = window_of midp radi 0 (2 ^ 64 - 1)

-- ---- the kinds of examples

infixr 70 ◌and◌
pub data Row : Type 0 where
  -- the low end, and the high end, of a window
  low_end high_end : Window → ℕ → Row
  -- the first window contradicts the second: yes or no
  contradicts : Window → Window → Bool → Row
  -- of a linked pile with these verdicts on its records: the places of the run that the cutter finds, or the code where
  -- there is none
  run : List (Result Window Refusal) → ℕ → ℕ → Row
  no_run : List (Result Window Refusal) → ℕ → Row
  -- of so many leaves: the depth d
  depth : ℕ → ℕ → Row
  -- of so many leaves, the one at a place: INDX, and how many siblings its path has
  path : ℕ → ℕ → ℕ → ℕ → Row
  -- INDX in a response with so many siblings: the code
  indx : ℕ → ℕ → ℕ → Row
  -- MIDP is MAXT: the response passes
  at-maxt : Row
  -- MIDP is so much above MAXT: the code
  above-maxt : ℕ → ℕ → Row
  -- a message: the code
  message : List ℕ → ℕ → Row
  -- a message in which two tags are equal: the code
  equal-tags : ℕ → Row
  -- two of them at once
  ◌and◌ : Row → Row → Row

-- ---- what they are about

-- a good pile with these verdicts on its records, whatever their MINT and MAXT (request P9), each after the first
-- linked
pub record Linked (pile answers : List ℕ) (verdicts : List (Result Window Refusal)) : Type 0 where
  pub good : GoodPile pile answers
  pub many : records_in pile ≡ length verdicts
  pub same : (k : ℕ) → k < length verdicts → Alike (judged pile answers k) (verdict_in verdicts k)
  pub links : (k : ℕ) → 0 < k → k < length verdicts → linked_of pile k ≡ true

-- what the search for a run answers where all are linked,
abbrev pub Finds : List (Result Window Refusal) → Option (ℕ × ℕ) → Type 0
Finds verdicts answer = Answers (Convicts (verdict_in verdicts) (λ k. true) (length verdicts)) answer

-- and what the cutter answers to each such pile, where the buffer has room for it
abbrev pub CutterSays : List (Result Window Refusal) → Result (ℕ × ℕ) Refusal → Type 0
CutterSays verdicts answer =
    (pile answers : List ℕ) (room : ℕ) → Linked pile answers verdicts → length pile ≤ room
    → Takes pile answers room answer

-- the response p to the request q: none of 14 and 1 to 9 applies
pub record Before10 (q p : List ℕ) : Type 0 where
  pub request : request_bad q ≡ false
  pub shape : (response_code p).code ≡ 0
  pub version : version_unasked (body q) (body p) ≡ false
  pub highest : version_downgraded (body q) (body p) ≡ false
  pub nonce : nonce_differs (body q) (body p) ≡ false

-- such a response, with this INDX and so many siblings
pub record Climbs (i siblings : ℕ) (q p : List ℕ) : Type 0 where
  pub before : Before10 q p
  pub names : indx_in (body p) ≡ i
  pub long : length (value_of (body p) PATH) ≡ 32 * siblings

-- one to which 10 does not apply either, MIDP is not before MINT, and is k above MAXT
pub record Late (k : ℕ) (q p : List ℕ) : Type 0 where
  pub before : Before10 q p
  pub leads : path_misses q (body p) ≡ false
  pub from : mint_in (body p) ≤ midp_in (body p)
  pub above : midp_in (body p) ≡ maxt_in (body p) + k

-- with this INDX, so many siblings lead from no leaf to any root
abbrev pub Misses : ℕ → ℕ → Type 0
Misses i siblings = (leaf path root : List ℕ) → length path ≡ 32 * siblings → leads_of leaf i path root ≡ false

-- a message whose length, N, header and offsets are right, and of whose tags two, at any two places, are equal
pub record EqualTags (m : List ℕ) : Type 0 where
  pub good : Good m
  pub i : ℕ
  pub j : ℕ
  pub order : i < j
  pub inside : j < count m
  pub same : tag_at m i ≡ tag_at m j

-- every reader gives this code to the message m: by any table, and, where its packet has at most 2,000 bytes, as the
-- message of a request and of a response
pub record Refuses (m : List ℕ) (code : ℕ) : Type 0 where
  pub by-table : (rows : List TagRule) → (message_code m rows).code ≡ code
  pub in-request : length (packet_of m) ≤ 2000 → number_of (request_of (packet_of m)) ≡ code
  pub in-response : length (packet_of m) ≤ 2000 → number_of (response_of (packet_of m)) ≡ code

-- ---- what they claim

-- d and s are the two signature answers
abbrev pub Claim : Row → Type 0
Claim (low_end w n) = w.low ≡ n
Claim (high_end w n) = w.high ≡ n
Claim (contradicts a b answer) = windows_clash a b ≡ answer
Claim (run verdicts i j) = Finds verdicts (Some (i, j)) × CutterSays verdicts (Ok (i, j))
Claim (no_run verdicts code) = Finds verdicts None × CutterSays verdicts (Err (refusal code))
Claim (depth leaves d) =
    (s : List ℕ) → length s ≡ 32 * leaves → (rooted_number (rooted_of s) ≡ 0) × (rooted_depth (rooted_of s) ≡ d)
Claim (path leaves place i siblings) =
    (s : List ℕ) (room : ℕ) → length s ≡ 32 * leaves → 32 * siblings ≤ room
    → (Ok (i, siblings) ≡ path_answer (count_of (length s)) place room)
    × (length (path_bytes s place) ≡ 32 * siblings)
Claim (indx i siblings code) =
    Misses i siblings × ((q p : List ℕ) (d s : Bool) → Climbs i siblings q p → verdict_number (verdict_of q p d s) ≡ code)
Claim at-maxt = (q p : List ℕ) → Late 0 q p → verdict_of q p true true ≡ Ok (window_in (body p))
Claim (above-maxt k code) = (q p : List ℕ) (d s : Bool) → Late k q p → verdict_number (verdict_of q p d s) ≡ code
Claim (message m code) = Refuses m code
Claim (equal-tags code) = (m : List ℕ) → EqualTags m → Refuses m code
Claim (r and s) = Claim r × Claim s
