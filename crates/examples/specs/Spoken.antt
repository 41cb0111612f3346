-- That there is something of which an example speaks: a claim about every pile, request, response or message of some
-- kind says nothing where there is none.
use Rattle.check_response.specs.declared.Window.{Window}
use Rattle.refusal.specs.declared.Refusal.{Refusal}
use Rattle.std.specs.Prelude.{◌≡◌, Bool, true, ◌&&◌, List, [], ◌∷◌, ℕ, ◌*◌, ◌^◌, ◌≤◌, ltb, length, Result}
use Rattle.laws.specs.Bytes.{Bytes}
use Rattle.wire_packet.specs.Packet.{packet_of}
use Rattle.check_response.specs.Check.{answers_code, verdict_by}
use Rattle.examples.specs.Claims.{◌±◌, Row, low_end, high_end, contradicts, run, no_run, depth, path, indx}
use Rattle.examples.specs.Claims.{at-maxt, above-maxt, message, equal-tags, ◌and◌}
use Rattle.examples.specs.Claims.{Linked, Climbs, Late, EqualTags}

-- ---- of an example

-- bytes of which P holds
pub record SomeBytes (P : List ℕ → Type 0) : Type 0 where
  pub it : List ℕ
  pub bytes : Bytes it
  pub holds : P it

-- a pile of bytes, with answers, that is linked and has these verdicts on its records
abbrev pub SomePile : List (Result Window Refusal) → Type 0
SomePile verdicts = SomeBytes (λ pile. SomeBytes (λ answers. Linked pile answers verdicts))

-- a request and a response of which P holds
abbrev pub SomeExchange : (List ℕ → List ℕ → Type 0) → Type 0
SomeExchange P = SomeBytes (λ request. SomeBytes (λ response. P request response))

-- the row speaks of something; one that speaks of no bytes does so by itself
abbrev pub Speaks : Row → Type 0
Speaks (low_end w n) = Unit {0}
Speaks (high_end w n) = Unit {0}
Speaks (contradicts a b answer) = Unit {0}
Speaks (run verdicts i j) = SomePile verdicts
Speaks (no_run verdicts code) = SomePile verdicts
Speaks (depth leaves d) = SomeBytes (λ s. length s ≡ 32 * leaves)
Speaks (path leaves place i siblings) = SomeBytes (λ s. length s ≡ 32 * leaves)
Speaks (indx i siblings code) = SomeExchange (Climbs i siblings)
Speaks at-maxt = SomeExchange (Late 0)
Speaks (above-maxt k code) = SomeExchange (Late k)
Speaks (message m code) = Bytes m × (length (packet_of m) ≤ 2000)
Speaks (equal-tags code) = SomeBytes (λ m. EqualTags m × (length (packet_of m) ≤ 2000))
Speaks (r and s) = Speaks r × Speaks s

abbrev pub EachSpeaks : List Row → Type 0
EachSpeaks [] = Unit {0}
EachSpeaks (r ∷ rs) = Speaks r × EachSpeaks rs

-- ---- of piles, for any windows

-- what a server says in one record of a pile, and the answers on its two signatures
pub record Reply : Type 0 where
  pub midp : ℕ
  pub radi : ℕ
  pub delegation : Bool
  pub signature : Bool

-- its verdict: the window, or 12 or 13 where an answer is no
abbrev pub verdict_on : Reply → Result Window Refusal
verdict_on r = verdict_by (answers_code r.delegation r.signature) (r.midp ± r.radi)

abbrev pub verdicts_on : List Reply → List (Result Window Refusal)
verdicts_on [] = []
verdicts_on (r ∷ rs) = verdict_on r ∷ verdicts_on rs

-- MIDP is a u64, and RADI a u32 that is not 0,
abbrev pub fits : Reply → Bool
fits r = ltb r.midp (2 ^ 64) && (ltb r.radi (2 ^ 32) && ltb 0 r.radi)

-- of each of them
abbrev pub all_fit : List Reply → Bool
all_fit [] = true
all_fit (r ∷ rs) = fits r && all_fit rs
