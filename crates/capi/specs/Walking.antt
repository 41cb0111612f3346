-- The state of a measuring walk, which crosses the C boundary as its seven fields, and what a call of the taker
-- promises: its answer is told by cases.
use Rattle.refusal.specs.declared.Refusal.{Refusal}
use Rattle.std.specs.Prelude.{ℕ, ◌≡◌, List, eqb, Err, Ok, Result}
use Rattle.c_evidence.specs.Walking.{tb_took}
use Rattle.c_evidence.specs.declared.TbTook.{TbTook}
use Rattle.walk.specs.Taking.{Takes, walk_after, pile_after}
use Rattle.walk.specs.declared.Walk.{Walk}
use Rattle.walk.specs.declared.Heard.{Heard}
use Rattle.walk.specs.declared.Said.{Said}

-- the state of these seven
abbrev pub walk_of : List ℕ → ℕ → ℕ → List ℕ → List ℕ → ℕ → ℕ → Walk
walk_of keys count step nonce rand last most =
    record { keys = keys; count = count; step = step; nonce = nonce; rand = rand; last = last; most = most }

-- the state after a start: the walk that was started; a refusal leaves what stood there
abbrev pub walk_started : Result Walk Refusal → Walk → Walk
walk_started (Ok w) before = w
walk_started (Err why) before = before

-- what is heard with a response: of an answer only 1 is a yes
abbrev pub heard_of : ℕ → ℕ → ℕ → ℕ → List ℕ → Heard
heard_of delegation signature sent received rand =
    record {
      delegation = eqb delegation 1;
      signature = eqb signature 1;
      sent = sent;
      received = received;
      rand = rand;
    }

-- the struct tells the answer that is right of the walk, and the state and the pile are afterwards what that same
-- answer leaves of them
pub record Took (w : Walk) (h : Heard) (response pile : List ℕ) (told : TbTook) (next : Walk) (afterwards : List ℕ)
    : Type 0 where
  pub answer : Result Said Refusal
  pub right : Takes w h response pile answer
  pub same : told ≡ tb_took answer
  pub stepped : next ≡ walk_after answer w h response
  pub left : afterwards ≡ pile_after answer w response pile
