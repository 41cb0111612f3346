-- The answers that a host lent on a walk (request P10): those with which each response was accepted, two bytes each in
-- their order, as the answers of a pile stand (document 01).
use Rattle.std.specs.Prelude.{ℕ, List, [], ◌∷◌, ◌++◌, Err, Ok}
use Rattle.pile_signed.specs.OwnAnswers.{answer_byte}
use Rattle.walk.specs.Trace.{Reached}
use Rattle.walk.specs.Trace.Reached.{begun, took}
use Rattle.walk.specs.declared.Walk.{Walk}
use Rattle.walk.specs.declared.Heard.{Heard}
use Rattle.walk.specs.declared.Said.TheVariants.{Next, Ended}

-- of one response: 1 is yes and 0 no
abbrev pub answers_in : Heard → List ℕ
answers_in h = answer_byte h.delegation ∷ answer_byte h.signature ∷ []

unfoldable pub lent : {keys nonce : List ℕ} {most : ℕ} {w : Walk} {buffer : List ℕ}
    → Reached keys nonce most w buffer → List ℕ
lent (begun buffer e) = []
lent (took w buffer h response (Ok (Next v)) way l t) = lent way ++ answers_in h
lent (took w buffer h response (Ok (Ended v r)) way l t) = lent way ++ answers_in h
lent (took w buffer h response (Err why) way l t) = lent way
