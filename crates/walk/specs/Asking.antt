-- What comes next (request P10): 28, then 19; or which server, and its nonce. The request goes to the front of the
-- buffer, as every writer's bytes do (`written` of laws).
use Rattle.std.specs.Prelude.{ℕ, cond, [], ◌∷◌, eqb, ltb, Err, Ok, Result}
use Rattle.refusal.specs.Refusal.{first, when}
use Rattle.refusal.specs.declared.Refusal.{Refusal}
use Rattle.walk.specs.State.{ASKED, over_of, server_of}
use Rattle.walk.specs.declared.Walk.{Walk}
use Rattle.walk.specs.declared.Asked.{Asked}

-- with a buffer of room bytes
unfoldable pub ask_code : Walk → ℕ → Refusal
ask_code w room = first (when (over_of w) 28 ∷ when (ltb room ASKED) 19 ∷ [])

unfoldable pub asked_of : Walk → ℕ → Result Asked Refusal
asked_of w room =
    cond (eqb (ask_code w room).code 0) (Ok record { server = server_of w; nonce = w.nonce }) (Err (ask_code w room))

-- its number: 0 where there is a next
abbrev pub asked_number : Result Asked Refusal → ℕ
asked_number (Ok a) = 0
asked_number (Err why) = why.code
