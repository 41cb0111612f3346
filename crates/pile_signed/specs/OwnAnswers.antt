-- What our own Ed25519 says of the signatures of a pile (request P11), each under the key that stands in its record.
use Rattle.std.specs.Prelude.{ℕ, Bool, true, false, List, [], ◌∷◌}
use Rattle.laws.specs.Flat.{flat}
use Rattle.laws.specs.Upto.{upto}
use Rattle.pile.specs.Pile.{records_in, record_at, key_in, response_packet}
use Rattle.check_signatures.specs.SignatureAnswers.{delegated, responded}

-- of record k, by the key that stands in it
abbrev pub delegated_at : List ℕ → ℕ → Bool
delegated_at pile k = delegated (key_in (record_at pile k)) (response_packet (record_at pile k))

abbrev pub responded_at : List ℕ → ℕ → Bool
responded_at pile k = responded (response_packet (record_at pile k))

-- an answer as a byte: 1 is yes and 0 no
abbrev pub answer_byte : Bool → ℕ
answer_byte true = 1
answer_byte false = 0

-- the two bytes of record k: the delegation's answer, and then the response's
abbrev pub answers_at : List ℕ → ℕ → List ℕ
answers_at pile k = answer_byte (delegated_at pile k) ∷ answer_byte (responded_at pile k) ∷ []

-- the answers of a pile, those of one record after the other: what is lent beside it where a host asks our Ed25519
unfoldable pub own_answers : List ℕ → List ℕ
own_answers pile = flat (upto (answers_at pile) (records_in pile))
