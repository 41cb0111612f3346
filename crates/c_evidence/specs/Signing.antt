-- What our own Ed25519 says of a response, as bytes for C: of the delegation's signature and then of the response's, 1
-- for yes and 0 for no.
use Rattle.std.specs.Prelude.{ℕ, List, [], ◌∷◌}
use Rattle.pile_signed.specs.OwnAnswers.{answer_byte}
use Rattle.check_signatures.specs.declared.Verified.{Verified}

abbrev pub tb_answers : Verified → List ℕ
tb_answers a = answer_byte a.delegation ∷ answer_byte a.signature ∷ []
