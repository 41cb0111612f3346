-- Verdicts that differ in MINT and MAXT at the most (request P9): windows with one MIDP and one RADI, or one refusal.
-- Piles with such verdicts get the same run: `same-run`.
use Rattle.check_response.specs.declared.Window.{Window}
use Rattle.refusal.specs.declared.Refusal.{Refusal}
use Rattle.std.specs.Prelude.{◌≡◌, Err, Ok, Result}

abbrev pub Alike : Result Window Refusal → Result Window Refusal → Type 0
Alike (Ok a) (Ok b) = (a.midp ≡ b.midp) × (a.radi ≡ b.radi)
Alike (Err x) (Err y) = x ≡ y
Alike (Ok a) (Err y) = ⊥
Alike (Err x) (Ok b) = ⊥
