-- The state after windows that were taken one by one: each is judged as it comes as the every-pair check judges it, and
-- every state there can be is that of some windows.
use Rattle.std.specs.Prelude.{Ok}
use mathlib.Core.Path.{◌≡◌, sym, ap, ap₂, subst, ◌∙◌}
use mathlib.Core.List.{List, [], ◌∷◌, ◌++◌}
use Prim.Native.Nat.{ℕ, ◌+◌, ◌-◌, max}
use native.Mathlib.Numerals.{add-one}
use native.Mathlib.Omega.{arith}
use lib.Dec.{ltb}
use lib.ListN.{length, length-append, get_or-append}
use lib.Seq.{get_or-append_seam}
use Rattle.check_response.specs.Window.{window_of}
use Rattle.check_response.specs.declared.Window.{Window}
use Rattle.pile_runs.proofs.Told.{ltb-same}
use Rattle.pile_tally.specs.EveryPair.{said_in}
use Rattle.pile_tally.specs.Kept.{most_of, low_end, tally_of, tallied_of, AsItGoes}
use Rattle.pile_tally.specs.declared.Tally.{Tally}
use Rattle.pile_tally.specs.declared.Tallied.{Tallied}
use Rattle.pile_tally.proofs.Most.{hit-most, most-same}

-- the largest of a list with one window more
most-more : (ws : List Window) (w : Window)
    → most_of (said_in (ws ++ w ∷ [])) (length (ws ++ w ∷ [])) ≡ max (most_of (said_in ws) (length ws)) (low_end (Ok w))
unfolding most_of
most-more ws w =
    ap (most_of (said_in (ws ++ w ∷ []))) (length-append ws (w ∷ []) ∙ add-one (length ws))
    ∙ ap₂ max
    (most-same (said_in (ws ++ w ∷ [])) (said_in ws) (length ws)
    (λ k l. ap Ok (get_or-append ws (w ∷ []) (window_of 0 0 0 0) k l)))
    (ap (λ (x : Window). low_end (Ok x)) (get_or-append_seam ws w [] (window_of 0 0 0 0)))

pub as-it-goes : (t : Tally) (midp radi : ℕ) → AsItGoes t midp radi (tallied_of t midp radi)
as-it-goes t midp radi ws w e m r = (
  rw (← m, ← r, e) (hit-most (said_in ws) (length ws) (Ok w)),
  ap (λ (x : ℕ). record { most = x }) (rw (← m, ← r, e) (sym (most-more ws w))),
)

-- so both clauses of a taker follow from the second
pub both-clauses : {t : Tally} {midp radi : ℕ} {r : Tallied} → r ≡ tallied_of t midp radi
    → AsItGoes t midp radi r × (r ≡ tallied_of t midp radi)
both-clauses {t} {midp} {radi} e =
    (subst (λ (x : Tallied). AsItGoes t midp radi x) (sym e) (as-it-goes t midp radi), e)

-- any number at all is the state after a window: that with this MIDP and no radius
pub every-state : (t : Tally) → t ≡ tally_of (window_of t.most 0 0 0 ∷ [])
unfolding most_of
every-state t = ap (λ (x : ℕ). record { most = x }) (omega arith)

-- a window does not contradict itself: to keep it first, and to compare it with itself too, says the same
pub itself : (most midp radi : ℕ) → ltb (midp + radi) (max most (midp - radi)) ≡ ltb (midp + radi) most
itself most midp radi =
    ltb-same (midp + radi) (max most (midp - radi)) (midp + radi) most (λ l. omega arith) (λ l. omega arith)
