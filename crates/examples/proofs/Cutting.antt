-- The cutter's answer on a linked pile, computed from the verdicts on its records.
use Rattle.check_response.specs.declared.Window.{Window}
use Rattle.refusal.specs.declared.Refusal.{Refusal}
use Rattle.std.specs.Prelude.{Err, None, Ok, Option, Result, Some}
use mathlib.Core.Path.{◌≡◌, refl, sym, subst, ap₂}
use mathlib.Core.Bool.{Bool, true, false, ◌&&◌}
use mathlib.Core.List.{List}
use Prim.Native.Nat.{ℕ, ◌≤◌}
use lib.Dec.{T, eqb, eqb→eq}
use lib.ListN.{length}
use mir.Facts.{and_yes}
use Rattle.pile.specs.Links.{linked_of}
use Rattle.pile.specs.Meaning.{GoodPile}
use Rattle.pile_runs.specs.Spans.{Answers}
use Rattle.pile_runs.specs.Convict.{Convicts, verdict_in}
use Rattle.pile_runs.proofs.Find.{run_of, run-exists}
use Rattle.pile_runs.proofs.SamePile.{alike-sym, alike-answer}
use Rattle.refusal.specs.Refusal.{refusal}
use Rattle.pile_report.specs.Report.{judged}
use Rattle.pile_report.specs.Taking.{ConvictsIn, code-18, Takes}
use Rattle.examples.specs.Claims.{Finds, CutterSays}

-- the run of a linked pile with these verdicts
abbrev pub run_on : List (Result Window Refusal) → Option (ℕ × ℕ)
run_on verdicts = run_of (verdict_in verdicts) (λ k. true) (length verdicts)

-- the cutter's answer that it gives
abbrev taken_of : Option (ℕ × ℕ) → Result (ℕ × ℕ) Refusal
taken_of (Some (i, j)) = Ok (i, j)
taken_of None = Err (refusal 18)

takes : (pile answers : List ℕ) (room : ℕ) → GoodPile pile answers → length pile ≤ room → (s : Option (ℕ × ℕ))
    → Answers (ConvictsIn pile answers) s → Takes pile answers room (taken_of s)
takes pile answers room g l (Some (i, j)) a = (g, l, a)
takes pile answers room g l None a = code-18 g l a

finds : (vs : List (Result Window Refusal)) → Finds vs (run_on vs)
finds vs = run-exists (verdict_in vs) (λ k. true) (length vs)

cuts : (vs : List (Result Window Refusal)) → CutterSays vs (taken_of (run_on vs))
cuts vs pile answers room h l =
    let n = length vs in
    let v = judged pile answers in
    takes pile answers room h.good l (run_on vs)
    (subst (λ (m : ℕ). Answers (Convicts v (linked_of pile) m) (run_on vs)) (sym h.many)
    (alike-answer (verdict_in vs) v (λ k. true) (linked_of pile) n
    (λ k u. alike-sym (v k) (verdict_in vs k) (h.same k u))
    (λ k z u. sym (h.links k z u)) (run_on vs) (finds vs)))

-- the run is from i to j, and there is none
abbrev pub is_from : Option (ℕ × ℕ) → ℕ → ℕ → Bool
is_from (Some (a, b)) i j = eqb a i && eqb b j
is_from None i j = false

abbrev pub is_none : Option (ℕ × ℕ) → Bool
is_none (Some (a, b)) = false
is_none None = true

is-from : (s : Option (ℕ × ℕ)) (i j : ℕ) → T (is_from s i j) → s ≡ Some (i, j)
is-from (Some (a, b)) i j t =
    let u = and_yes (eqb a i) (eqb b j) t in
    ap₂ (λ (x y : ℕ). Some (x, y)) (eqb→eq a i u.0) (eqb→eq b j u.1)
is-from None i j t = absurd t

is-none : (s : Option (ℕ × ℕ)) → T (is_none s) → s ≡ None
is-none (Some (a, b)) t = absurd t
is-none None t = refl

found : (vs : List (Result Window Refusal)) (s : Option (ℕ × ℕ)) → run_on vs ≡ s → Finds vs s × CutterSays vs (taken_of s)
found vs s e = subst (λ (x : Option (ℕ × ℕ)). Finds vs x × CutterSays vs (taken_of x)) e (finds vs, cuts vs)

pub run-found : (vs : List (Result Window Refusal)) (i j : ℕ) → T (is_from (run_on vs) i j)
    → Finds vs (Some (i, j)) × CutterSays vs (Ok (i, j))
run-found vs i j t = found vs (Some (i, j)) (is-from (run_on vs) i j t)

pub none_found : (vs : List (Result Window Refusal)) → T (is_none (run_on vs)) → Finds vs None × CutterSays vs (Err (refusal 18))
none_found vs t = found vs None (is-none (run_on vs) t)
