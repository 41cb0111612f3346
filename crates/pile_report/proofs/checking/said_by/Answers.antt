-- `pile_report::checking::said_by` meets its contract. Each arm hands on what the calls before it ensure.
use Rattle.check_response.specs.declared.Window.{Window}
use Rattle.refusal.specs.declared.Refusal.{Refusal}
use Rattle.std.specs.Prelude.{Err, Option, Result}
use mathlib.Core.Path.{◌≡◌, refl, sym, subst}
use mathlib.Core.Bool.{Bool, true, false}
use Prim.Native.Nat.{ℕ, ◌≤◌, min}
use native.Mathlib.Omega.{arith}
use lib.Dec.{T}
use lib.ListN.{replicate, get_or-replicate}
use Rattle.laws.specs.Least.{Never}
use Rattle.pile_runs.specs.Spans.{Answers}
use Rattle.pile_runs.specs.Convict.{verdict_in, flag_in, Convicts}
use Rattle.pile_report.specs.Report.{joined, loose, refused, of-record, code-17, Says}
use Rattle.std.proofs.lemmas.Result.{err_from_is_err_and}
use Rattle.pile_report.proofs.SameArrays.{says-moved}
use Rattle.pile_report.proofs.Says.{span-says, span_report}
use Rattle.pile_report.proofs.checking.said_by.Goals as goal

-- where the run is sought, with all flags set: what its answer comes to
run-says : (v : ℕ → Result Window Refusal) (l : ℕ → Bool) (n : ℕ) → n ≤ 16 → Never (refused v) n → Never (loose l) n → (s : Option (ℕ × ℕ))
    → Answers (Convicts v (flag_in (replicate 16 true)) (min n 16)) s → Says v l n (span_report s)
run-says v l n h f g s a =
    let all = flag_in (replicate 16 true) in
    let whole : min n 16 ≡ n = omega arith in
    span-says v l n f g all (λ k u. subst T (sym (get_or-replicate 16 k true false (omega arith))) tt) s
    (subst (λ (m : ℕ). Answers (Convicts v all m) s) whole a)

pub returns-in_err-verdicts : goal.returns-in_err-verdicts
returns-in_err-verdicts g c = λ v j.
    let s = c.in_err-verdicts.ensures v j in
    let p = err_from_is_err_and c.from_residual.result c.from_residual.ensures.1 in
    rw (p.1, p.2) (of-record s.0 s.1)

pub returns-in-Some : goal.returns-in-Some
returns-in-Some g c = λ v j.
    let s = c.in_ok-verdicts.ensures v j in
    says-moved (verdict_in c.in_ok-verdicts.verdicts) v (joined c.args.pile.now) (joined c.args.pile.now) c.args.n s.1 (λ i h. refl)
    (Err (c.refuse.result, c.in-Some.k)) (rw c.refuse.ensures (code-17 s.0 c.in-Some.ensures))

pub returns : goal.returns
returns g c = λ v j.
    let s = c.in_ok-verdicts.ensures v j in
    says-moved (verdict_in c.in_ok-verdicts.verdicts) v (joined c.args.pile.now) (joined c.args.pile.now) c.args.n s.1 (λ i h. refl)
    c.ok_or.result (rw (c.ok_or.ensures.value, c.refuse-2.ensures)
    (run-says _ _ _ c.requires.most s.0 c.in_default.ensures c.shortest_run.result c.shortest_run.ensures.answers))
