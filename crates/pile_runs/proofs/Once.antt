-- Each operation's contract settles its result.
use mathlib.Core.Path.{refl, sym, ◌∙◌}
use Prim.Native.Nat.{min}
use Rattle.laws.proofs.Once.{Settles}
use Rattle.pile_runs.specs.Convict.{verdict_in, flag_in}
use Rattle.pile_runs.proofs.Find.{run_settled}
use Rattle.pile_runs.proofs.compare.contradicts.Kinds as contradicts-kinds
use Rattle.pile_runs.proofs.compare.contradicts.Reads as contradicts-reads
use Rattle.pile_runs.proofs.Known.shortest_run.Kinds as shortest-run-kinds
use Rattle.pile_runs.proofs.Known.shortest_run.Reads as shortest-run-reads

pub contradicts-once : Settles contradicts-kinds.ps contradicts-kinds.r contradicts-reads.Learnt
contradicts-once κs a x u y v p q = (p ∙ sym q, refl)

pub shortest-run-once : Settles shortest-run-kinds.ps shortest-run-kinds.r shortest-run-reads.Learnt
shortest-run-once κs a x u y v p q =
    (run_settled (verdict_in a.0.now.verdicts) (flag_in a.0.now.linked) (min a.0.now.n 16) x y p.1 q.1, refl)
