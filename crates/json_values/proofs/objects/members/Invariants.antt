-- Six things go on at once: the walk, and what is seen of each of five names.
use Prim.Native.Nat.{◌-◌}
use mathlib.Core.Path.{◌≡◌}
use lib.ListN.{length}
use Rattle.json_values.specs.Value.{member_step, value_at, object_of}
use Rattle.json_tokens.specs.Walk.{walked}
use Rattle.json_values.proofs.Finds.{Sofar}
use Rattle.json_values.proofs.objects.members.Given as goal

abbrev pub invariant-loop-j : goal.invariant-loop-j
invariant-loop-j l =
    (walked (length l.s) (member_step l.s (value_at l.s l.depth)) l.k ≡ object_of l.s (value_at l.s l.depth) l.at)
    × Sofar l.s l.a l.depth l.at l.k l.m.a.n l.m.a.v × Sofar l.s l.b l.depth l.at l.k l.m.b.n l.m.b.v × Sofar l.s l.c l.depth l.at l.k l.m.c.n l.m.c.v × Sofar l.s l.d l.depth l.at l.k l.m.d.n l.m.d.v × Sofar l.s l.e l.depth l.at l.k l.m.e.n l.m.e.v

abbrev pub decreases-loop-j : goal.decreases-loop-j
decreases-loop-j l = length l.s - l.k
