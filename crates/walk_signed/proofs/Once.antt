-- The contract settles the answer, the state and what is left of the pile.
use mathlib.Core.Path.{ap}
use mathlib.Core.List.{List}
use Prim.Native.Nat.{ℕ}
use Rattle.laws.proofs.Once.{Settles}
use Rattle.walk.proofs.Once.{took-once}
use Rattle.walk_signed.specs.Heard.{own_heard}
use Rattle.walk_signed.proofs.taking.take_signed.Kinds as take-signed-kinds
use Rattle.walk_signed.proofs.taking.take_signed.Reads as take-signed-reads

pub take-signed-once : Settles take-signed-kinds.ps take-signed-kinds.r take-signed-reads.Learnt
take-signed-once κs a x u y v p q =
    let r = a.1.1.0.now in
    let h = own_heard a.0 a.1.0.sent a.1.0.received a.1.0.rand r in
    let same = took-once a.0 h r a.1.1.1.0.now x y _ _ p q in
    (same.0, ap (λ (l : List ℕ). (tt, (tt, (tt, (l, tt))))) same.1)
