-- `wire_request::texts::write_text` meets its contract. The two pieces follow each other from the front.
use mathlib.Core.Path.{refl}
use mathlib.Core.List.{◌++◌}
use native.Mathlib.Nat.{zero-add}
use native.Mathlib.Omega.{arith}
use lib.ListN.{length, length-append}
use Rattle.laws.proofs.Written.{puts_one, puts-put}
use Rattle.wire_request.proofs.Answered.{writer-short, writer-done}
use Rattle.refusal.specs.Refusal.{passed}
use Rattle.wire_request.proofs.texts.write_text.Goals as goal

pub returns-then-out-n : goal.returns-then-out-n
returns-then-out-n c =
    let a = c.args in
    let w =
    writer-short {x = passed} {why = passed} (a.context.now ++ a.value.now) a.out.now refl refl c.refuse.ensures
    (simp length-append (omega arith)) in
    record { value = w.0; out_after = w.1 }

pub returns : goal.returns
returns c =
    let a = c.args in
    let w1 = puts_one a.context.now (length a.context.now) c.put.ensures (zero-add _) (omega arith) in
    let w =
    writer-done {x = passed} {why = passed} refl refl (puts-put a.value.now _ w1 c.put-2.ensures refl (omega arith)) in
    record { value = w.0; out_after = w.1 }
