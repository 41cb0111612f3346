use Prim.Native.Nat.{◌+◌, ◌*◌}
use Rattle.json_strings.specs.Text.{content_at}
use Rattle.base64_strict.specs.Decode.{decode64}
use Rattle.json_base64.specs.Sized.{plain}
use Rattle.json_base64.proofs.Fills.{Filling}
use Rattle.json_base64.proofs.decoding.put_groups.Given as goal

abbrev pub invariant-loop-i : goal.invariant-loop-i
invariant-loop-i l =
    Filling (plain (decode64 (content_at l.s l.at))) l.s (l.at + 4 * l.i) l.initial.out (3 * l.i) l.out
