use native.Mathlib.Omega.{arith}
use mathlib.Core.Path.{sym, ap}
use lib.ListN.{length}
use Rattle.json_text.proofs.Sizes.{utf8-one, utf8-two, utf8-three, utf8-four}
use Rattle.json_text.proofs.utf8.size.Goals as goal

pub returns-then-c-lt128 : goal.returns-then-c-lt128
returns-then-c-lt128 c = sym (ap length (utf8-one c.args.c c.if-c-lt128.true))

pub returns-then-c-lt2048 : goal.returns-then-c-lt2048
returns-then-c-lt2048 c =
    sym (ap length (utf8-two c.args.c (omega arith) c.if-c-lt2048.true))

pub returns-then-c-lt65536 : goal.returns-then-c-lt65536
returns-then-c-lt65536 c =
    sym (ap length (utf8-three c.args.c (omega arith) c.if-c-lt65536.true))

pub returns-else-c-lt65536 : goal.returns-else-c-lt65536
returns-else-c-lt65536 c = sym (ap length (utf8-four c.args.c (omega arith)))
