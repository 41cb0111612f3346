use native.Mathlib.Omega.{arith}
use mathlib.Core.Path.{sym, ap}
use lib.ListN.{length}
use Rattle.json_text.proofs.Sizes.{utf8-three, utf8-four}
use Rattle.json_text.proofs.utf8.put_long.Goals as goal

pub put-requires : goal.put-requires
put-requires c =
    omega (
      arith,
      ap length
          (utf8-three c.args.c (omega arith)
          (omega arith)),
    )

pub returns-then-c-lt65536 : goal.returns-then-c-lt65536
returns-then-c-lt65536 c =
    rw (
      utf8-three c.args.c
          (omega arith) (omega arith),
      sym c.tail.ensures,
      sym
          c.tail-then-c-lt65536.ensures,
    ) c.put.ensures

pub put-requires-2 : goal.put-requires-2
put-requires-2 c =
    omega (
      arith,
      ap length
          (utf8-four c.args.c (omega arith)),
    )

pub returns : goal.returns
returns c =
    rw (
      utf8-four
          c.args.c
          (omega arith),
      sym c.tail-2.ensures,
      sym
          c.tail-3.ensures,
      sym
          c.tail-4.ensures,
    ) c.put-2.ensures
