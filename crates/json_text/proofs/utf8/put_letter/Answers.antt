use native.Mathlib.Omega.{arith}
use mathlib.Core.Path.{sym, ap}
use lib.ListN.{length}
use Rattle.json_text.proofs.Sizes.{utf8-one, utf8-two}
use Rattle.json_text.proofs.utf8.put_letter.Goals as goal

pub put-requires : goal.put-requires
put-requires c = omega (arith, ap length (utf8-one c.args.c (omega arith)))

pub returns-then-c-lt128 : goal.returns-then-c-lt128
returns-then-c-lt128 c =
    rw (utf8-one c.args.c (omega arith))
    c.put.ensures

pub put-requires-then-c-lt2048 : goal.put-requires-then-c-lt2048
put-requires-then-c-lt2048 c =
    omega (
      arith,
      ap length
          (utf8-two c.args.c (omega arith) (omega arith)),
    )

pub returns-then-c-lt2048 : goal.returns-then-c-lt2048
returns-then-c-lt2048 c =
    rw (
      utf8-two c.args.c (omega arith)
          (omega arith),
      sym c.tail.ensures,
    ) c.put-then-c-lt2048.ensures

pub returns : goal.returns
returns c = c.put_long.ensures
