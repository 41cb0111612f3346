-- `check_response::windows::window_in` meets its contract.
use native.Mathlib.Omega.{arith}
use Rattle.check_response.specs.Check.{window_in}
use Rattle.check_response.proofs.windows.window_in.Goals as goal

pub number64-midp-requires : goal.number64-midp-requires
number64-midp-requires c =
    let s = c.requires in
    rw c.value_of-srep.ensures (s.srep-frame, omega (arith, s.midp-long))

pub number32-radi-requires : goal.number32-radi-requires
number32-radi-requires c =
    let s = c.requires in
    rw c.value_of-srep.ensures (s.srep-frame, omega (arith, s.radi-long))

pub number64-mint-requires : goal.number64-mint-requires
number64-mint-requires c =
    let s = c.requires in
    rw c.dele_of-dele.ensures (s.dele-frame, omega (arith, s.mint-long))

pub number64-maxt-requires : goal.number64-maxt-requires
number64-maxt-requires c =
    let s = c.requires in
    rw c.dele_of-dele.ensures (s.dele-frame, omega (arith, s.maxt-long))

pub returns : goal.returns
unfolding window_in
returns c =
    rw (
      c.window_at.ensures,
      c.number64-maxt.ensures,
      c.number64-mint.ensures,
      c.dele_of-dele.ensures,
      c.number32-radi.ensures,
      c.number64-midp.ensures,
      c.value_of-srep.ensures,
    )
