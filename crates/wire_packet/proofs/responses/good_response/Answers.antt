-- `wire_packet::responses::good_response` meets its contract.
use native.Mathlib.Omega.{arith}
use Rattle.wire_packet.specs.Response.{response_in}
use Rattle.wire_packet.proofs.responses.good_response.Goals as goal

pub number64-midp-requires : goal.number64-midp-requires
number64-midp-requires c =
    let s = c.requires in
    rw c.value_of-srep.ensures (s.srep-frame, omega (arith, s.midp-long))

pub number32-radi-requires : goal.number32-radi-requires
number32-radi-requires c =
    let s = c.requires in
    rw c.value_of-srep.ensures (s.srep-frame, omega (arith, s.radi-long))

pub value32-root-requires : goal.value32-root-requires
value32-root-requires c =
    let s = c.requires in
    rw c.value_of-srep.ensures (s.srep-frame, s.rootv-long)

pub returns : goal.returns
unfolding response_in
returns c =
    rw (
      c.value32-root.ensures,
      c.number32-radi.ensures,
      c.number64-midp.ensures,
      c.value_of-srep.ensures,
      c.number32-indx.ensures,
      c.value32-nonc.ensures,
    )
