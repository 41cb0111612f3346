-- `check_response::windows::key_in` meets its contract.
use Rattle.check_response.proofs.windows.key_in.Goals as goal

pub value32-requires : goal.value32-requires
value32-requires c =
    let s = c.requires in rw c.dele_of.ensures (s.dele-frame, s.pubk-long)

pub returns : goal.returns
returns c = rw (c.value32.ensures, c.dele_of.ensures)
