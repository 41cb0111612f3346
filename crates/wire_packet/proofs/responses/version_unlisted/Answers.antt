-- `wire_packet::responses::version_unlisted` meets its contract.
use Rattle.wire_packet.specs.Response.{version_unlisted}
use borrow.Author.Rules.{rules}
use Rattle.wire_packet.proofs.responses.version_unlisted.Goals as goal

pub lacks_version-requires : goal.lacks_version-requires
lacks_version-requires c = rw c.value_of.ensures (search rules)

pub returns : goal.returns
unfolding version_unlisted
returns c =
    rw (c.lacks_version.ensures, c.srep_version.ensures, c.value_of.ensures)
