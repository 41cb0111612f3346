-- For the private functions: what the structs of code lend.
use Rattle.list_write.specs.declared.server.Server.{Server}
use Rattle.list_write.specs.declared.lending.Lent.{Lent as Parts}
use Rattle.list_write.specs.Given.{Given, given}
use Rattle.list_write.specs.Lent.{Lent, lent}

abbrev pub lent_of : Parts → Lent
lent_of l = lent l.keys.now l.versions.now l.names.now l.name_lengths.now l.addresses.now l.address_lengths.now

abbrev pub given_of : Server → Given
given_of s = given s.name.now s.version s.key.now s.addresses.now
