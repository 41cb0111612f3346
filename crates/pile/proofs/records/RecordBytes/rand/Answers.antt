-- `pile::records::RecordBytes::rand` meets its contract.
use borrow.Author.Rules.{rules}
use Rattle.pile.proofs.records.RecordBytes.rand.Goals as goal

pub returns : goal.returns
returns c = search rules
