-- `wire_message::rules::value_bad` meets its contract: an arm for each rule.
use Rattle.wire_message.specs.Rules.{value_bad}
use Rattle.wire_message.proofs.rules.value_bad.Goals as goal

pub returns-in-Length : goal.returns-in-Length
unfolding value_bad
returns-in-Length c = rw c.in-Length.is

pub returns-in-Nonzero : goal.returns-in-Nonzero
unfolding value_bad
returns-in-Nonzero c = rw c.in-Nonzero.is c.nonzero_bad.ensures

pub returns-in-Versions : goal.returns-in-Versions
unfolding value_bad
returns-in-Versions c = rw c.in-Versions.is c.versions_bad.ensures

pub returns-in-Siblings : goal.returns-in-Siblings
unfolding value_bad
returns-in-Siblings c = rw c.in-Siblings.is c.siblings_bad.ensures

pub returns-in-Message : goal.returns-in-Message
unfolding value_bad
returns-in-Message c = rw c.in-Message.is
