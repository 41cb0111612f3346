-- server_list/proofs/lookup/find_code/Answers.antt
-- `server_list::lookup::find_code` meets its contract. By the answer of the search.
use Rattle.server_list.proofs.Seeking.{found-passes, refusal-passes}
use Rattle.server_list.proofs.lookup.find_code.Goals as goal

pub returns-in-Ok : goal.returns-in-Ok
returns-in-Ok c = found-passes _ _ _ c.in-Ok.is c.search.ensures

pub returns-in-Err : goal.returns-in-Err
returns-in-Err c = refusal-passes _ _ _ c.in-Err.is c.search.ensures
