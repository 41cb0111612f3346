-- Each operation's contract settles its result: of the part that is handed back, the bytes and the place in memory.
use mathlib.Core.Path.{refl, sym, ◌∙◌}
use Rattle.laws.proofs.Once.{SettlesBy, Settles, SamePart}
use Rattle.server_list.proofs.lookup.find_server.Kinds as find-server-kinds
use Rattle.server_list.proofs.lookup.find_server.Reads as find-server-reads
use Rattle.server_list.proofs.lookup.find_code.Kinds as find-code-kinds
use Rattle.server_list.proofs.lookup.find_code.Reads as find-code-reads
use Rattle.server_list.proofs.lookup.search.Kinds as search-kinds
use Rattle.server_list.proofs.lookup.search.Reads as search-reads

pub find-server-once :
    SettlesBy find-server-kinds.ps find-server-kinds.r (λ κs x y. SamePart x y) find-server-reads.Learnt
find-server-once κs a x u y v p q = ((p.0 ∙ sym q.0, p.1 ∙ sym q.1), refl)

pub find-code-once : Settles find-code-kinds.ps find-code-kinds.r find-code-reads.Learnt
find-code-once κs a x u y v p q = (p ∙ sym q, refl)

pub search-once : Settles search-kinds.ps search-kinds.r search-reads.Learnt
search-once κs a x u y v p q = (p ∙ sym q, refl)
