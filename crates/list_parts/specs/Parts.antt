-- Parts of a server list (draft 19, section 8.3) by their places, which count from 0: the name and the addresses of a
-- server that we can ask, a source, and where reports go. Order: 24 and 25 of the list, 36, 19.
use Rattle.refusal.specs.declared.Refusal.{Refusal}
use Rattle.std.specs.Prelude.{ℕ, zero, suc, Bool, false, List, [], ◌∷◌, eqb, ltb, length, Err, Ok, Result}
use Rattle.laws.specs.Pick.{pick}
use Rattle.refusal.specs.Refusal.{refusal}
use Rattle.json_text.specs.Octets.{Text, octets, none}
use Rattle.list_read.specs.Server.{Server, Address}
use Rattle.list_read.specs.Listed.{Lists, this, unread}
use Rattle.list_read.specs.Read.{askables, list_code}
use Rattle.list_parts.specs.declared.Addressed.{Addressed}
use Rattle.list_parts.specs.declared.Addressed.TheVariants.{Udp, Tcp}

-- what f says of the element at a place, and d where there is no such place
unfoldable pub nth : {A : Type 0} {B : Type 0} → B → (A → B) → List A → ℕ → B
nth d f [] i = d
nth d f (x ∷ xs) zero = f x
nth d f (x ∷ xs) (suc i) = nth d f xs i

-- ---- Parts: none where the list has no such place

abbrev pub name_of : Server → Text
name_of v = octets v.name

abbrev pub place_of : Address → Text
place_of a = octets a.address

abbrev pub is_tcp : Address → Bool
is_tcp a = a.tcp

-- the j-th address of a server, and whether it is asked over TCP
unfoldable pub address_of : Server → ℕ → Text
address_of v j = nth none place_of v.addresses j

unfoldable pub tcp_of : Server → ℕ → Bool
tcp_of v j = nth false is_tcp v.addresses j

-- the name of the i-th server that we can ask
unfoldable pub name_in : Lists → ℕ → Text
name_in (this l) i = nth none name_of (askables l.servers) i
name_in unread i = none

-- its j-th address
unfoldable pub address_in : Lists → ℕ → ℕ → Text
address_in (this l) i j = nth none (λ v. address_of v j) (askables l.servers) i
address_in unread i j = none

unfoldable pub tcp_in : Lists → ℕ → ℕ → Bool
tcp_in (this l) i j = nth false (λ v. tcp_of v j) (askables l.servers) i
tcp_in unread i j = false

-- the i-th source
unfoldable pub source_in : Lists → ℕ → Text
source_in (this l) i = nth none octets l.sources i
source_in unread i = none

-- where reports go
unfoldable pub reports_in : Lists → Text
reports_in (this l) = l.reports
reports_in unread = none

-- ---- What is answered

-- 36 where there is no such part, 19 where the buffer is too short for it, else how many octets it has
unfoldable pub put_of : Text → ℕ → Result ℕ Refusal
put_of (octets x) room = pick (ltb room (length x)) (Err (refusal 19)) (Ok (length x))
put_of none room = Err (refusal 36)

-- 24 and 25 before
unfoldable pub part_of : Lists → Text → ℕ → Result ℕ Refusal
part_of l t room = pick (eqb (list_code l) 0) (put_of t room) (Err (refusal (list_code l)))

-- the same of an address, with its protocol
abbrev pub addressed_by : Bool → Result ℕ Refusal → Result Addressed Refusal
addressed_by tcp (Ok n) = pick tcp (Ok (Tcp n)) (Ok (Udp n))
addressed_by tcp (Err why) = Err why

-- the number of an answer, 0 where nothing is refused
abbrev pub part_number : Result ℕ Refusal → ℕ
part_number (Ok n) = 0
part_number (Err why) = why.code

abbrev pub addressed_number : Result Addressed Refusal → ℕ
addressed_number (Ok (Udp n)) = 0
addressed_number (Ok (Tcp n)) = 0
addressed_number (Err why) = why.code
