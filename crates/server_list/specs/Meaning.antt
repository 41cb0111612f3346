-- Document 01's sentences on a lookup. `FindsServer` is what the answer of the search says, case by case, and proved to
-- hold of that answer and no other; the others are proved of the code and of the part that is handed back.
use Rattle.std.specs.Prelude.{◌≡◌, List, [], ℕ, ◌%◌, ◌<◌, length, get_or, Err, Ok, Result}
use Rattle.laws.specs.Least.{IsFirst, Never}
use Rattle.refusal.specs.Refusal.{refusal}
use Rattle.refusal.specs.declared.Refusal.{Refusal}
use Rattle.server_list.specs.Lists.{server_count, srv_in, serves_at}
use Rattle.server_list.specs.declared.Where.{Where}
use Rattle.server_list.specs.declared.Where.TheVariants.{Owner, Shipped}

-- both lists are whole records; an empty list is
pub record WholeLists (owner shipped : List ℕ) : Type 0 where
  pub owner-whole : length owner % 64 ≡ 0
  pub shipped-whole : length shipped % 64 ≡ 0

-- record k of a list is its first one with this SRV value
abbrev pub IsFirstIn : List ℕ → List ℕ → ℕ → Type 0
IsFirstIn list srv k = IsFirst (serves_at srv list) (server_count list) k

-- no record of the list has it
abbrev pub NotIn : List ℕ → List ℕ → Type 0
NotIn list srv = Never (serves_at srv list) (server_count list)

-- a refusal: 21 where either list is not whole records, and else 22 where neither has a record with the value
pub data NotFound (owner shipped srv : List ℕ) : Refusal → Type 0 where
  code-21 : (WholeLists owner shipped → ⊥) → NotFound owner shipped srv (refusal 21)
  code-22 : WholeLists owner shipped → NotIn owner srv → NotIn shipped srv → NotFound owner shipped srv (refusal 22)

-- what each answer says: the place of the record, or a refusal
abbrev pub FindsServer : List ℕ → List ℕ → List ℕ → Result Where Refusal → Type 0
FindsServer owner shipped srv (Ok (Owner k)) = WholeLists owner shipped × IsFirstIn owner srv k
FindsServer owner shipped srv (Ok (Shipped k)) = WholeLists owner shipped × NotIn owner srv × IsFirstIn shipped srv k
FindsServer owner shipped srv (Err why) = NotFound owner shipped srv why

-- record i of some records has the SRV value
pub record HasSrv (srv : List ℕ) (records : List (List ℕ)) (i : ℕ) : Type 0 where
  pub there : i < length records
  pub value : srv_in (get_or records i []) ≡ srv

-- it is the first one: it has the value, no record before it has, and it is the record r
pub record FirstWithSrv (srv : List ℕ) (records : List (List ℕ)) (r : List ℕ) : Type 0 where
  pub place : ℕ
  pub here : HasSrv srv records place
  pub earlier : (i : ℕ) → i < place → HasSrv srv records i → ⊥
  pub is : r ≡ get_or records place []
