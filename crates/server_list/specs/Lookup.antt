-- A lookup (document 01, "Server lists", "Refusal codes" 21 and 22): the owner's list is searched before the shipped
-- list, by SRV, first match wins, and the record itself is handed back as a part of its list. The order is 21, 22.
use Rattle.std.specs.Prelude.{Bool, cond, ◌&&◌, List, [], ◌∷◌, ◌++◌, ℕ, ◌+◌, ◌*◌, ltb, Err, Ok, Result}
use Rattle.laws.specs.Least.{least}
use Rattle.refusal.specs.Refusal.{refusal, passed}
use Rattle.refusal.specs.declared.Refusal.{Refusal}
use Rattle.server_list.specs.Lists.{whole, server_count, servers_in, serves, serves_at}
use Rattle.server_list.specs.declared.Where.{Where}
use Rattle.server_list.specs.declared.Where.TheVariants.{Owner, Shipped}

-- ---- The bytes that are handed back

-- all records in the order of the search
abbrev pub searched : List ℕ → List ℕ → List (List ℕ)
searched owner shipped = servers_in owner ++ servers_in shipped

-- the first of some records that has this SRV value, and no bytes where none does
unfoldable pub first_match : List ℕ → List (List ℕ) → List ℕ
first_match srv [] = []
first_match srv (r ∷ rs) = cond (serves srv r) r (first_match srv rs)

-- where both lists are whole records the first match, and no bytes on a refusal
unfoldable pub handed : List ℕ → List ℕ → List ℕ → List ℕ
handed owner shipped srv = cond (whole owner && whole shipped) (first_match srv (searched owner shipped)) []

-- ---- Where the server stands

-- the refusal of an answer, which is none where the server is found, and document 01's number of it
abbrev pub where_refusal : Result Where Refusal → Refusal
where_refusal (Ok (Owner k)) = passed
where_refusal (Ok (Shipped k)) = passed
where_refusal (Err why) = why

abbrev pub where_number : Result Where Refusal → ℕ
where_number w = (where_refusal w).code

-- the number of the first record of a list that has this SRV value, and of all its records where none does
unfoldable pub first_in : List ℕ → List ℕ → ℕ
first_in list srv = least (serves_at srv list) (server_count list)

-- the server stands in the list
abbrev pub known : List ℕ → List ℕ → Bool
known list srv = ltb (first_in list srv) (server_count list)

-- the answer
unfoldable pub sought : List ℕ → List ℕ → List ℕ → Result Where Refusal
sought owner shipped srv =
    cond (whole owner && whole shipped)
    (cond
    (known owner srv)
    (Ok (Owner (first_in owner srv)))
    (cond (known shipped srv) (Ok (Shipped (first_in shipped srv))) (Err (refusal 22))))
    (Err (refusal 21))

-- ---- The place in memory of what is handed back

-- the place n bytes after a place in memory, which is a block and an offset in it
abbrev pub offset_by : ℕ × ℕ → ℕ → ℕ × ℕ
offset_by p n = (p.0, n + p.1)

-- where the part starts, from where the two lists do: it is its list's own bytes, and no copy. An empty part stands at
-- the start of the owner's list.
abbrev pub place_of : ℕ × ℕ → ℕ × ℕ → Result Where Refusal → ℕ × ℕ
place_of owner shipped (Ok (Owner k)) = offset_by owner (k * 64)
place_of owner shipped (Ok (Shipped k)) = offset_by shipped (k * 64)
place_of owner shipped (Err why) = offset_by owner 0
