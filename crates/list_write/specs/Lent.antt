-- What is lent of many servers.
use Rattle.std.specs.Prelude.{ℕ, zero, suc, ◌+◌, ◌*◌, Bool, true, false, List, [], ◌∷◌, eqb, length, get_or}
use Rattle.laws.specs.Pasted.{part}
use Rattle.laws.specs.Pick.{either, both}
use Rattle.list_write.specs.Given.{Given, given, good_server, is_crowded}

-- Keys of 32 bytes, one after the other; the numbers of the versions; the names, one after the other, and how long each
-- is; and so the lines of the addresses.
pub record Lent : Type 0 where
  pub keys : List ℕ
  pub versions : List ℕ
  pub names : List ℕ
  pub lengths_of_names : List ℕ
  pub addresses : List ℕ
  pub lengths_of_addresses : List ℕ

abbrev pub lent : List ℕ → List ℕ → List ℕ → List ℕ → List ℕ → List ℕ → Lent
lent ks vs ns nl xs al =
    record { keys = ks; versions = vs; names = ns; lengths_of_names = nl; addresses = xs; lengths_of_addresses = al }

unfoldable pub total : List ℕ → ℕ
total [] = 0
total (n ∷ ns) = n + total ns

-- a key, a name and a length each for every version, and names and addresses as long as is said
unfoldable pub fitted : Lent → Bool
fitted l =
    both (eqb (length l.keys) (32 * length l.versions))
    (both (eqb (length l.lengths_of_names) (length l.versions))
    (both (eqb (length l.lengths_of_addresses) (length l.versions))
    (both (eqb (total l.lengths_of_names) (length l.names))
    (eqb (total l.lengths_of_addresses) (length l.addresses)))))

-- server i, whose name starts at p, and whose addresses start at q
unfoldable pub given_at : Lent → ℕ → ℕ → ℕ → Given
given_at l i p q =
    given (part p (p + get_or l.lengths_of_names i 0) l.names) (get_or l.versions i 0)
    (part (32 * i) (32 * i + 32) l.keys) (part q (q + get_or l.lengths_of_addresses i 0) l.addresses)

-- n servers from that one on
unfoldable pub given_from : ℕ → Lent → ℕ → ℕ → ℕ → List Given
given_from zero l i p q = []
given_from (suc n) l i p q =
    given_at l i p q
    ∷ given_from n l (i + 1) (p + get_or l.lengths_of_names i 0) (q + get_or l.lengths_of_addresses i 0)

unfoldable pub givens : Lent → List Given
givens l = given_from (length l.versions) l 0 0 0

-- all can be written; one has too many addresses
unfoldable pub all_servers : List Given → Bool
all_servers [] = true
all_servers (g ∷ gs) = both (good_server g.name g.addresses) (all_servers gs)

unfoldable pub any_crowded : List Given → Bool
any_crowded [] = false
any_crowded (g ∷ gs) = either (is_crowded g.addresses) (any_crowded gs)
