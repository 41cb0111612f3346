-- For the private functions: what is left of the iterators, and what is known of a list that can be written.
use Rattle.std.specs.Prelude.{ℕ, true, false, List, ◌≡◌, None, Option, Some}
use Rattle.list_write.specs.declared.Item.TheVariants.{Source}
use Rattle.list_write.specs.declared.Listing.{Listing}
use Rattle.list_write.specs.declared.lending.Lent.{Lent as Parts}
use Rattle.list_write.specs.declared.lending.Servers.{Servers}
use Rattle.list_write.specs.declared.lines.Lines.{Lines}
use Rattle.list_write.specs.Given.{Given}
use Rattle.list_write.specs.Lines.{lines_of, all_good}
use Rattle.list_write.specs.Lent.{fitted, givens, all_servers}
use Rattle.list_write.specs.Lending.{lent_of}

-- the servers, and the lines, that are still to come
abbrev pub given_left : Servers → List Given
given_left s = givens (lent_of s.left)

abbrev pub lines_left : Lines → List (List ℕ)
lines_left s = lines_of s.0.now

-- the servers of what is lent, if it fits together
abbrev pub Fits : Parts → Option Servers → Type 0
Fits l (Some s) = s.left ≡ l
Fits l None = fitted (lent_of l) ≡ false

-- a list that nothing but room can keep from being written
pub record Ready (l : Listing) : Type 0 where
  pub servers : all_servers (given_left l.servers) ≡ true
  pub lines : all_good Source (lines_of l.sources.now) ≡ true
