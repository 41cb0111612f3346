-- What private functions say to each other: what a test that is passed in tells, and the parts in a row but for the
-- last, and the last by itself.
use denote.Ref.{Bor}
use Rattle.std.specs.Prelude.{ℕ, ◌+◌, ◌≤◌, ◌≡◌, Bool, List, length, None, Option, Some}
use Rattle.std.specs.Option.{IfSome}
use Rattle.laws.specs.Pick.{pick}
use Rattle.list_address.specs.Parts.{split, plus, counted, or_else}
use Rattle.list_address.specs.Host.{is_ipv4, is_group}

-- each answer of a test of bytes is that of p,
pub record Tells (answers : ℕ → Bool → Type 0) (p : ℕ → Bool) : Type 0 where
  pub tells : (b : ℕ) (r : Bool) → answers b r → r ≡ p b

-- and so of a test of byte strings
pub record TellsAt (answers : List ℕ → Bool → Type 0) (p : List ℕ → Bool) : Type 0 where
  pub tells : (x : List ℕ) (r : Bool) → answers x r → r ≡ p x

-- what is counted, where n parts stand before the last, which is to pass q
unfoldable pub ends : (List ℕ → Bool) → Option (ℕ × List ℕ) → Option ℕ
ends q (Some (n, x)) = pick (q x) (Some (n + 1)) None
ends q None = None

-- an answer, with the last part as the bytes that it has
abbrev pub parted : Option (ℕ × Bor (List ℕ)) → Option (ℕ × List ℕ)
parted (Some (n, x)) = Some (n, x.now)
parted None = None

pub record Lined (p : List ℕ → Bool) (c : ℕ) (s : List ℕ) (r : Option (ℕ × List ℕ)) : Type 0 where
  pub told : (q : List ℕ → Bool) → counted p q (split c s) ≡ ends q r
  pub few : IfSome r (λ x. x.0 ≤ length s)

-- how many pieces of 16 bits the last part is
unfoldable pub last_pieces : Bool → List ℕ → Option ℕ
last_pieces tail x =
    or_else (pick (is_group x) (Some 1) None) (pick tail (plus 1 (pick (is_ipv4 x) (Some 1) None)) None)
