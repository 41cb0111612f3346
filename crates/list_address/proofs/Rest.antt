-- What stands behind an authority, with a "#" in it or without one.
use Prim.Native.Nat.{ℕ, ◌+◌, ◌≤◌, ◌<◌}
use lib.Dec.{eqb}
use Rattle.std.specs.Prelude.{None, Some, position}
use Rattle.json_tokens.specs.Scan.{past_while}
use mathlib.Core.Path.{◌≡◌, refl}
use mathlib.Core.Bool.{Bool, true, false}
use mathlib.Core.List.{List, []}
use native.Mathlib.Omega.{arith}
use lib.ListN.{length, get_or, drop_of_length-le}
use lib.Seq.{take_all}
use Rattle.laws.specs.Least.{somewhere, least}
use Rattle.laws.specs.Pick.{either, both}
use Rattle.list_address.proofs.Scans.{found-run, unfound-run}
use Rattle.list_address.specs.Chars.{hex_digit, letter, label_char, one_of, url_char}
use Rattle.list_address.specs.Https.{percent_at, clean_at, is_clean, fragment_in, is_rest}

both_true : (p : Bool) → p ≡ both p true
unfolding both
both_true true = refl
both_true false = refl

pub nothing-clean : is_clean [] ≡ true
unfolding is_clean somewhere least
nothing-clean = refl

module _ (x : List ℕ) where
  -- no "#": all is path and query
  pub rest-whole : length x ≤ fragment_in x → is_clean x ≡ is_rest x
  unfolding is_rest
  rest-whole h =
      let m : length x ≤ fragment_in x + 1 = omega arith in
      rw (take_all (fragment_in x) x h, drop_of_length-le x m, nothing-clean) (both_true (is_clean x))

  -- the place of "#", as a scan finds it
  pub found-fragment : {k : ℕ} → position (λ b. eqb b 35) x ≡ Some k → (k ≡ fragment_in x) × (k < length x)
  unfolding past_while
  found-fragment {k} e = let f = found-run (λ b. eqb b 35) x e in (omega (arith, f.0), f.1)

  pub no-fragment : position (λ b. eqb b 35) x ≡ None → length x ≤ fragment_in x
  unfolding past_while
  no-fragment e = let f = unfound-run (λ b. eqb b 35) x e in omega (arith, f)

-- a percent sign is no byte of a URL by itself
percent-none : url_char 37 ≡ false
unfolding url_char label_char letter one_of either both somewhere least
percent-none = refl

pub percent-clean : (x : List ℕ) (k : ℕ) {t : Bool} → get_or x k 0 ≡ 37
    → t ≡ both (hex_digit (get_or x (k + 1) 0)) (hex_digit (get_or x (k + 2) 0)) → t ≡ clean_at x k
unfolding clean_at percent_at either both
percent-clean x k e h = rw (e, percent-none) h
