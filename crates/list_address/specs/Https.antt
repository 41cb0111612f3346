-- URLs of the scheme https (RFC 9110, section 4.2.2; RFC 3986, appendix A), with no user's name (RFC 9110, 4.2.4):
-- https-URI = "https" "://" host [ ":" port ] path-abempty [ "?" query ] [ "#" fragment ].
use Prim.Native.Char.{code}
use Rattle.std.specs.Prelude.{ℕ, ◌+◌, ◌-◌, Bool, not, List, eqb, length, get_or, take, drop}
use Rattle.laws.specs.Ascii.{ascii}
use Rattle.laws.specs.Least.{somewhere}
use Rattle.laws.specs.Pasted.{part}
use Rattle.laws.specs.Pick.{pick, either, both}
use Rattle.json_tokens.specs.Scan.{past_while}
use Rattle.list_address.specs.Chars.{between, hex_digit, one_of, url_char}
use Rattle.list_address.specs.Runs.{last_byte}
use Rattle.list_address.specs.Host.{is_host}
use Rattle.list_address.specs.Address.{is_address}

-- a letter in lower case, and any other byte as it is
unfoldable pub lower : ℕ → ℕ
lower b = pick (between (code "A") (code "Z") b) (b + 32) b

-- it starts with "https://", whose letters may be in either case: nowhere there does it differ
unfoldable pub differs_at : List ℕ → ℕ → Bool
differs_at x k = not (eqb (lower (get_or x k 0)) (get_or (ascii "https://") k 0))

unfoldable pub has_scheme : List ℕ → Bool
has_scheme x = not (somewhere (differs_at x) 8)

-- a host; a host and a port; or a host and a colon, since a port may be empty (RFC 3986, section 3.2.3)
unfoldable pub is_ended : List ℕ → Bool
is_ended x = both (eqb (last_byte x) (code ":")) (is_host (take (length x - 1) x))

unfoldable pub is_authority : List ℕ → Bool
is_authority x = either (is_host x) (either (is_address x) (is_ended x))

-- pct-encoded = "%" HEXDIG HEXDIG
unfoldable pub percent_at : List ℕ → ℕ → Bool
percent_at x k = both (eqb (get_or x k 0) (code "%")) (both (hex_digit (get_or x (k + 1) 0)) (hex_digit (get_or x (k + 2) 0)))

unfoldable pub clean_at : List ℕ → ℕ → Bool
clean_at x k = either (url_char (get_or x k 0)) (percent_at x k)

-- *( pchar / "/" / "?" )
unfoldable pub is_clean : List ℕ → Bool
is_clean x = not (somewhere (λ k. not (clean_at x k)) (length x))

-- the place of the first "#", or the length where there is none
abbrev pub fragment_in : List ℕ → ℕ
fragment_in x = past_while (λ b. not (eqb b (code "#"))) x 0

-- a path and a query, and a fragment behind the first "#"; a fragment has no other
unfoldable pub is_rest : List ℕ → Bool
is_rest x = both (is_clean (take (fragment_in x) x)) (is_clean (drop (fragment_in x + 1) x))

-- where the authority ends, and what follows starts: with "/", "?" or "#", if at all (RFC 3986, section 3.2)
abbrev pub authority_end : List ℕ → ℕ
authority_end x = past_while (λ b. not (one_of (ascii "/?#") b)) x 8

unfoldable pub is_https : List ℕ → Bool
is_https x =
    both (has_scheme x) (both (is_authority (part 8 (authority_end x) x)) (is_rest (drop (authority_end x) x)))
