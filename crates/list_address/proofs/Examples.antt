-- Addresses and URLs, taken and refused: the checker computes each.
use Prim.Native.Nat.{ℕ}
use Prim.Native.String.{String}
use mathlib.Core.Path.{◌≡◌, refl}
use mathlib.Core.Bool.{Bool, true, false}
use mathlib.Core.List.{List, [], ◌∷◌, map}
use lib.ListN.{replicate}
use Rattle.laws.specs.Ascii.{ascii}
use Rattle.laws.specs.Least.{least, somewhere}
use Rattle.laws.specs.Pick.{pick, either, both}
use Rattle.json_tokens.specs.Scan.{past_while}
use Rattle.list_address.specs.Chars.{letter, hex_digit, label_char, one_of, url_char}
use Rattle.list_address.specs.Runs.{every, is_run}
use Rattle.list_address.specs.Decimal.{worth, unpadded, is_decimal, is_octet, is_port}
use Rattle.list_address.specs.Parts.{onto, split, plus, counted, or_else, right, exactly, within}
use Rattle.list_address.specs.Host.{is_ipv4, is_group, pieces, side, double_at, is_shortened, is_ipv6}
use Rattle.list_address.specs.Host.{is_label, is_last_label, is_name, is_domain, is_bracketed, is_host}
use Rattle.list_address.specs.Address.{divides_at, is_address}
use Rattle.list_address.specs.Https.{lower, differs_at, has_scheme, is_ended, is_authority, percent_at, clean_at}
use Rattle.list_address.specs.Https.{is_clean, is_rest, is_https}

-- what a test says of each of these texts
abbrev said : (List ℕ → Bool) → List String → List Bool
said p xs = map (λ x. p (ascii x)) xs

-- a host and a port
addresses : said is_address
    ("roughtime.int08h.com:2002"
    ∷ "localhost:0"
    ∷ "a.example.:2002"
    ∷ "1.2.3.4:65535"
    ∷ "[::]:1"
    ∷ "[1:2:3:4:5:6:7:8]:2002"
    ∷ "[1:2:3:4:5:6:7::]:2"
    ∷ "[::2:3:4:5:6:7:8]:2"
    ∷ "[1:2:3:4:5:6:1.2.3.4]:9"
    ∷ "[2001:DB8::1.2.3.4]:2002"
    ∷ []) ≡ replicate 10 true
unfolding either both pick past_while least somewhere letter hex_digit label_char one_of every is_run worth
    unpadded is_decimal is_octet is_port onto split plus counted or_else right exactly within is_ipv4 is_group pieces side
    double_at is_shortened is_ipv6 is_label is_last_label is_name is_domain is_bracketed is_host divides_at is_address
addresses = refl

-- a port missing, too large, with a zero before it; parts too few, too large; a zone; too many groups
no-addresses : said is_address
    ("1.2.3.4"
    ∷ "a.example:"
    ∷ "1.2.3.4:65536"
    ∷ "1.2.3.4:02"
    ∷ "1.2.3:1"
    ∷ "1.2.3.256:1"
    ∷ "1.2.3.4.:1"
    ∷ "::1:2"
    ∷ "[fe80::1%eth0]:2"
    ∷ "[1:2:3:4:5:6:7:8:9]:2"
    ∷ "[1:2:3:4::5:6:7:8]:2"
    ∷ "[1::2::3]:2"
    ∷ "[:::]:1"
    ∷ "[12345::]:1"
    ∷ "[1.2.3.4::]:2"
    ∷ ":2"
    ∷ "-a.example:2"
    ∷ "a..example:2"
    ∷ "a.example..:2"
    ∷ []) ≡ replicate 19 false
unfolding either both pick past_while least somewhere letter hex_digit label_char one_of every is_run worth
    unpadded is_decimal is_octet is_port onto split plus counted or_else right exactly within is_ipv4 is_group pieces side
    double_at is_shortened is_ipv6 is_label is_last_label is_name is_domain is_bracketed is_host divides_at is_address
no-addresses = refl

-- URLs of the scheme https
urls : said is_https
    ("https://a.example"
    ∷ "HTTPS://a.example:8443/x?y#z"
    ∷ "https://[::1]/"
    ∷ "https://a.example:?q"
    ∷ "https://a.example/%4a"
    ∷ []) ≡ replicate 5 true
unfolding either both pick past_while least somewhere letter hex_digit label_char one_of every is_run worth
    unpadded is_decimal is_octet is_port onto split plus counted or_else right exactly within is_ipv4 is_group pieces side
    double_at is_shortened is_ipv6 is_label is_last_label is_name is_domain is_bracketed is_host divides_at is_address url_char
    lower differs_at has_scheme is_ended is_authority percent_at clean_at is_clean is_rest is_https
urls = refl

-- another scheme, no host, a user, a port too large, a percent sign alone, a blank, two fragments
no-urls : said is_https
    ("http://a.example"
    ∷ "https://"
    ∷ "https:///x"
    ∷ "https://u@a.example/"
    ∷ "https://a.example:99999/"
    ∷ "https://a.example/%4"
    ∷ "https://a.example/ x"
    ∷ "https://a.example/#a#b"
    ∷ []) ≡ replicate 8 false
unfolding either both pick past_while least somewhere letter hex_digit label_char one_of every is_run worth
    unpadded is_decimal is_octet is_port onto split plus counted or_else right exactly within is_ipv4 is_group pieces side
    double_at is_shortened is_ipv6 is_label is_last_label is_name is_domain is_bracketed is_host divides_at is_address url_char
    lower differs_at has_scheme is_ended is_authority percent_at clean_at is_clean is_rest is_https
no-urls = refl
