-- Hosts (RFC 3986, section 3.2.2): IPv4 addresses, IPv6 addresses in brackets, and domain names.
use Prim.Native.Char.{code}
use Rattle.std.specs.Prelude.{ℕ, ◌+◌, ◌-◌, Bool, true, false, not, List, eqb, leb, length, get_or, take, drop, Option, None, Some}
use Rattle.laws.specs.Least.{least}
use Rattle.laws.specs.Pasted.{part}
use Rattle.laws.specs.Pick.{pick, either, both}
use Rattle.json_tokens.specs.Scan.{digit}
use Rattle.list_address.specs.Chars.{hex_digit, label_char}
use Rattle.list_address.specs.Runs.{every, is_run, last_byte}
use Rattle.list_address.specs.Decimal.{is_octet}
use Rattle.list_address.specs.Parts.{split, plus, counted, or_else, right, exactly, within}

-- ---- IPv4: four numbers up to 255 between dots

unfoldable pub is_ipv4 : List ℕ → Bool
is_ipv4 x = exactly 4 (counted is_octet is_octet (split (code ".") x))

-- ---- IPv6 (RFC 4291, section 2.2): eight pieces of 16 bits between colons

-- a piece: 1 to 4 hexadecimal digits
unfoldable pub is_group : List ℕ → Bool
is_group x = is_run hex_digit 4 x

-- how many pieces stand between the colons; with `tail` the last part may be an IPv4 address, which is two of them
unfoldable pub pieces : Bool → List ℕ → Option ℕ
pieces tail x =
    or_else (counted is_group is_group (split (code ":") x))
    (pick tail (plus 1 (counted is_group is_ipv4 (split (code ":") x))) None)

-- the same before or behind "::", where none may stand
unfoldable pub side : Bool → List ℕ → Option ℕ
side tail x = pick (eqb (length x) 0) (Some 0) (pieces tail x)

unfoldable pub double_at : List ℕ → ℕ → Bool
double_at x k = both (eqb (get_or x k 0) (code ":")) (eqb (get_or x (k + 1) 0) (code ":"))

-- "::" at k is one piece of zeros or more, so that at most seven stand around it
unfoldable pub is_shortened : List ℕ → ℕ → Bool
is_shortened x k = within 7 (side false (take k x)) (side true (drop (k + 2) x))

-- the place of the first "::", or the length where there is none
abbrev pub double_in : List ℕ → ℕ
double_in x = least (double_at x) (length x)

unfoldable pub is_ipv6 : List ℕ → Bool
is_ipv6 x = pick (eqb (double_in x) (length x)) (exactly 8 (pieces true x)) (is_shortened x (double_in x))

-- ---- Domain names (RFC 1035, section 2.3.1; RFC 1123, section 2.1: a label may start with a digit)

unfoldable pub is_label : List ℕ → Bool
is_label x =
    both (is_run label_char 63 x)
    (both (not (eqb (get_or x 0 0) (code "-"))) (not (eqb (last_byte x) (code "-"))))

-- the last label is not all digits, so that no address in dotted decimal is taken for a name (RFC 1123)
unfoldable pub is_last_label : List ℕ → Bool
is_last_label x = both (is_label x) (not (every digit x))

unfoldable pub is_name : List ℕ → Bool
is_name x = both (leb (length x) 253) (right (counted is_label is_last_label (split (code ".") x)))

-- a name, at whose end a dot may stand
unfoldable pub is_domain : List ℕ → Bool
is_domain x = pick (eqb (last_byte x) (code ".")) (is_name (take (length x - 1) x)) (is_name x)

-- ---- Hosts

unfoldable pub is_bracketed : List ℕ → Bool
is_bracketed x =
    both (eqb (get_or x 0 0) (code "["))
    (both (eqb (last_byte x) (code "]")) (is_ipv6 (part 1 (length x - 1) x)))

unfoldable pub is_host : List ℕ → Bool
is_host x = either (is_ipv4 x) (either (is_domain x) (is_bracketed x))
