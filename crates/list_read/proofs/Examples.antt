-- Worked examples of the reader, computed: a text, the code, and where that is 0 how many servers can be asked and how
-- many are passed over.
use Prim.Native.Nat.{ℕ}
use mathlib.Core.Bool.{Bool, true, not}
use mathlib.Core.List.{List, [], ◌∷◌, ◌++◌}
use lib.Dec.{T, eqb}
use lib.ListN.{length}
use Rattle.laws.specs.Ascii.{ascii}
use Rattle.laws.specs.Pick.{pick, either, both}
use Rattle.json_tokens.specs.Scan.{then, then_step, past_while, after, past_colon}
use Rattle.json_tokens.specs.Walk.{onward, walk, more_of, starts}
use Rattle.json_tokens.specs.Number.{some_digits, past_minus, past_sign, whole_at, fraction_at, signed_at, exponent_at, integer_at}
use Rattle.json_tokens.specs.Number.{number_at}
use Rattle.json_strings.specs.Text.{escape_of, nibble_of, nibble_at, hex_at, escape_at, least_second, most_second, second_at, tail_at}
use Rattle.json_strings.specs.Text.{long_at, wide_at, unit_at, unit_step, string_at, codes_at, content_at, same_list}
use Rattle.json_values.specs.Value.{literal_at, plain_at, item_step, member_step, array_of, object_of, value_by, value_at, ends_at}
use Rattle.json_values.specs.Value.{is_text}
use Rattle.json_values.specs.Members.{members_of, named, place_of, value_place, answer_of, count_of, tally, found_of}
use Rattle.base64_strict.specs.Alphabet.{sextet_of}
use Rattle.base64_strict.specs.Decode.{one_of, two_of, three_of, group_of, decode64}
use Rattle.laws.specs.Least.{least, somewhere}
use Rattle.json_text.specs.Octets.{is_high, is_low, paired, joined, utf8, encoded, text_of}
use Rattle.list_address.specs.Chars.{letter, hex_digit, label_char, url_char}
use Rattle.list_address.specs.Chars.{one_of as oneChar}
use Rattle.list_address.specs.Runs.{every, is_run}
use Rattle.list_address.specs.Decimal.{worth, unpadded, is_decimal, is_octet, is_port}
use Rattle.list_address.specs.Parts.{onto, split, plus, counted, or_else, right, exactly, within}
use Rattle.list_address.specs.Host.{is_ipv4, is_group, pieces, side, double_at, is_shortened, is_ipv6}
use Rattle.list_address.specs.Host.{is_label, is_last_label, is_name, is_domain, is_bracketed, is_host}
use Rattle.list_address.specs.Address.{divides_at, is_address}
use Rattle.list_address.specs.Https.{lower, differs_at, has_scheme, is_ended, is_authority, percent_at, clean_at, is_clean}
use Rattle.list_address.specs.Https.{is_rest, is_https}
use Rattle.report_read.specs.Entry.{string_of, elements_of, is64, held}
use Rattle.report_read.specs.Entry.{list_of as list_in}
use Rattle.list_read.specs.Server.{text_in, text_by, is_some, is_mark, unmarked, whole_of, up_to, version_by, content_in}
use Rattle.list_read.specs.Server.{is_there, key_by, passes, is_place, of_address, is_word, is_protocol, address_good}
use Rattle.list_read.specs.Server.{address_at, all_addresses, addresses_at, places_in, addresses_good, of_server}
use Rattle.list_read.specs.Server.{address_places, server_good, server_at, askable}
use Rattle.list_read.specs.Listed.{is_url, url_at, all_urls, urls_at, source_places, sources_good, reports_good, all_servers}
use Rattle.list_read.specs.Listed.{servers_at, root_place, of_root, servers_member, sources_member, reports_member}
use Rattle.list_read.specs.Listed.{server_places, is_list, listed, Lists, list_of}
use Rattle.list_read.specs.Read.{askables, passed_over, is_crowded, any_crowded, size_code, servers_of, list_code}

record Row : Type 0 where
  text : List ℕ
  code : ℕ
  asked : ℕ
  passed : ℕ

abbrev is_row : Lists → Row → Bool
is_row l r =
    both (eqb (list_code l) r.code) (either (both (eqb (length (askables (servers_of l))) r.asked)
    (eqb (passed_over (servers_of l)) r.passed)) (not (eqb r.code 0)))

abbrev all : List Row → Bool
all [] = true
all (r ∷ rs) = both (is_row (list_of r.text) r) (all rs)

abbrev table : List Row
table =
    -- the list of appendix A, with fewer blanks
    record {
      text = ascii "{\"servers\":[{\"name\":\"example.com Roughtime server\",\"version\":1,\"publicKeyType\":\"e"
          ++ ascii "d25519\",\"publicKey\":\"2O3mkkheDExCuhG+ZNIoWmO/IdCdLzADgUn8SnC4hME=\",\"addresses\":[{\"pr"
          ++ ascii "otocol\":\"udp\",\"address\":\"roughtime.example.com:2002\"},{\"protocol\":\"tcp\",\"address"
          ++ ascii "\":\"roughtime.example.com:2002\"}]},{\"name\":\"A UDP-only server specified with IP address"
          ++ ascii "es\",\"version\":1,\"publicKeyType\":\"ed25519\",\"publicKey\":\"ZYfeGa94YuG1IZrV3kR9+8/nmZ2"
          ++ ascii "lX2XyHmiSb+wI0OY=\",\"addresses\":[{\"protocol\":\"udp\",\"address\":\"192.0.2.33:2002\"},{"
          ++ ascii "\"protocol\":\"udp\",\"address\":\"[2001:db8::2:33]:2002\"}]}],\"sources\":[\"https://www.ex"
          ++ ascii "ample.net/roughtime/ecosystem.json\",\"https://www.example.org/roughtime/ecosystem.json\"],"
          ++ ascii "\"reports\":  \"https://www.example.net/roughtime/malfeasance\"}";
      code = 0;
      asked = 2;
      passed = 0;
    } ∷
    -- a draft's version, a key of another type, and one of another length are passed over
    record {
      text = ascii "{\"servers\":[{\"name\":\"a\",\"version\":2147483660,\"publicKeyType\":\"ed25519\",\"publicK"
          ++ ascii "ey\":\"AAECAwQFBgcICQoLDA0ODxAREhMUFRYXGBkaGxwdHh8=\",\"addresses\":[]},{\"name\":\"a\",\"ve"
          ++ ascii "rsion\":1,\"publicKeyType\":\"ed25519\",\"publicKey\":\"AAECAwQFBgcICQoLDA0ODxAREhMUFRYXGBka"
          ++ ascii "GxwdHh8=\",\"addresses\":[]},{\"name\":\"a\",\"version\":1,\"publicKeyType\":\"ed448\",\"pub"
          ++ ascii "licKey\":\"AAECAwQFBgcICQoLDA0ODxAREhMUFRYXGBkaGxwdHh8=\",\"addresses\":[]},{\"name\":\"a\","
          ++ ascii "\"version\":1,\"publicKeyType\":\"ed25519\",\"publicKey\":\"QQ==\",\"addresses\":[]}]}";
      code = 0;
      asked = 1;
      passed = 3;
    } ∷
    -- a server that is wrong, past one that is right
    record {
      text = ascii "{\"servers\":[{\"name\":\"a\",\"version\":1,\"publicKeyType\":\"ed25519\",\"publicKey\":\"AA"
          ++ ascii "ECAwQFBgcICQoLDA0ODxAREhMUFRYXGBkaGxwdHh8=\",\"addresses\":[]},{}]}";
      code = 24;
      asked = 0;
      passed = 0;
    } ∷
    -- no server
    record {
      text = ascii "{\"servers\":[]}";
      code = 25;
      asked = 0;
      passed = 0;
    } ∷
    []

examples : T (all table)
unfolding pick either both then then_step past_while after past_colon onward walk more_of starts some_digits past_minus
    past_sign whole_at fraction_at signed_at exponent_at integer_at number_at escape_of nibble_of nibble_at hex_at escape_at
    least_second most_second second_at tail_at long_at wide_at unit_at unit_step string_at codes_at content_at same_list literal_at
    plain_at item_step member_step array_of object_of value_by value_at ends_at is_text members_of named place_of value_place
    answer_of count_of tally found_of sextet_of one_of two_of three_of group_of decode64 string_of is64 held elements_of list_in
    least somewhere is_high is_low paired joined utf8 encoded text_of letter hex_digit label_char url_char oneChar
    every is_run worth unpadded is_decimal is_octet is_port onto split plus counted or_else right exactly within is_ipv4
    is_group pieces side double_at is_shortened is_ipv6 is_label is_last_label is_name is_domain is_bracketed is_host divides_at
    is_address lower differs_at has_scheme is_ended is_authority percent_at clean_at is_clean is_rest is_https text_in text_by is_some
    is_mark unmarked whole_of up_to version_by content_in is_there key_by passes is_place of_address is_word is_protocol address_good
    address_at all_addresses addresses_at places_in addresses_good of_server address_places server_good server_at askable is_url
    url_at all_urls urls_at source_places sources_good reports_good all_servers servers_at root_place of_root servers_member
    sources_member reports_member server_places is_list listed list_of askables passed_over is_crowded any_crowded size_code
    servers_of list_code
examples = tt
