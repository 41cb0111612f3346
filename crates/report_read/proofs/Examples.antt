-- Worked examples of the reader, computed: a text, the room, and the code (0 where the records are written).
use Prim.Native.Nat.{ℕ}
use mathlib.Core.Bool.{Bool, true}
use mathlib.Core.List.{List, [], ◌∷◌, ◌++◌}
use lib.Dec.{T, eqb}
use Rattle.laws.specs.Ascii.{ascii}
use Rattle.laws.specs.Pick.{pick, either, both}
use Rattle.json_tokens.specs.Scan.{then, then_step, past_while, after, past_colon}
use Rattle.json_tokens.specs.Walk.{onward, walk, more_of, starts}
use Rattle.json_tokens.specs.Number.{some_digits, past_minus, past_sign, whole_at, fraction_at, signed_at, exponent_at, integer_at}
use Rattle.json_tokens.specs.Number.{number_at}
use Rattle.json_strings.specs.Text.{escape_of, nibble_of, nibble_at, hex_at, escape_at, least_second, most_second, second_at, tail_at}
use Rattle.json_strings.specs.Text.{long_at, wide_at, unit_at, unit_step, string_at, codes_at, content_at, same_list}
use Rattle.json_values.specs.Value.{literal_at, plain_at, item_step, member_step, array_of, object_of, value_by, value_at, ends_at}
use Rattle.json_values.specs.Value.{is_text}
use Rattle.json_values.specs.Members.{members_of, named, place_of, value_place, answer_of, count_of, tally, found_of}
use Rattle.base64_strict.specs.Alphabet.{sextet_of}
use Rattle.base64_strict.specs.Decode.{one_of, two_of, three_of, group_of, decode64}
use Rattle.report_read.specs.Entry.{string_of, text_place, member_of, is64, held, is32, rand_good, has_all, entry_at}
use Rattle.report_read.specs.Entry.{elements_of, all_of, entries_at, list_of, list_place, entries_from, entries_of}
use Rattle.report_read.specs.Read.{read_number, is_big, any_big, read_of}

record Row : Type 0 where
  text : List ℕ
  room : ℕ
  code : ℕ

abbrev all : List Row → Bool
all [] = true
all (r ∷ rs) = both (eqb (read_number (read_of (entries_of r.text) r.room)) r.code) (all rs)

abbrev table : List Row
table =
    -- one entry
    record {
      text = ascii "{\"responses\":[{\"publicKey\":\"AAECAwQFBgcICQoLDA0ODxAREhMUFRYXGBkaGxwdHh8=\","
          ++ ascii "\"request\":\"QQ==\",\"response\":\"QUI=\"}]}";
      room = 4096;
      code = 0;
    } ∷
    -- out one byte too short
    record {
      text = ascii "{\"responses\":[{\"publicKey\":\"AAECAwQFBgcICQoLDA0ODxAREhMUFRYXGBkaGxwdHh8=\","
          ++ ascii "\"request\":\"QQ==\",\"response\":\"QUI=\"}]}";
      room = 4095;
      code = 19;
    } ∷
    -- two entries, the second with its rand
    record {
      text = ascii "{\"responses\":[{\"publicKey\":\"AAECAwQFBgcICQoLDA0ODxAREhMUFRYXGBkaGxwdHh8=\","
          ++ ascii "\"request\":\"QQ==\",\"response\":\"QUI=\"},{"
          ++ ascii "\"rand\":\"AAECAwQFBgcICQoLDA0ODxAREhMUFRYXGBkaGxwdHh8=\","
          ++ ascii "\"publicKey\":\"AAECAwQFBgcICQoLDA0ODxAREhMUFRYXGBkaGxwdHh8=\",\"request\":\"\","
          ++ ascii "\"response\":\"QUJD\"}]}";
      room = 8192;
      code = 0;
    } ∷
    -- the second without its rand
    record {
      text = ascii "{\"responses\":[{\"publicKey\":\"AAECAwQFBgcICQoLDA0ODxAREhMUFRYXGBkaGxwdHh8=\","
          ++ ascii "\"request\":\"QQ==\",\"response\":\"QUI=\"},{"
          ++ ascii "\"publicKey\":\"AAECAwQFBgcICQoLDA0ODxAREhMUFRYXGBkaGxwdHh8=\",\"request\":\"QQ==\","
          ++ ascii "\"response\":\"QUI=\"}]}";
      room = 8192;
      code = 24;
    } ∷
    -- a rand in the first entry, a number, twice: not looked at
    record {
      text = ascii "{\"responses\":[{\"rand\":1,\"rand\":[],"
          ++ ascii "\"publicKey\":\"AAECAwQFBgcICQoLDA0ODxAREhMUFRYXGBkaGxwdHh8=\",\"request\":\"\","
          ++ ascii "\"response\":\"\"}]}";
      room = 4096;
      code = 0;
    } ∷
    -- blanks, other members, a name and a slash with escapes
    record {
      text = ascii " { \"a\":[{}] , \"r\\u0065sponses\" : [ {\"x\":null,\"x\":0,"
          ++ ascii "\"publicKey\":\"AAECAwQFBgcICQoLDA0ODxAREhMUFRYXGBkaGxwdHh8=\","
          ++ ascii "\"request\":\"\\u0051Q==\",\"response\":\"\\/\\/\\/\\/\"} ] } ";
      room = 4096;
      code = 0;
    } ∷
    -- no entry
    record {
      text = ascii "{\"responses\":[]}";
      room
          = 4096;
      code = 25;
    } ∷
    -- no entry, and the room too short: 25 first
    record {
      text = ascii "{\"responses\":[]}";
      room
          = 0;
      code = 25;
    } ∷
    -- no member responses
    record { text = ascii "{\"a\":[]}"; room = 4096; code = 24 } ∷
    -- responses twice
    record {
      text = ascii "{\"responses\":[],\"responses\":[]}";
      room = 4096;
      code = 24;
    } ∷
    -- responses is no list
    record {
      text = ascii "{\"responses\":{}}";
      room = 4096;
      code = 24;
    } ∷
    -- the root is a list
    record { text = ascii "[]"; room = 4096; code = 24 } ∷
    -- an entry is no object
    record {
      text = ascii "{\"responses\":[1]}";
      room = 4096;
      code = 24;
    } ∷
    -- publicKey missing
    record {
      text = ascii "{\"responses\":[{\"request\":\"\",\"response\":\"\"}]}";
      room = 4096;
      code = 24;
    } ∷
    -- publicKey twice
    record {
      text = ascii "{\"responses\":[{\"publicKey\":\"AAECAwQFBgcICQoLDA0ODxAREhMUFRYXGBkaGxwdHh8=\","
          ++ ascii "\"publicKey\":\"AAECAwQFBgcICQoLDA0ODxAREhMUFRYXGBkaGxwdHh8=\",\"request\":\"\","
          ++ ascii "\"response\":\"\"}]}";
      room =
          4096;
      code = 24;
    } ∷
    -- a key of 31 bytes
    record {
      text = ascii "{\"responses\":[{\"publicKey\":\"AAECAwQFBgcICQoLDA0ODxAREhMUFRYXGBkaGxwdHg==\","
          ++ ascii "\"request\":\"\",\"response\":\"\"}]}";
      room = 4096;
      code = 24;
    } ∷
    -- a request that is no string
    record {
      text = ascii "{\"responses\":[{\"publicKey\":\"AAECAwQFBgcICQoLDA0ODxAREhMUFRYXGBkaGxwdHh8=\","
          ++ ascii "\"request\":[],\"response\":\"\"}]}";
      room = 4096;
      code = 24;
    } ∷
    -- padding left out
    record {
      text = ascii "{\"responses\":[{\"publicKey\":\"AAECAwQFBgcICQoLDA0ODxAREhMUFRYXGBkaGxwdHh8=\","
          ++ ascii "\"request\":\"QQ\",\"response\":\"\"}]}";
      room = 4096;
      code = 24;
    } ∷
    -- spare bits that are not zero
    record {
      text = ascii "{\"responses\":[{\"publicKey\":\"AAECAwQFBgcICQoLDA0ODxAREhMUFRYXGBkaGxwdHh8=\","
          ++ ascii "\"request\":\"QR==\",\"response\":\"\"}]}";
      room = 4096;
      code = 24;
    } ∷
    -- something after the text
    record {
      text = ascii "{\"responses\":[{\"publicKey\":\"AAECAwQFBgcICQoLDA0ODxAREhMUFRYXGBkaGxwdHh8=\","
          ++ ascii "\"request\":\"QQ==\",\"response\":\"QUI=\"}]}x";
      room = 4096;
      code = 24;
    } ∷
    []

examples : T (all table)
unfolding pick either both then then_step past_while after past_colon onward walk more_of starts some_digits past_minus
    past_sign whole_at fraction_at signed_at exponent_at integer_at number_at escape_of nibble_of nibble_at hex_at escape_at
    least_second most_second second_at tail_at long_at wide_at unit_at unit_step string_at codes_at content_at same_list literal_at
    plain_at item_step member_step array_of object_of value_by value_at ends_at is_text members_of named place_of value_place
    answer_of count_of tally found_of sextet_of one_of two_of three_of group_of decode64 string_of text_place member_of is64 held
    is32 rand_good has_all entry_at elements_of all_of entries_at list_of list_place entries_from entries_of is_big any_big read_of
examples = tt
