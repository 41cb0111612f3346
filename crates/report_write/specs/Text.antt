-- A report's text as we write it (draft 19, 8.4.1; request P7): no blanks, no escapes, the members in the order in
-- which that section names them (rand, publicKey, request, response), and no rand in the first object.
-- Each text is followed by the text t.
use Prim.Native.Char.{code}
use Rattle.std.specs.Prelude.{ℕ, Bool, true, false, List, [], ◌∷◌, ◌++◌}
use Rattle.base64_strict.specs.Encode.{encode64}
use Rattle.report_read.specs.Entry.{Entry, rand_name, key_name, request_name, response_name, responses_name}

-- "name":"base64"
abbrev pub member_text : List ℕ → List ℕ → List ℕ → List ℕ
member_text name x t =
    code "\"" ∷ (name ++ code "\"" ∷ code ":" ∷ code "\"" ∷ (encode64 x ++ code "\"" ∷ t))

-- the three members that every object has, with commas between them, and the closing brace
abbrev pub rest_text : Entry → List ℕ → List ℕ
rest_text e t =
    member_text key_name e.key
    (code "," ∷ member_text request_name e.request (code "," ∷ member_text response_name e.response (code "}" ∷ t)))

-- an object, the first of the list or a later one
abbrev pub entry_text : Bool → Entry → List ℕ → List ℕ
entry_text true e t = code "{" ∷ rest_text e t
entry_text false e t = code "{" ∷ member_text rand_name e.rand (code "," ∷ rest_text e t)

-- objects with commas between them, and the closing bracket
unfoldable pub entries_text : Bool → Entry → List Entry → List ℕ → List ℕ
entries_text first e [] t = entry_text first e (code "]" ∷ t)
entries_text first e (f ∷ es) t = entry_text first e (code "," ∷ entries_text false f es t)

-- {"responses":[ .. ]}; there is no report of no entries
unfoldable pub json_of : List Entry → List ℕ
json_of [] = []
json_of (e ∷ es) =
    code "{" ∷ code "\"" ∷ (responses_name ++ code "\"" ∷ code ":" ∷ code "[" ∷ entries_text true e es (code "}" ∷ []))
