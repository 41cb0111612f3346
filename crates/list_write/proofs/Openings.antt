-- The texts that are put by pieces, at their beginning; and how long some are.
use Rattle.std.specs.Prelude.{Option}
use Prim.Native.Nat.{ℕ, ◌+◌, ◌-◌, ◌≤◌}
use mathlib.Core.Path.{◌≡◌, sym, ◌∙◌, ap}
use mathlib.Core.List.{List, [], ◌∷◌}
use native.Mathlib.Omega.{arith}
use lib.ListN.{length, take, drop, length-take}
use borrow.Author.Tests.{eq-eqb, ne_eqb}
use Rattle.base64_strict.specs.Encode.{encode64}
use Rattle.base64_strict.proofs.Encodes.{encode-length}
use Rattle.laws.specs.Ascii.{ascii}
use Rattle.laws.specs.Flat.{flat}
use Rattle.laws.specs.Pick.{pick}
use Rattle.laws.specs.Written.{Puts}
use Rattle.laws.proofs.Written.{puts_none}
use Rattle.json_quote.specs.Quoted.{quoted}
use Rattle.json_quote.specs.Room.{spent}
use Rattle.json_quote.proofs.Putting.{Putting, putting-first}
use Rattle.json_quote.proofs.Rooms.{spent-sum, spent-zero}
use Rattle.list_write.specs.declared.Item.TheVariants.{Source, Address}
use Rattle.list_write.specs.Decimal.{decimal}
use Rattle.list_write.specs.Given.{Given}
use Rattle.list_write.specs.Lines.{lines_of}
use Rattle.list_write.specs.Texts.{address_text, items_text, head_text, key_text, server_text, sources_text}
use Rattle.list_write.specs.Texts.{reports_text}
use Rattle.list_write.proofs.Flats.{flat-length, flat-none, room-piece}
use Rattle.list_write.proofs.Tests.{rest-is}

module _ (o : List ℕ) (at : ℕ) where
  pub address-first : (t : List ℕ) → at + length (address_text t) ≤ length o
      → Putting (address_text t) (flat (ascii "{\"protocol\":\"" ∷ take 3 t ∷ ascii "\",\"address\":"
      ∷ quoted (take (length t - 4) (drop 4 t)) ∷ ascii "}" ∷ [])) o at o at
  unfolding address_text
  address-first t h = rw (rest-is t 4) (putting-first _ o at h)

  pub head_first : (name : List ℕ) (v : ℕ) → at + length (head_text name v) ≤ length o
      → Putting (head_text name v) (flat (ascii "{\"name\":" ∷ quoted name ∷ ascii ",\"version\":" ∷ decimal v ∷ []))
      o at o at
  unfolding head_text
  head_first name v h = putting-first _ o at h

  pub key-first : (key : List ℕ) → at + length (key_text key) ≤ length o
      → Putting (key_text key) (flat (ascii ",\"publicKeyType\":\"ed25519\",\"publicKey\":\"" ∷ encode64 key
      ∷ ascii "\",\"addresses\":[" ∷ [])) o at o at
  unfolding key_text
  key-first key h = putting-first _ o at h

  pub server-first : (g : Given) → at + length (server_text g) ≤ length o
      → Putting (server_text g) (flat (head_text g.name g.version ∷ key_text g.key
      ∷ items_text Address (lines_of g.addresses) ∷ ascii "}" ∷ [])) o at o at
  unfolding server_text
  server-first g h = putting-first _ o at h

  pub sources-none : (s : List ℕ) → length s ≡ 0 → at + length (sources_text s) ≤ length o
      → Puts o at (sources_text s) o at
  unfolding sources_text pick
  sources-none s e h = rw (eq-eqb _ _ e) (puts_none o at (omega arith))

  pub sources-first : (s : List ℕ) → (length s ≡ 0 → ⊥) → at + length (sources_text s) ≤ length o
      → Putting (sources_text s) (flat (ascii ",\"sources\":[" ∷ items_text Source (lines_of s) ∷ [])) o at o at
  unfolding sources_text pick
  sources-first s e h = rw (ne_eqb _ _ e) (putting-first _ o at (rw (ne_eqb _ _ e) at h))

  pub reports-none : (s : List ℕ) → length s ≡ 0 → at + length (reports_text s) ≤ length o
      → Puts o at (reports_text s) o at
  unfolding reports_text pick
  reports-none s e h = rw (eq-eqb _ _ e) (puts_none o at (omega arith))

  pub reports-first : (s : List ℕ) → (length s ≡ 0 → ⊥) → at + length (reports_text s) ≤ length o
      → Putting (reports_text s) (flat (ascii ",\"reports\":" ∷ quoted s ∷ [])) o at o at
  unfolding reports_text pick
  reports-first s e h = rw (ne_eqb _ _ e) (putting-first _ o at (rw (ne_eqb _ _ e) at h))

-- ---- Room. An address: what is fixed in it, and its string.
pub address_room : (w a : Option ℕ) (t : List ℕ) {r : Option ℕ} → 4 ≤ length t → a ≡ spent w 29
    → r ≡ spent a (length (quoted (take (length t - 4) (drop 4 t)))) → r ≡ spent w (length (address_text t))
unfolding address_text
address_room w a t h e f =
    f ∙ ap (λ z. spent z (length (quoted (take (length t - 4) (drop 4 t))))) e ∙ spent-sum w 29 _
    ∙ ap (spent w) size
  where
    long : length (take 3 t) ≡ 3
    long = omega (arith, length-take 3 t)

    last : length (flat (ascii "}" ∷ [])) ≡ 1
    last = flat-length (ascii "}") [] ∙ ap (λ n. 1 + n) flat-none

    size : 29 + length (quoted (take (length t - 4) (drop 4 t)))
        ≡ length (flat (ascii "{\"protocol\":\"" ∷ take 3 t ∷ ascii "\",\"address\":" ∷ quoted (drop 4 t)
        ∷ ascii "}" ∷ []))
    size =
        let q = ap (λ l. length (quoted l)) (rest-is t 4) in
        let a : _ ≡ 13 + length (flat (take 3 t ∷ ascii "\",\"address\":" ∷ quoted (drop 4 t) ∷ ascii "}" ∷ []))
        = flat-length (ascii "{\"protocol\":\"") (take 3 t ∷ ascii "\",\"address\":" ∷ quoted (drop 4 t) ∷ ascii "}"
        ∷ []) in
        let b = flat-length (take 3 t) (ascii "\",\"address\":" ∷ quoted (drop 4 t) ∷ ascii "}" ∷ []) in
        let c : _ ≡ 12 + length (flat (quoted (drop 4 t) ∷ ascii "}" ∷ []))
        = flat-length (ascii "\",\"address\":") (quoted (drop 4 t) ∷ ascii "}" ∷ []) in
        let d = flat-length (quoted (drop 4 t)) (ascii "}" ∷ []) in
        omega (arith, q, a, b, c, d, last, long)

-- a server
head-size : (name : List ℕ) (v : ℕ) → length (head_text name v) ≡ 19 + length (quoted name) + length (decimal v)
unfolding head_text
head-size name v =
    let a : _ ≡ 8 + length (flat (quoted name ∷ ascii ",\"version\":" ∷ decimal v ∷ []))
    = flat-length (ascii "{\"name\":") (quoted name ∷ ascii ",\"version\":" ∷ decimal v ∷ []) in
    let b = flat-length (quoted name) (ascii ",\"version\":" ∷ decimal v ∷ []) in
    let c : _ ≡ 11 + length (flat (decimal v ∷ [])) = flat-length (ascii ",\"version\":") (decimal v ∷ []) in
    let d = flat-length (decimal v) [] in
    omega (arith, a, b, c, d, flat-none)

key-size : (key : List ℕ) → length key ≡ 32 → length (key_text key) ≡ 99
unfolding key_text
key-size key e =
    let a : _ ≡ 40 + length (flat (encode64 key ∷ ascii "\",\"addresses\":[" ∷ []))
    = flat-length (ascii ",\"publicKeyType\":\"ed25519\",\"publicKey\":\"") (encode64 key ∷ ascii
    "\",\"addresses\":[" ∷ []) in
    let b = flat-length (encode64 key) (ascii "\",\"addresses\":[" ∷ []) in
    let c : _ ≡ 15 + length (flat []) = flat-length (ascii "\",\"addresses\":[") [] in
    omega (arith, a, b, c, flat-none, encode-length key)

pub server-size : (g : Given) → length g.key ≡ 32
    → length (server_text g)
    ≡ 119 + length (decimal g.version) + length (quoted g.name) + length (items_text Address (lines_of g.addresses))
unfolding server_text
server-size g e =
    let a = flat-length (head_text g.name g.version)
    (key_text g.key ∷ items_text Address (lines_of g.addresses) ∷ ascii "}" ∷ []) in
    let b = flat-length (key_text g.key) (items_text Address (lines_of g.addresses) ∷ ascii "}" ∷ []) in
    let c = flat-length (items_text Address (lines_of g.addresses)) (ascii "}" ∷ []) in
    let d : _ ≡ 1 + length (flat []) = flat-length (ascii "}") [] in
    omega (arith, a, b, c, d, flat-none, head-size g.name g.version, key-size g.key e)

pub server-room : (w a b : Option ℕ) (g : Given) (n : ℕ) {r : Option ℕ} → length g.key ≡ 32
    → n ≡ 119 + length (decimal g.version)
    → a ≡ spent w n → b ≡ spent a (length (quoted g.name))
    → r ≡ spent b (length (items_text Address (lines_of g.addresses))) → r ≡ spent w (length (server_text g))
server-room w a b g n k l e f h =
    let x = length (quoted g.name) in
    let y = length (items_text Address (lines_of g.addresses)) in
    h ∙ ap (λ z. spent z y) (f ∙ ap (λ z. spent z x) e ∙ spent-sum w n x) ∙ spent-sum w (n + x) y
    ∙ ap (spent w) (omega (arith, server-size g k))

-- the members behind the servers
pub sources-room-none : (w : Option ℕ) (s : List ℕ) → length s ≡ 0 → w ≡ spent w (length (sources_text s))
unfolding sources_text pick
sources-room-none w s e = rw (eq-eqb _ _ e) (sym (spent-zero w))

pub sources-room-some : (w a : Option ℕ) (s : List ℕ) {r : Option ℕ} → (length s ≡ 0 → ⊥) → a ≡ spent w 12
    → r ≡ spent a (length (items_text Source (lines_of s))) → r ≡ spent w (length (sources_text s))
unfolding sources_text pick
sources-room-some w a s h e f =
    rw (ne_eqb _ _ h) (room-piece w a (ascii ",\"sources\":[") (items_text Source (lines_of s) ∷ []) e
    (f ∙ ap (spent a) (one (items_text Source (lines_of s)))))
  where
    one : (x : List ℕ) → length x ≡ length (flat (x ∷ []))
    one x = omega (arith, flat-length x [], flat-none)

pub reports-room-none : (w : Option ℕ) (s : List ℕ) → length s ≡ 0 → w ≡ spent w (length (reports_text s))
unfolding reports_text pick
reports-room-none w s e = rw (eq-eqb _ _ e) (sym (spent-zero w))

pub reports-room-some : (w a : Option ℕ) (s : List ℕ) {r : Option ℕ} → (length s ≡ 0 → ⊥) → a ≡ spent w 11
    → r ≡ spent a (length (quoted s)) → r ≡ spent w (length (reports_text s))
unfolding reports_text pick
reports-room-some w a s h e f =
    rw (ne_eqb _ _ h) (room-piece w a (ascii ",\"reports\":") (quoted s ∷ []) e
    (f ∙ ap (spent a) (one (quoted s))))
  where
    one : (x : List ℕ) → length x ≡ length (flat (x ∷ []))
    one x = omega (arith, flat-length x [], flat-none)
