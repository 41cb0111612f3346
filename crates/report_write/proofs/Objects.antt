-- The object that is put piece after piece is the text, and how long it is.
use Prim.Native.Nat.{ℕ, ◌+◌, ◌*◌, ◌-◌, ◌/◌, ◌≤◌}
use mathlib.Core.Path.{◌≡◌, ◌∙◌, ap}
use mathlib.Core.Bool.{Bool, true, false}
use mathlib.Core.List.{List, [], ◌∷◌, ◌++◌, append_assoc}
use native.Mathlib.Omega.{arith}
use lib.ListN.{length, take, drop, length-append, length-take}
use Rattle.base64_strict.specs.Encode.{encode64}
use Rattle.base64_strict.proofs.Encodes.{encode-length}
use Rattle.report_read.specs.Entry.{Entry}
use Rattle.laws.proofs.Pasted.{length_part}
use Rattle.pile.specs.Pile.{request_length, response_length, request_area, response_area, request_packet, response_packet}
use Rattle.report_write.specs.Entries.{entry_of}
use Rattle.report_write.specs.Text.{entry_text}
use Rattle.report_write.specs.Pieces.{first_word, rand_word, key_word, request_word, response_word}
use Rattle.report_write.specs.Pieces.{piece, head_of, packets_of, object_text, Fits}

rest-is : (e : Entry) (t : List ℕ)
    → packets_of e ++ t
    ≡ request_word ++ (encode64 e.request ++ (response_word ++ (encode64 e.response ++ t)))
unfolding packets_of piece
rest-is e t =
    append_assoc (piece request_word e.request) (piece response_word e.response) t
    ∙ append_assoc request_word (encode64 e.request) (piece response_word e.response ++ t)
    ∙ ap (λ (l : List ℕ). request_word ++ (encode64 e.request ++ l))
    (append_assoc response_word (encode64 e.response) t)

close : (first : Bool) (e : Entry) (t : List ℕ)
    → object_text first e ++ t ≡ head_of first e ++ (packets_of e ++ (34 ∷ 125 ∷ t))
unfolding object_text
close first e t =
    append_assoc (head_of first e ++ packets_of e) (34 ∷ 125 ∷ []) t
    ∙ append_assoc (head_of first e) (packets_of e) (34 ∷ 125 ∷ t)

pub object-is : (first : Bool) (e : Entry) (t : List ℕ) → object_text first e ++ t ≡ entry_text first e t
unfolding head_of piece
object-is true e t =
    close true e t
    ∙ ap (λ (l : List ℕ). piece first_word e.key ++ l) (rest-is e (34 ∷ 125 ∷ t))
    ∙ append_assoc first_word (encode64 e.key) _
object-is false e t =
    close false e t
    ∙ ap (λ (l : List ℕ). (piece rand_word e.rand ++ piece key_word e.key) ++ l) (rest-is e (34 ∷ 125 ∷ t))
    ∙ append_assoc (piece rand_word e.rand) (piece key_word e.key) _
    ∙ append_assoc rand_word (encode64 e.rand) _
    ∙ ap (λ (l : List ℕ). rand_word ++ (encode64 e.rand ++ l)) (append_assoc key_word (encode64 e.key) _)

-- ---- lengths
piece-length : (w x : List ℕ) → length (piece w x) ≡ length w + (length x + 2) / 3 * 4
unfolding piece
piece-length w x = length-append w (encode64 x) ∙ ap (λ (n : ℕ). length w + n) (encode-length x)

packets-length : (e : Entry)
    → length (packets_of e) ≡ 27 + (length e.request + 2) / 3 * 4 + (length e.response + 2) / 3 * 4
unfolding packets_of
packets-length e =
    let q : length (piece request_word e.request) ≡ 13 + (length e.request + 2) / 3 * 4
    = piece-length request_word e.request in
    let a : length (piece response_word e.response) ≡ 14 + (length e.response + 2) / 3 * 4
    = piece-length response_word e.response in
    length-append (piece request_word e.request) (piece response_word e.response) ∙ omega arith

-- what is fixed in an object, its rand and key of 32 bytes counted in
abbrev pub fixed : Bool → ℕ
fixed true = 87
fixed false = 141

head-length : (first : Bool) (e : Entry) → length e.key ≡ 32 → length e.rand ≡ 32
    → length (head_of first e) + 29 ≡ fixed first
unfolding head_of
head-length true e k r =
    let a : length (piece first_word e.key) ≡ 14 + (length e.key + 2) / 3 * 4 = piece-length first_word e.key in
    omega arith
head-length false e k r =
    let a : length (piece rand_word e.rand) ≡ 9 + (length e.rand + 2) / 3 * 4 = piece-length rand_word e.rand in
    let b : length (piece key_word e.key) ≡ 15 + (length e.key + 2) / 3 * 4 = piece-length key_word e.key in
    let l = length-append (piece rand_word e.rand) (piece key_word e.key) in
    omega arith

entry_length : (first : Bool) (e : Entry) → length e.key ≡ 32 → length e.rand ≡ 32
    → length (object_text first e)
    ≡ fixed first + (length e.request + 2) / 3 * 4 + (length e.response + 2) / 3 * 4
unfolding object_text
entry_length first e k r =
    let a = length-append (head_of first e ++ packets_of e) (34 ∷ 125 ∷ []) in
    let b = length-append (head_of first e) (packets_of e) in
    let h = head-length first e k r in
    let p = packets-length e in
    omega arith

part_length : (a e : ℕ) (r : List ℕ) → a ≤ e → e ≤ length r → length (take (e - a) (drop a r)) ≡ e - a
part_length a e r h k = length_part r a e h k

pub object-length : (first : Bool) (r : List ℕ) → Fits r
    → length (object_text first (entry_of r))
    ≡ fixed first + (length (request_packet r) + 2) / 3 * 4 + (length (response_packet r) + 2) / 3 * 4
unfolding entry_of
object-length first r f =
    entry_length first (entry_of r) (part_length 0 32 r (omega arith) (omega (arith, f.long)))
    (part_length 32 64 r (omega arith) (omega (arith, f.long)))

-- no packet is above 2,000 bytes
pub packet-most : (r : List ℕ) → Fits r → (length (request_packet r) ≤ 2000) × (length (response_packet r) ≤ 2000)
unfolding request_packet response_packet
packet-most r f = (
  omega (arith, length-take (request_length r) (request_area r), f.request),
  omega (arith, length-take (response_length r) (response_area r), f.response),
)

pub object-most : (first : Bool) (r : List ℕ) → Fits r → length (object_text first (entry_of r)) ≤ fixed first + 5336
object-most first r f =
    let l = object-length first r f in
    let m = packet-most r f in
    omega arith
