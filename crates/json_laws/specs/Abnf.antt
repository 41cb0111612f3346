-- RFC 8259's grammar, line by line, under the RFC's names, with the RFC's own line above each. A name stands after
-- those that it uses: sections 6 and 7 come before 3 to 5, and JSON-text comes last.
use Rattle.std.specs.Prelude.{ℕ, suc, [], ◌∷◌}
use Rattle.json_laws.specs.Rules.{Rule, octet, octets, range, ◌·◌, ◌∣◌, *◌, 1*◌, optional}

-- ---- RFC 8259, section 2, without JSON-text.

-- ws = *( %x20 /   ; Space
--         %x09 /   ; Horizontal tab
--         %x0A /   ; Line feed or New line
--         %x0D )   ; Carriage return
unfoldable pub ws : Rule
ws = * (octet 0x20 ∣ octet 0x09 ∣ octet 0x0A ∣ octet 0x0D)

-- begin-array = ws %x5B ws   ; [ left square bracket
unfoldable pub begin-array : Rule
begin-array = ws · octet 0x5B · ws

-- begin-object = ws %x7B ws   ; { left curly bracket
unfoldable pub begin-object : Rule
begin-object = ws · octet 0x7B · ws

-- end-array = ws %x5D ws   ; ] right square bracket
unfoldable pub end-array : Rule
end-array = ws · octet 0x5D · ws

-- end-object = ws %x7D ws   ; } right curly bracket
unfoldable pub end-object : Rule
end-object = ws · octet 0x7D · ws

-- name-separator = ws %x3A ws   ; : colon
unfoldable pub name-separator : Rule
name-separator = ws · octet 0x3A · ws

-- value-separator = ws %x2C ws   ; , comma
unfoldable pub value-separator : Rule
value-separator = ws · octet 0x2C · ws

-- ---- RFC 5234, appendix B.1. A letter in quotes there stands for both its cases (section 2.3).

-- DIGIT = %x30-39   ; 0-9
unfoldable pub DIGIT : Rule
DIGIT = range 0x30 0x39

-- HEXDIG = DIGIT / "A" / "B" / "C" / "D" / "E" / "F"
unfoldable pub HEXDIG : Rule
HEXDIG = DIGIT ∣ range 0x41 0x46 ∣ range 0x61 0x66

-- ---- RFC 8259, section 6.

-- decimal-point = %x2E   ; .
unfoldable pub decimal-point : Rule
decimal-point = octet 0x2E

-- digit1-9 = %x31-39   ; 1-9
unfoldable pub digit1-9 : Rule
digit1-9 = range 0x31 0x39

-- e = %x65 / %x45   ; e E
unfoldable pub e : Rule
e = octet 0x65 ∣ octet 0x45

-- minus = %x2D   ; -
unfoldable pub minus : Rule
minus = octet 0x2D

-- plus = %x2B   ; +
unfoldable pub plus : Rule
plus = octet 0x2B

-- zero = %x30   ; 0
unfoldable pub zero : Rule
zero = octet 0x30

-- exp = e [ minus / plus ] 1*DIGIT
unfoldable pub exp : Rule
exp = e · optional (minus ∣ plus) · 1* DIGIT

-- frac = decimal-point 1*DIGIT
unfoldable pub frac : Rule
frac = decimal-point · 1* DIGIT

-- int = zero / ( digit1-9 *DIGIT )
unfoldable pub int : Rule
int = zero ∣ (digit1-9 · * DIGIT)

-- number = [ minus ] int [ frac ] [ exp ]
unfoldable pub number : Rule
number = optional minus · int · optional frac · optional exp

-- ---- RFC 3629, section 4: the octets of a character above %x7F (RFC 8259, section 8.1: a text is UTF-8).

-- UTF8-tail = %x80-BF
unfoldable pub UTF8-tail : Rule
UTF8-tail = range 0x80 0xBF

-- UTF8-2 = %xC2-DF UTF8-tail
unfoldable pub UTF8-2 : Rule
UTF8-2 = range 0xC2 0xDF · UTF8-tail

-- UTF8-3 = %xE0 %xA0-BF UTF8-tail / %xE1-EC 2( UTF8-tail ) /
--          %xED %x80-9F UTF8-tail / %xEE-EF 2( UTF8-tail )
unfoldable pub UTF8-3 : Rule
UTF8-3 =
    (octet 0xE0 · range 0xA0 0xBF · UTF8-tail) ∣ (range 0xE1 0xEC · UTF8-tail · UTF8-tail) ∣
    (octet 0xED · range 0x80 0x9F · UTF8-tail) ∣ (range 0xEE 0xEF · UTF8-tail · UTF8-tail)

-- UTF8-4 = %xF0 %x90-BF 2( UTF8-tail ) / %xF1-F3 3( UTF8-tail ) /
--          %xF4 %x80-8F 2( UTF8-tail )
unfoldable pub UTF8-4 : Rule
UTF8-4 =
    (octet 0xF0 · range 0x90 0xBF · UTF8-tail · UTF8-tail) ∣ (range 0xF1 0xF3 · UTF8-tail · UTF8-tail · UTF8-tail) ∣
    (octet 0xF4 · range 0x80 0x8F · UTF8-tail · UTF8-tail)

-- ---- RFC 8259, section 7.

-- escape = %x5C   ; \
unfoldable pub escape : Rule
escape = octet 0x5C

-- quotation-mark = %x22   ; "
unfoldable pub quotation-mark : Rule
quotation-mark = octet 0x22

-- unescaped = %x20-21 / %x23-5B / %x5D-10FFFF
-- of characters: one above %x7F stands as its octets, so that %x80-10FFFF is UTF8-2 / UTF8-3 / UTF8-4
unfoldable pub unescaped : Rule
unescaped = range 0x20 0x21 ∣ range 0x23 0x5B ∣ range 0x5D 0x7F ∣ UTF8-2 ∣ UTF8-3 ∣ UTF8-4

-- char = unescaped /
--     escape (
--         %x22 /          ; "    quotation mark  U+0022
--         %x5C /          ; \    reverse solidus U+005C
--         %x2F /          ; /    solidus         U+002F
--         %x62 /          ; b    backspace       U+0008
--         %x66 /          ; f    form feed       U+000C
--         %x6E /          ; n    line feed       U+000A
--         %x72 /          ; r    carriage return U+000D
--         %x74 /          ; t    tab             U+0009
--         %x75 4HEXDIG )  ; uXXXX                U+XXXX
unfoldable pub char : Rule
char =
    unescaped ∣ (escape · (octet 0x22 ∣ octet 0x5C ∣ octet 0x2F ∣ octet 0x62 ∣ octet 0x66 ∣ octet 0x6E ∣
    octet 0x72 ∣ octet 0x74 ∣ (octet 0x75 · HEXDIG · HEXDIG · HEXDIG · HEXDIG)))

-- string = quotation-mark *char quotation-mark
unfoldable pub string : Rule
string = quotation-mark · * char · quotation-mark

-- ---- RFC 8259, sections 3 to 5. An object and an array are told over the rule of the values within them.

-- false = %x66.61.6c.73.65   ; false
unfoldable pub false : Rule
false = octets (0x66 ∷ 0x61 ∷ 0x6c ∷ 0x73 ∷ 0x65 ∷ [])

-- null = %x6e.75.6c.6c   ; null
unfoldable pub null : Rule
null = octets (0x6e ∷ 0x75 ∷ 0x6c ∷ 0x6c ∷ [])

-- true = %x74.72.75.65   ; true
unfoldable pub true : Rule
true = octets (0x74 ∷ 0x72 ∷ 0x75 ∷ 0x65 ∷ [])

-- member = string name-separator value
unfoldable pub member : Rule → Rule
member value = string · name-separator · value

-- object = begin-object [ member *( value-separator member ) ] end-object
unfoldable pub object : Rule → Rule
object value = begin-object · optional (member value · * (value-separator · member value)) · end-object

-- array = begin-array [ value *( value-separator value ) ] end-array
unfoldable pub array : Rule → Rule
array value = begin-array · optional (value · * (value-separator · value)) · end-array

-- value = false / null / true / object / array / number / string
-- with at most d objects and arrays one within another, the outermost counted
unfoldable pub value : ℕ → Rule
value ℕ.zero = false ∣ null ∣ true ∣ number ∣ string
value (suc d) = false ∣ null ∣ true ∣ object (value d) ∣ array (value d) ∣ number ∣ string

-- ---- RFC 8259, section 2.

-- JSON-text = ws value ws
unfoldable pub JSON-text : ℕ → Rule
JSON-text d = ws · value d · ws
