-- Code 24's first cause, from the RFC's page: a text that does not derive from JSON-text is refused with 24, and one
-- that is not refused with 24 derives.
use Prim.Native.Nat.{ℕ}
use mathlib.Core.Path.{◌≡◌, refl}
use mathlib.Core.Bool.{Bool, true, false}
use mathlib.Core.List.{List}
use Rattle.laws.specs.Pick.{pick}
use Rattle.json_values.specs.Value.{is_text}
use Rattle.report_read.specs.Entry.{list_place, entries_from, entries_of}
use Rattle.report_read.specs.Read.{read_number, read_of}
use Rattle.json_laws.specs.Abnf
use Rattle.json_laws.proofs.Sound.{text-sound}
use Rattle.json_laws.proofs.Exactly.{not-json}

unread-24 : (s : List ℕ) (room : ℕ) → is_text s ≡ false → read_number (read_of (entries_of s) room) ≡ 24
unfolding entries_of list_place entries_from read_of pick
unread-24 s room e = rw e refl

pub no-text-24 : (s : List ℕ) (room : ℕ) → (Abnf.JSON-text 16 s → ⊥) → read_number (read_of (entries_of s) room) ≡ 24
no-text-24 s room n = unread-24 s room ((not-json s).1 n)

pub read-derives : (s : List ℕ) (room : ℕ) → (read_number (read_of (entries_of s) room) ≡ 24 → ⊥) → Abnf.JSON-text 16 s
read-derives s room n = by (is_text s) refl
  where
    by : (b : Bool) → is_text s ≡ b → Abnf.JSON-text 16 s
    by true e = text-sound s e
    by false e = absurd (n (unread-24 s room e))
