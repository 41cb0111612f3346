-- The reader and the writer agree: what the codes of a frame, `has` and `value_of` say, told by `encode` alone.
use Prim.Native.Nat.{ℕ}
use mathlib.Core.Path.{◌≡◌, sym, ap, ◌∙◌}
use mathlib.Core.List.{List}
use mathlib.Core.Logic.{◌↔◌}
use Rattle.laws.specs.Bytes.{Bytes}
use Rattle.laws.proofs.First.{none-quiet}
use Rattle.refusal.specs.Refusal.{refusals}
use Rattle.wire_message.specs.Encode.{Encoded, among, value_among}
use Rattle.wire_message.specs.Frame.{frame_code}
use Rattle.wire_message.specs.Values.{has, value_of}
use Rattle.wire_message.proofs.Encoded.{encode-good, has-encoded, value-encoded}
use Rattle.wire_message.proofs.Decoded.{good-encoded, encode-once}

module _ (m : List ℕ) where
  -- bytes have neither code 4 nor 5 exactly where they encode 1 to 32 fields: rising u32 tags, values of whole fours,
  -- offsets that are u32
  pub good-exactly : Bytes m → (frame_code m).code ≡ 0 ↔ Encoded m
  good-exactly bytes =
      (good-encoded m bytes, λ a. none-quiet refusals (ap frame_code a.is ∙ encode-good a.fields a.kept))

  -- no other list of fields has this encoding
  pub fields-only : (a b : Encoded m) → a.fields ≡ b.fields
  fields-only a b = encode-once a.fields b.fields a.kept b.kept (sym a.is ∙ b.is)

  -- a tag is there for the reader exactly where it is in the list
  pub has-exactly : (a : Encoded m) (tag : ℕ) → has m tag ≡ among tag a.fields
  has-exactly a tag = ap (λ (s : List ℕ). has s tag) a.is ∙ has-encoded a.fields a.kept tag

  -- the value that is read for a tag is its value in the list, empty where it is not there
  pub value-exactly : (a : Encoded m) (tag : ℕ) → value_of m tag ≡ value_among tag a.fields
  value-exactly a tag = ap (λ (s : List ℕ). value_of s tag) a.is ∙ value-encoded a.fields a.kept tag
