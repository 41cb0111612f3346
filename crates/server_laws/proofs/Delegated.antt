-- What an operator writes is a good CERT, and says what was lent: the key, its first and its last second, and the
-- signature over the DELE that was written to be signed.
use Rattle.refusal.specs.declared.Refusal.{Refusal}
use Rattle.std.specs.Prelude.{Ok, Result}
use mathlib.Core.List.{List}
use mathlib.Core.Path.{◌≡◌, refl}
use Prim.Native.Nat.{ℕ, ◌^◌, ◌<◌}
use lib.ListN.{length, take}
use Rattle.laws.specs.Numbers.{le_bytes}
use Rattle.laws.proofs.Numbers.{le-written}
use Rattle.wire_message.specs.Encode.{among, value_among}
use Rattle.wire_message.specs.Tags.{SIG, DELE, PUBK, MINT, MAXT}
use Rattle.wire_message.specs.Values.{value_of}
use Rattle.wire_message.proofs.Encoded.{value-encoded}
use Rattle.refusal.specs.Refusal.{passed}
use Rattle.server_parts.specs.Delegation.{dele_fields, dele_bytes, cert_fields, cert_bytes}
use Rattle.server_response.specs.Refusing.{mint_of, maxt_of}
use Rattle.wire_request.proofs.Answered.{Writes, done-front}
use Rattle.server_laws.specs.Answerable.{GoodCert, Delegates}
use Rattle.server_laws.proofs.Made.{dele-kept, cert-kept}

module _ (pubk : List ℕ) (mint maxt : ℕ) (signature : List ℕ) (k32 : length pubk ≡ 32) (s64 : length signature ≡ 64)
    (m64 : mint < 2 ^ 64) (x64 : maxt < 2 ^ 64) where
  abbrev value : List ℕ
  value = cert_bytes pubk mint maxt signature

  value-is : (tag : ℕ) → value_of value tag ≡ value_among tag (cert_fields pubk mint maxt signature)
  unfolding cert_bytes
  value-is tag = value-encoded _ (cert-kept pubk mint maxt signature k32 s64) tag

  dele-is : value_of value DELE ≡ dele_bytes pubk mint maxt
  unfolding value_among
  dele-is = value-is DELE

  dele-at : (tag : ℕ) → value_of (value_of value DELE) tag ≡ value_among tag (dele_fields pubk mint maxt)
  unfolding dele_bytes
  dele-at tag = rw dele-is (value-encoded _ (dele-kept pubk mint maxt k32) tag)

  good : GoodCert value
  unfolding cert_bytes dele_bytes among value_among le_bytes
  good =
      record {
        fields = cert_fields pubk mint maxt signature;
        kept = cert-kept pubk mint maxt signature k32 s64;
        is = refl;
        sig = record { there = refl; right = s64 };
        dele = record {
          there = refl;
          fields = dele_fields pubk mint maxt;
          kept = dele-kept pubk mint maxt k32;
          is = refl;
        };
        pubk = record { there = refl; right = k32 };
        mint = record { there = refl; right = refl };
        maxt = record { there = refl; right = refl };
      }

  mint-is : mint_of value ≡ mint
  unfolding value_among
  mint-is = rw (dele-at MINT) (le-written 8 mint m64)

  maxt-is : maxt_of value ≡ maxt
  unfolding value_among
  maxt-is = rw (dele-at MAXT) (le-written 8 maxt x64)

  pub cert-delegates : Delegates value pubk mint maxt signature (dele_bytes pubk mint maxt)
  unfolding value_among
  cert-delegates =
      record { good = good; signed = value-is SIG; over = dele-is; key = dele-at PUBK; from = mint-is; to = maxt-is }

  -- and so do the first n bytes of what `write_cert` leaves, where it answers n; the DELE in it is the first k bytes of
  -- what `write_dele` leaves, where it answers k
  pub front-delegates : {x y : Result ℕ Refusal} {d e : List ℕ} (out room : List ℕ) (n k : ℕ)
      → Writes passed value out x d → x ≡ Ok n
      → Writes passed (dele_bytes pubk mint maxt) room y e → y ≡ Ok k
      → Delegates (take n d) pubk mint maxt signature (take k e)
  front-delegates out room n k c c-done w w-done =
      rw (done-front passed value out n c c-done, done-front passed (dele_bytes pubk mint maxt) room k w w-done)
      cert-delegates
