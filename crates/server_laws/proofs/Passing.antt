-- Whatever a server writes passes, reads back as what was lent, and carries what was signed; its length.
use Rattle.std.specs.Prelude.{Ok}
use mathlib.Core.Bool.{true, false, not}
use mathlib.Core.List.{List, ◌++◌}
use mathlib.Core.Path.{◌≡◌, refl, sym, ap, ◌∙◌}
use Prim.Native.Nat.{ℕ, ◌+◌, ◌%◌, ◌≤◌, ◌<◌}
use native.Mathlib.Omega.{arith}
use borrow.Author.Tests.{eq-eqb, le-ltb}
use lib.ListN.{length}
use Rattle.laws.specs.First.{first_of, when_of}
use Rattle.laws.specs.Numbers.{le, le_bytes}
use Rattle.laws.proofs.Any.{any-not, any_none}
use Rattle.laws.proofs.First.{says-0, test-false, equal, is_last, is-empty, none-quiet, row-quiet, test-quiet}
use Rattle.laws.proofs.Numbers.{le-written}
use Rattle.laws.proofs.Same.{same_refl}
use Rattle.wire_message.specs.Encode.{Fields, encode, among, value_among}
use Rattle.wire_message.specs.Rules.{message_code}
use Rattle.wire_message.specs.Tags.{SIG, VER, NONC, DELE, TYPE, PATH, RADI, PUBK, MIDP, SREP, VERS, MINT, ROOT, CERT}
use Rattle.wire_message.specs.Tags.{MAXT, INDX}
use Rattle.wire_message.specs.Values.{value_of}
use Rattle.wire_message.proofs.Codes as codes
use Rattle.wire_message.proofs.Codes.{code-passed}
use Rattle.wire_message.proofs.Encoded.{value-encoded}
use Rattle.wire_message.proofs.FieldRows.{AllHeld, all-passes}
use Rattle.refusal.specs.Refusal.{answer, passed, shifted, refusals}
use Rattle.server_response.specs.Refusing.{dele_of, mint_of, maxt_of}
use Rattle.server_response.specs.Response.{Reply, nonce_of, response_fields, response_bytes}
use Rattle.server_parts.specs.Signed.{srep_fields, srep_bytes}
use Rattle.server_response.proofs.Certified.{leads-siblings}
use Rattle.server_response.proofs.Pieces.{Sized, length-response}
use Rattle.server_response.proofs.Replied.{lent-short, sized}
use Rattle.check_response.specs.Check.{version_unasked, version_downgraded, nonce_differs, path_misses, time_outside, answers_code}
use Rattle.check_response.specs.Check.{agreement_code, check_code, window_in, verdict_of, key_of}
use Rattle.check_response.specs.Window.{window_of}
use Rattle.check_response.proofs.Downgrade.{one-highest}
use Rattle.check_response.proofs.Lent.{valid-by, key-by}
use Rattle.wire_packet.specs.Good.{PacketFields}
use Rattle.wire_packet.specs.Packet.{body_start, body}
use Rattle.wire_packet.specs.Parts.{parts_in, parts_of}
use Rattle.wire_packet.specs.Request.{request_code, request_message_code}
use Rattle.wire_packet.specs.Response.{srep, cert, dele, type_in, indx_in, ver_in, vers_in, radi_in, midp_in, mint_in, maxt_in}
use Rattle.wire_packet.specs.Response.{shape_code, signed_code, version_unlisted, response_message_code, response_code}
use Rattle.wire_packet.specs.Response.{response_in, response_of}
use Rattle.wire_packet.specs.Tables.{root_table, srep_table, cert_table, dele_table}
use Rattle.wire_packet.proofs.PacketFields.{fields-body, fields-pass}
use Rattle.wire_packet.proofs.RequestCodes.{lent-good}
use Rattle.wire_packet.proofs.Versions.{versions-good, version-held, version-test}
use Rattle.wire_request.specs.Texts.{delegation_context, response_context, delegation_text, response_text}
use Rattle.server_laws.specs.Answerable.{Typed}
use Rattle.server_laws.proofs.Granting.{Granted}
use Rattle.server_laws.proofs.Made.{srep-kept, response-packet}

module _ (a : Reply) (t : Typed a) (g : Granted a) where
  abbrev q : List ℕ
  q = a.request

  abbrev p : List ℕ
  p = response_bytes a

  abbrev srep-value : List ℕ
  srep-value = srep_bytes a.root a.midp a.radi

  -- ---- the message, as it is read

  sizes : Sized a
  sizes = sized a t.root t.signature g.request

  path-four : length a.path % 4 ≡ 0
  path-four =
      omega (arith, (leads-siblings _ a.indx a.path a.root g.leads).whole)

  cert-four : length a.cert % 4 ≡ 0
  cert-four = (codes.message-good a.cert cert_table _ refl g.certified).size.whole

  packet : PacketFields p (response_fields a)
  packet = response-packet a sizes path-four cert-four (omega (arith, lent-short q g.request, g.short))

  kept : Fields (response_fields a)
  kept = packet.kept

  body_is : body p ≡ encode (response_fields a)
  body_is = fields-body p (response_fields a) packet

  value-is : (tag : ℕ) → value_of (body p) tag ≡ value_among tag (response_fields a)
  value-is tag = rw body_is (value-encoded (response_fields a) kept tag)

  pub srep-is : srep (body p) ≡ srep-value
  unfolding value_among
  srep-is = value-is SREP

  pub cert-is : cert (body p) ≡ a.cert
  unfolding value_among
  cert-is = value-is CERT

  pub signature-is : value_of (body p) SIG ≡ a.signature
  unfolding value_among
  signature-is = value-is SIG

  pub dele-is : dele (body p) ≡ dele_of a.cert
  dele-is = ap (λ (s : List ℕ). value_of s DELE) cert-is

  srep-at : (tag : ℕ) → value_of (srep (body p)) tag ≡ value_among tag (srep_fields a.root a.midp a.radi)
  unfolding srep_bytes
  srep-at tag = rw srep-is (value-encoded _ (srep-kept a.root a.midp a.radi t.root) tag)

  type-is : type_in (body p) ≡ 1
  unfolding value_among
  type-is = rw (value-is TYPE) (le-written 4 1 (omega arith))

  indx-is : indx_in (body p) ≡ a.indx
  unfolding value_among
  indx-is = rw (value-is INDX) (le-written 4 a.indx t.indx)

  nonce-is : value_of (body p) NONC ≡ nonce_of a
  unfolding value_among
  nonce-is = value-is NONC

  path-is : value_of (body p) PATH ≡ a.path
  unfolding value_among
  path-is = value-is PATH

  ver-is : ver_in (body p) ≡ 1
  unfolding value_among
  ver-is = rw (srep-at VER) (le-written 4 1 (omega arith))

  vers-is : vers_in (body p) ≡ le_bytes 4 1
  unfolding value_among
  vers-is = srep-at VERS

  radi-is : radi_in (body p) ≡ a.radi
  unfolding value_among
  radi-is = rw (srep-at RADI) (le-written 4 a.radi t.radi)

  midp-is : midp_in (body p) ≡ a.midp
  unfolding value_among
  midp-is = rw (srep-at MIDP) (le-written 8 a.midp t.midp)

  root_is : value_of (srep (body p)) ROOT ≡ a.root
  unfolding value_among
  root_is = srep-at ROOT

  mint-is : mint_in (body p) ≡ mint_of a.cert
  mint-is = ap (λ (s : List ℕ). le 8 (value_of s MINT) 0) dele-is

  maxt-is : maxt_in (body p) ≡ maxt_of a.cert
  maxt-is = ap (λ (s : List ℕ). le 8 (value_of s MAXT) 0) dele-is

  -- ---- none of the codes 1 to 8 is given

  root-good : message_code (body p) root_table ≡ passed
  unfolding among value_among le_bytes
  root-good =
      let rows : AllHeld (response_fields a) root_table = (
        record { there = refl; right = t.signature },
        (
          record { there = refl; right = sizes.nonce-long },
          (
            record { there = refl; right = refl },
            (
              record { there = refl; right = leads-siblings _ a.indx a.path a.root g.leads },
              (
                record { there = refl; right = record {} },
                (
                  record { there = refl; right = record {} },
                  (record { there = refl; right = refl }, record {}),
                ),
              ),
            ),
          ),
        ),
      ) in
      rw body_is (all-passes (response_fields a) kept root_table rows)

  srep-good : message_code (srep (body p)) srep_table ≡ passed
  unfolding among value_among le_bytes srep_bytes
  srep-good =
      let more : 0 < le 4 (le_bytes 4 a.radi) 0 = rw (le-written 4 a.radi t.radi) g.radius in
      let rows : AllHeld (srep_fields a.root a.midp a.radi) srep_table = (
        record { there = refl; right = refl },
        (
          record { there = refl; right = record { four = refl; more = more } },
          (
            record { there = refl; right = refl },
            (
              record { there = refl; right = versions-good },
              (record { there = refl; right = t.root }, record {}),
            ),
          ),
        ),
      ) in
      rw srep-is (all-passes _ (srep-kept a.root a.midp a.radi t.root) srep_table rows)

  cert-good : message_code (cert (body p)) cert_table ≡ passed
  cert-good = rw cert-is (code-passed a.cert cert_table g.certified)

  dele-good : message_code (dele (body p)) dele_table ≡ passed
  dele-good = rw dele-is (code-passed (dele_of a.cert) dele_table g.delegated)

  shape-good : shape_code (body p) ≡ passed
  unfolding shape_code
  shape-good =
      sym
      (says-0 refusals _ _ refl (none-quiet refusals root-good)
      (says-0 refusals _ _ refl (none-quiet refusals srep-good)
      (says-0 refusals _ _ refl (none-quiet refusals cert-good)
      (is_last refusals (sym (ap (shifted _) dele-good))))))

  version-listed : version_unlisted (body p) ≡ false
  unfolding version_unlisted
  version-listed = rw (vers-is, ver-is) ((version-test _ 1).1 version-held)

  message-good : response_message_code (body p) ≡ passed
  unfolding response_message_code
  message-good =
      sym
      (says-0 refusals _ _ refl (none-quiet refusals shape-good)
      (equal refusals (type_in (body p)) 1 _ _ type-is
      (equal refusals (ver_in (body p)) 1 _ _ ver-is
      (test-false refusals _ _ refl version-listed (is-empty refusals refl)))))

  response-good : response_code p ≡ passed
  unfolding response_code
  response-good =
      fields-pass (λ m. shifted body_start (response_message_code m)) p (response_fields a) packet
      (ap (shifted body_start) (rw body_is at message-good))

  signed-good : signed_code p ≡ passed
  unfolding signed_code
  signed-good =
      fields-pass (λ m. shifted body_start (shape_code m)) p (response_fields a) packet
      (ap (shifted body_start) (rw body_is at shape-good))

  -- ---- nor any of 14 and 8 to 13

  version-asked : version_unasked (body q) (body p) ≡ false
  unfolding version_unasked request_code request_message_code
  version-asked =
      let m = (row-quiet refusals _ _ (row-quiet refusals _ _ (lent-good q refl g.request)).1).0 in
      let v = (row-quiet refusals _ _ (row-quiet refusals _ _ m).1).1 in
      rw ver-is (test-quiet refusals _ _ tt (row-quiet refusals _ _ v).0)

  version-highest : version_downgraded (body q) (body p) ≡ false
  unfolding version_downgraded
  version-highest = rw (vers-is, ver-is) (one-highest (value_of (body q) VER))

  nonce-same : nonce_differs (body q) (body p) ≡ false
  unfolding nonce_differs
  nonce-same = rw nonce-is (ap not (same_refl (nonce_of a)))

  path-leads : path_misses q (body p) ≡ false
  unfolding path_misses
  path-leads = rw (indx-is, path-is, root_is) (ap not g.leads)

  time-inside : time_outside (body p) ≡ false
  unfolding time_outside
  time-inside =
      any-not _ (le-ltb (midp_in (body p)) (mint_in (body p)) (omega (arith, midp-is, mint-is, g.from)))
      (any-not _ (le-ltb (maxt_in (body p)) (midp_in (body p)) (omega (arith, midp-is, maxt-is, g.to))) any_none)

  agrees : agreement_code q (body q) (body p) true true ≡ passed
  unfolding agreement_code answers_code when_of first_of
  agrees = rw (version-asked, version-highest, nonce-same, path-leads, time-inside)

  check-passes : check_code q p true true ≡ passed
  unfolding check_code
  check-passes =
      sym
      (test-false refusals _ _ refl g.request
      (says-0 refusals _ _ refl (none-quiet refusals response-good) (is_last refusals (sym agrees))))

  -- ---- so

  -- it passes against its request when both answers are yes, and the window is that of these MIDP and RADI with the
  -- CERT's MINT and MAXT;
  pub reply-passes : verdict_of q p true true ≡ Ok (window_of a.midp a.radi (mint_of a.cert) (maxt_of a.cert))
  unfolding verdict_of window_in
  reply-passes =
      valid-by (check_code q p true true) _ (none-quiet refusals check-passes)
      ∙ rw (midp-is, radi-is, mint-is, maxt-is)

  -- beside it stands the CERT's key;
  pub reply-key : key_of q p true true ≡ value_of (dele_of a.cert) PUBK
  unfolding key_of
  reply-key =
      key-by (check_code q p true true) _ (none-quiet refusals check-passes)
      ∙ ap (λ (s : List ℕ). value_of s PUBK) dele-is

  -- reading it gives the request's NONC and these INDX, MIDP, RADI and ROOT;
  pub reply-reads : response_of p
      ≡ Ok (record {
        nonc = nonce_of a;
        indx = a.indx;
        midp = a.midp;
        radi = a.radi;
        root = a.root;
      })
  unfolding response_of answer response_in
  reply-reads =
      rw (eq-eqb (response_code p).code 0 (none-quiet refusals response-good), nonce-is, indx-is, midp-is, radi-is, root_is)

  -- what a client verifies is this signature and, of the CERT, its signature and its key,
  pub reply-parts : parts_of p
      ≡ Ok (record {
        signature = a.signature;
        delegation = value_of a.cert SIG;
        pubk = value_of (dele_of a.cert) PUBK;
      })
  unfolding parts_of answer parts_in
  reply-parts =
      rw (eq-eqb (signed_code p).code 0 (none-quiet refusals signed-good), signature-is, cert-is)

  -- over the texts that were signed: SREP as `write_srep` writes it, and the CERT's DELE;
  pub reply-texts : (response_text p ≡ response_context ++ srep-value)
      × (delegation_text p ≡ delegation_context ++ dele_of a.cert)
  reply-texts =
      (ap (λ (s : List ℕ). response_context ++ s) srep-is, ap (λ (s : List ℕ). delegation_context ++ s) dele-is)

  -- it has 264 bytes, the path and CERT, and is never longer than the request
  pub reply-long : (length p ≡ 264 + length a.path + length a.cert) × (length p ≤ length q)
  reply-long = (length-response a sizes, g.short)
