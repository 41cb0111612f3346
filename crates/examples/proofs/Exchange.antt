-- What is read of the request and the response that are made up: no check refuses before that of the path, which leads
-- to ROOT where there are no siblings, and the numbers are those that the response says.
use mathlib.Core.Path.{◌≡◌, sym, ap, ◌∙◌}
use mathlib.Core.Bool.{Bool, true, false, not}
use mathlib.Core.List.{List, []}
use Prim.Native.Nat.{ℕ, ◌+◌, ◌*◌, ◌≤◌}
use native.Mathlib.Omega.{arith}
use borrow.Author.Tests.{eq-eqb}
use lib.ListN.{length, length-replicate}
use Rattle.laws.specs.Upto.{upto}
use Rattle.laws.proofs.Numbers.{le-written}
use Rattle.laws.proofs.Same.{same_refl}
use Rattle.hash.specs.Hashes.{leaf_of}
use Rattle.wire_message.specs.Encode.{value_among}
use Rattle.wire_message.specs.Tags.{VER, NONC, DELE, PATH, RADI, MIDP, SREP, VERS, MINT, ROOT, CERT, MAXT, INDX}
use Rattle.wire_message.specs.Values.{value_of}
use Rattle.wire_message.proofs.Encoded.{value-encoded}
use Rattle.tree.specs.Tree.{nodes_in}
use Rattle.tree.specs.PathCheck.{climb, reached, leads_of}
use Rattle.wire_packet.specs.Packet.{body}
use Rattle.wire_packet.specs.Request.{request_bad, request_code}
use Rattle.wire_packet.specs.Response.{srep, cert, dele, indx_in, ver_in, vers_in, radi_in, midp_in, mint_in, maxt_in}
use Rattle.wire_packet.proofs.GoodRequest.{good-request}
use Rattle.wire_packet.proofs.GoodResponse.{good-response}
use Rattle.wire_packet.proofs.PacketFields.{fields_value}
use Rattle.wire_packet.proofs.Versions.{one-version, version-held, version-test}
use Rattle.check_response.specs.Check.{version_unasked, version_downgraded, nonce_differs, path_misses, answers_code, check_code}
use Rattle.check_response.specs.Check.{window_in}
use Rattle.check_response.specs.Window.{window_of}
use Rattle.check_response.proofs.Downgrade.{one-highest}
use Rattle.examples.specs.Claims.{Before10, Climbs, Late}
use Rattle.examples.proofs.Checking.{answers-left}
use Rattle.examples.proofs.MadeRequest.{request, ask-packet, ask-good}
use Rattle.examples.proofs.MadeResponse.{Answer, Sound, srep_fields, dele_fields, cert_fields, zero_path}
use Rattle.examples.proofs.MadeResponse.{answer_fields, response, srep-fields, dele-fields, cert-fields}
use Rattle.examples.proofs.MadeResponse.{answer-packet, answer-good}

-- with no siblings a leaf is its own root
alone : (leaf : List ℕ) → leads_of leaf 0 [] leaf ≡ true
unfolding leads_of reached climb nodes_in upto
alone leaf = same_refl leaf

-- the request has its nonce
pub request-nonce : (nonce : List ℕ) → length nonce ≡ 32 → value_of (body (request nonce)) NONC ≡ nonce
unfolding value_among
request-nonce nonce long = fields_value _ _ (ask-packet nonce long) NONC

module _ (a : Answer) (ok : Sound a) where
  abbrev q : List ℕ
  q = request a.nonce

  abbrev p : List ℕ
  p = response a

  -- the values of the response, and of its SREP, CERT and DELE
  value-is : (tag : ℕ) → value_of (body p) tag ≡ value_among tag (answer_fields a)
  value-is = fields_value p _ (answer-packet a ok)

  srep-is : (tag : ℕ) → value_of (srep (body p)) tag ≡ value_among tag (srep_fields a)
  unfolding value_among
  srep-is tag = rw (value-is SREP) (value-encoded (srep_fields a) (srep-fields a ok) tag)

  cert-is : (tag : ℕ) → value_of (cert (body p)) tag ≡ value_among tag (cert_fields a)
  unfolding value_among
  cert-is tag = rw (value-is CERT) (value-encoded (cert_fields a) (cert-fields a ok) tag)

  dele-is : (tag : ℕ) → value_of (dele (body p)) tag ≡ value_among tag (dele_fields a)
  unfolding value_among
  dele-is tag = rw (cert-is DELE) (value-encoded (dele_fields a) (dele-fields a ok) tag)

  -- what they are
  indx-is : indx_in (body p) ≡ a.indx
  unfolding value_among
  indx-is = rw (value-is INDX) (le-written 4 a.indx ok.indx-fits)

  radi-is : radi_in (body p) ≡ a.radi
  unfolding value_among
  radi-is = rw (srep-is RADI) (le-written 4 a.radi ok.radi-fits)

  midp-is : midp_in (body p) ≡ a.midp
  unfolding value_among
  midp-is = rw (srep-is MIDP) (le-written 8 a.midp ok.midp-fits)

  mint-is : mint_in (body p) ≡ 0
  unfolding value_among
  mint-is = rw (dele-is MINT) (le-written 8 0 (omega arith))

  maxt-is : maxt_in (body p) ≡ a.maxt
  unfolding value_among
  maxt-is = rw (dele-is MAXT) (le-written 8 a.maxt ok.maxt-fits)

  ver-is : ver_in (body p) ≡ 1
  unfolding value_among
  ver-is = rw (srep-is VER) (le-written 4 1 (omega arith))

  vers-is : vers_in (body p) ≡ one-version
  unfolding value_among
  vers-is = srep-is VERS

  path-is : value_of (body p) PATH ≡ zero_path a
  unfolding value_among
  path-is = value-is PATH

  nonce-is : value_of (body p) NONC ≡ a.nonce
  unfolding value_among
  nonce-is = value-is NONC

  root_is : value_of (srep (body p)) ROOT ≡ leaf_of q
  unfolding value_among
  root_is = srep-is ROOT

  -- none of 14 and 1 to 9 applies
  asked_is : value_of (body q) VER ≡ one-version
  unfolding value_among
  asked_is = fields_value q _ (ask-packet a.nonce ok.nonce-long) VER

  before-10 : Before10 q p
  unfolding request_bad version_unasked version_downgraded nonce_differs
  before-10 = record {
    request = ap not (eq-eqb (request_code q).code 0 (good-request q (ask-good a.nonce ok.nonce-long)));
    shape = good-response p (answer-good a ok);
    version = rw (ver-is, asked_is) ((version-test _ 1).1 version-held);
    highest = rw (ver-is, vers-is, asked_is) (one-highest one-version);
    nonce = rw (request-nonce a.nonce ok.nonce-long, nonce-is) (ap not (same_refl a.nonce));
  }

  -- so that example 10 speaks of it where INDX is too large,
  pub climbs : Climbs a.indx a.siblings q p
  climbs = record {
    before = before-10;
    names = indx-is;
    long = ap length path-is ∙ length-replicate (32 * a.siblings) 0;
  }

  -- 10 does not apply where there are no siblings and INDX is 0,
  leads : a.siblings ≡ 0 → a.indx ≡ 0 → path_misses q (body p) ≡ false
  unfolding path_misses
  leads none low = rw (indx-is, path-is, root_is, none, low) (ap not (alone (leaf_of q)))

  -- so that example 11 speaks of it where MIDP is not before MAXT,
  pub late : (k : ℕ) → a.siblings ≡ 0 → a.indx ≡ 0 → a.midp ≡ a.maxt + k → Late k q p
  late k none low above = record {
    before = before-10;
    leads = leads none low;
    from = omega (arith, mint-is);
    above = midp-is ∙ above ∙ ap (λ (n : ℕ). n + k) (sym maxt-is);
  }

  -- and where MIDP is not after MAXT, the signature answers are all that is left;
  pub checked : a.siblings ≡ 0 → a.indx ≡ 0 → a.midp ≤ a.maxt → (d s : Bool) → check_code q p d s ≡ answers_code d s
  checked none low h d s =
      answers-left q p before-10 (leads none low) (omega (arith, mint-is)) d s (omega (arith, midp-is, maxt-is))

  -- its window is what it says, with MINT 0
  pub window-is : window_in (body p) ≡ window_of a.midp a.radi 0 a.maxt
  unfolding window_in
  window-is = rw (midp-is, radi-is, mint-is, maxt-is)
