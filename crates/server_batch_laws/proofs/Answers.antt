-- Each answer of a batch is what `write_response` writes for its packet, passes the check that verifies signatures by
-- itself, and is not longer than its request.
use Rattle.check_response.specs.declared.Window.{Window}
use Rattle.refusal.specs.declared.Refusal.{Refusal}
use Rattle.std.specs.Prelude.{Result}
use mathlib.Core.Bool.{true, false}
use mathlib.Core.List.{List, [], ◌++◌, append-nil}
use mathlib.Core.Path.{◌≡◌, refl, sym, ap, ap₂, subst, ◌∙◌}
use Prim.Native.Nat.{ℕ, ◌+◌, ◌*◌, ◌≤◌, ◌<◌}
use native.Mathlib.Omega.{arith}
use lib.ListN.{length, drop}
use lib.Seq.{take_at}
use Rattle.check_response.specs.Check.{check_code, window_in, verdict_of}
use Rattle.check_response.proofs.Lent.{by-valid}
use Rattle.check_signatures.specs.SignatureAnswers.{delegated, responded}
use Rattle.check_signatures.proofs.Verdicts.{checked-texts, delegated-as, responded-as}
use Rattle.ed25519.specs.Verification.{verifies}
use Rattle.ed25519_sign_laws.proofs.Parts.{parts-long, signed_parts}
use Rattle.ed25519_sign_laws.proofs.Verifying.{signed-verifies}
use Rattle.hash.specs.Hashes.{leaf_of}
use Rattle.hash.proofs.Lengths.{length-leaf}
use Rattle.laws.specs.Flat.{flat}
use Rattle.server_batch.specs.Answering.{signature_over}
use Rattle.server_batch.specs.Batch.{count, answers, place_of, leaves, answer_at}
use Rattle.server_batch.proofs.Fits.{longest-within, longest-enough}
use Rattle.server_batch.proofs.Left.{picked-length, picked-whole}
use Rattle.server_batch.proofs.Picked.{many-most, many_below}
use Rattle.server_laws.specs.Answerable.{Typed}
use Rattle.server_laws.proofs.Granting.{Granted, granted-exactly}
use Rattle.server_laws.proofs.Passing.{cert-is, dele-is, signature-is, reply-passes, reply-key, reply-texts}
use Rattle.server_parts.specs.Signed.{srep_bytes}
use Rattle.server_parts.proofs.Pieces.{length-srep}
use Rattle.server_response.specs.Refusing.{dele_of, reply_code}
use Rattle.server_response.specs.Response.{Reply, response_bytes}
use Rattle.server_response.proofs.Pieces.{length-response}
use Rattle.server_response.proofs.Replied.{sized}
use Rattle.tree.specs.PathCheck.{leads_of}
use Rattle.tree.specs.Tree.{node_in, nodes_in, depth_of, root_of, path_of}
use Rattle.tree.proofs.Nodes.{Whole, flat-length, flat-at, nodes-flat, leaves-long, tree-long}
use Rattle.tree_build.specs.Leaves.{most}
use Rattle.tree_build.proofs.Built.{built-leads, path_bytes_lem}
use Rattle.wire_message.specs.Tags.{SIG}
use Rattle.wire_message.specs.Values.{value_of}
use Rattle.wire_packet.specs.Packet.{body}
use Rattle.wire_packet.specs.Request.{request_bad}
use Rattle.wire_packet.specs.Response.{signed_code}
use Rattle.wire_request.specs.Texts.{delegation_context, response_context}
use Rattle.wire_request.proofs.Answered.{done-exactly}
use Rattle.server_batch_laws.specs.Call.{Call, Taken, packet, least_of, answered, answer, reply_to}
use Rattle.server_batch_laws.specs.Claims.{Writes, Passes}
use Rattle.server_batch_laws.proofs.Picking.{picked-at}
use Rattle.server_batch_laws.proofs.Taken.{Lent, Kept, lent, kept, there, packet-long, meant-good}

-- node k leads to the root of the tree over n nodes, by the siblings there; these have their 32 bytes each, and so has
-- the root
record Led (node : List ℕ) (xs : List (List ℕ)) (n k : ℕ) : Type 0 where
  leads : leads_of node k (flat (path_of xs (depth_of n) k)) (root_of xs (depth_of n)) ≡ true
  path-long : length (flat (path_of xs (depth_of n) k)) ≡ 32 * depth_of n
  root-long : length (root_of xs (depth_of n)) ≡ 32

led : (xs : List (List ℕ)) (n k : ℕ) → Whole xs → length xs ≡ n → n ≤ most → k < n → Led (node_in (flat xs) k) xs n k
led xs n k w long few there =
    let s = flat xs in
    let whole : 32 * n ≤ length s = omega (arith, flat-length xs w) in
    let back : nodes_in n s ≡ xs = ap (λ (m : ℕ). nodes_in m s) (sym long) ∙ nodes-flat xs w in
    let of-bytes : Led (node_in s k) (nodes_in n s) n k =
    record {
      leads = built-leads s n k whole few there;
      path-long = path_bytes_lem s n k whole few there;
      root-long = tree-long (nodes_in n s) (leaves-long n s whole) (depth_of n) 0;
    } in
    subst (λ (ys : List (List ℕ)). Led (node_in s k) ys n k) back of-bytes

module _ (c : Call) (t : Taken c) (i : ℕ) (holds : answered c i ≡ true) where
  abbrev a : Reply
  a = reply_to c i

  abbrev leaf : ℕ → List ℕ
  leaf k = leaf_of (packet c k)

  abbrev xs : List (List ℕ)
  xs = leaves c.batch (least_of c)

  -- how many are answered, and how many before this one
  abbrev n : ℕ
  n = answers c.batch (least_of c)

  abbrev k : ℕ
  k = place_of c.batch (least_of c) i

  ok : Lent c
  ok = lent c t

  stays : Kept c i
  stays = kept c i holds

  -- ---- the tree

  few : n ≤ most
  few = omega (arith, many-most (answered c) (count c.batch), ok.few)

  below : k < n
  below = many_below (answered c) i holds (count c.batch) (there c i stays)

  whole : Whole xs
  whole = picked-whole (answered c) leaf (λ j. length-leaf (packet c j)) (count c.batch)

  many : length xs ≡ n
  many = picked-length (answered c) leaf (count c.batch)

  tree : Led (node_in (flat xs) k) xs n k
  tree = led xs n k whole many few below

  -- the leaf at its place is its own
  leaf-is : node_in (flat xs) k ≡ leaf i
  leaf-is =
      ap (λ (s : List ℕ). node_in s k) (sym (append-nil (flat xs)))
      ∙ flat-at xs [] whole k (omega (arith, many, below))
      ∙ picked-at (answered c) leaf i [] holds (count c.batch) (there c i stays)

  -- ---- the answer

  pub typed : Typed a
  unfolding signature_over
  typed =
      record {
        indx = omega (arith, below, few);
        root = tree.root-long;
        midp = t.midp;
        radi = t.radi;
        signature = parts-long c.seed response_context (srep_bytes a.root c.midp c.radi);
      }

  good : request_bad (packet c i) ≡ false
  good = meant-good c.batch.srv (packet c i) stays.meant

  long : length (response_bytes a) ≡ 264 + 32 * depth_of n + length c.cert
  long = length-response a (sized a typed.root typed.signature good) ∙ omega (arith, tree.path-long)

  short : length (response_bytes a) ≤ length (packet c i)
  short =
      let enough = longest-enough c.batch (length c.cert) ok.few in
      omega (arith, long, enough, stays.long, packet-long c ok i stays)

  pub granted : Granted a
  granted =
      record {
        request = good;
        radius = ok.radius;
        certified = ok.certified;
        delegated = ok.delegated;
        leads = rw leaf-is at tree.leads;
        from = ok.from;
        to = ok.to;
        short = short;
      }

  -- The answer to a packet is what `write_response` writes for it,
  pub answer-written : Writes a (answer c i)
  unfolding answer_at
  answer-written =
      let p = response_bytes a in
      let nothing = (granted-exactly a).1 granted in
      record {
        granted = nothing;
        done = λ out room. (done-exactly (reply_code a) p out (length p)).1 (nothing, (refl, room));
        front = λ out. take_at p (drop (length p) out) (length p) refl;
      }

  -- and so is no longer than the packet, nor than its slot.
  pub answer-short : length (answer c i) ≤ length (packet c i)
  unfolding answer_at
  answer-short = short

  pub answer-fits : length (answer c i) ≤ c.room
  unfolding answer_at
  answer-fits =
      let enough = longest-enough c.batch (length c.cert) ok.few in
      omega (arith, long, enough, longest-within c.batch (length c.cert), ok.room)

  -- ---- its signatures

  -- there are texts to be verified
  texts : (signed_code (response_bytes a)).code ≡ 0
  unfolding verdict_of
  texts =
      let p = response_bytes a in
      checked-texts (packet c i) p
      (by-valid (check_code (packet c i) p true true) (window_in (body p)) _ (reply-passes a typed granted)).0

  -- the seed of the delegated key signed SREP
  signature-verifies : responded (response_bytes a) ≡ true
  unfolding signature_over
  signature-verifies =
      let srep = srep_bytes a.root c.midp c.radi in
      let size = length-srep a.root c.midp c.radi typed.root in
      responded-as [] (response_bytes a) texts
      ∙ rw (
        dele-is a typed granted,
        ← ok.key,
        (reply-texts a typed granted).0,
        signature-is a typed granted,
        (signed_parts c.seed response_context srep (omega (arith, size))).whole,
      ) (signed-verifies c.seed (response_context ++ srep))

  -- Where CERT's signature verifies under a long-term key, the answer passes under it, for its own request.
  pub answer-passes : (key : List ℕ)
      → verifies key (delegation_context ++ dele_of c.cert) (value_of c.cert SIG) ≡ true
      → Passes key (packet c i) (answer c i) c.midp c.radi c.cert
  unfolding answer_at
  answer-passes key signed =
      let p = response_bytes a in
      let delegation : delegated key p ≡ true =
      delegated-as key p texts ∙ rw ((reply-texts a typed granted).1, cert-is a typed granted) signed in
      rw (delegation, signature-verifies)
      (ap₂ (λ (v : Result Window Refusal) (pubk : List ℕ). record { verdict = v; pubk = pubk }) (reply-passes a typed granted)
      (reply-key a typed granted))
