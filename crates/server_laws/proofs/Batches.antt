-- A batch, end to end: for any 1 to 1,024 good requests, with `rows`, `path_from` and one `write_srep`, no request and
-- no path is refused, and each response that is written for its own place passes for its own request and carries that
-- one SREP.
use Rattle.refusal.specs.declared.Refusal.{Refusal}
use Rattle.std.specs.Prelude.{Ok, Result}
use mathlib.Core.Bool.{true, false, not}
use mathlib.Core.List.{List, [], ◌∷◌}
use mathlib.Core.Path.{◌≡◌, refl, sym, ap, ◌∙◌}
use Prim.Native.Nat.{ℕ, ◌*◌, ◌/◌, ◌%◌, ◌<◌}
use native.Mathlib.Omega.{arith}
use borrow.Author.Tests.{eq-eqb, le-leb}
use lib.ListN.{length, take}
use mathlib.Core.List.{append-nil}
use Rattle.tree_build.specs.Leaves.{most, count_of, held_of}
use Rattle.tree_build.specs.Building.{path_answer, from_bytes}
use Rattle.tree_build.proofs.BuildingLaws.{PathThere, path-there}
use Rattle.tree_build.proofs.Leaves.{held-is}
use Rattle.tree_build.proofs.Served.{last-long, served-leads}
use Rattle.hash.specs.Hashes.{leaf_of}
use Rattle.hash.proofs.Lengths.{length-leaf}
use Rattle.laws.specs.First.{first_of, when_of}
use Rattle.laws.specs.Upto.{upto}
use Rattle.laws.specs.Written.{written}
use Rattle.laws.proofs.Upto.{upto-length, upto-at}
use Rattle.refusal.specs.Refusal.{first, when}
use Rattle.server_response.specs.Refusing.{cert_code, reply_misses, midp_outside, reply_longer, reply_code}
use Rattle.server_response.specs.Response.{Reply, response_bytes}
use Rattle.server_parts.specs.Signed.{srep_bytes, radius_code}
use Rattle.tree.specs.PathCheck.{leads_of}
use Rattle.tree.specs.Tree.{node_in}
use Rattle.tree.proofs.Nodes.{whole-upto, flat-length, flat-at}
use Rattle.wire_packet.specs.Request.{request_bad}
use Rattle.wire_request.proofs.Answered.{Writes, done-front}
use Rattle.server_laws.specs.Answerable.{Typed}
use Rattle.server_laws.specs.Round.{Round, Turn, Laid, Placed, Serves, leaves_of, root_in, turn_reply}
use Rattle.server_laws.proofs.Exactly.{front-granted}
use Rattle.server_laws.proofs.Passing.{srep-is, reply-passes, reply-key}

module _ (r : Round) (ok : Laid r) where
  abbrev leaf : ℕ → List ℕ
  leaf k = leaf_of (r.requests k)

  -- the bytes of the leaves are so many leaves,
  leaves-size : length (leaves_of r) ≡ 32 * r.count
  leaves-size =
      flat-length (upto leaf r.count) (whole-upto leaf r.count (λ k h. length-leaf _))
      ∙ ap (λ (n : ℕ). 32 * n) (upto-length leaf r.count)

  count-is : count_of (length (leaves_of r)) ≡ r.count
  unfolding count_of
  count-is =
      let n : length (leaves_of r) / 32 ≡ r.count = omega (arith, leaves-size) in
      let z : length (leaves_of r) % 32 ≡ 0 = omega (arith, leaves-size) in
      simp (n, eq-eqb _ 0 z, le-leb r.count most ok.few)

  -- and the leaf at each place is that of its request
  leaf-is : (k : ℕ) → k < r.count → node_in (leaves_of r) k ≡ leaf k
  leaf-is k h =
      ap (λ (s : List ℕ). node_in s k) (sym (append-nil (leaves_of r)))
      ∙ flat-at (upto leaf r.count) [] (whole-upto leaf r.count (λ k h. length-leaf _)) k (rw upto-length h)
      ∙ upto-at leaf r.count k [] h

  module _ (t : Turn) (given : Placed r t) where
    abbrev a : Reply
    a = turn_reply r t

    laid-there : PathThere (held_of (length r.rows) r.count) t.place (length t.buffer) t.indx t.siblings
    laid-there = path-there _ t.place (length t.buffer) t.indx t.siblings given.answered

    pub there : t.place < r.count
    there = rw (held-is (length r.rows) r.count refl laid-there.there) at laid-there.there

    request-good : request_bad a.request ≡ false
    unfolding request_bad
    request-good = ap not (eq-eqb _ 0 (ok.good t.place there))

    -- the path leads from the leaf of its own request to the last node of the rows,
    pub path-leads : leads_of (leaf_of a.request) a.indx a.path a.root ≡ true
    path-leads =
        let right =
        given.answered
        ∙ ap (λ (n : ℕ). path_answer (held_of (length r.rows) n) t.place (length t.buffer)) (sym count-is) in
        let left =
        given.left
        ∙ ap (λ (n : ℕ). written 0 (from_bytes r.rows n t.place) t.buffer) (sym count-is) in
        rw (leaf-is t.place there) at
        (served-leads (leaves_of r) r.buffer r.rows r.depth ok.answered ok.left t.place t.buffer
        t.path t.indx t.siblings right left)

    pub typed : Typed a
    typed =
        record {
          indx = omega (arith, laid-there.indx-is, there, ok.few);
          root = last-long (leaves_of r) r.buffer r.rows r.depth ok.answered ok.left;
          midp = ok.midp;
          radi = ok.radi;
          signature = ok.signature;
        }

    misses-not : reply_misses a.request a.indx a.path a.root ≡ false
    unfolding reply_misses
    misses-not = ap not path-leads

    -- so that neither 14 nor 10 is ever given: what is left are RADI 0, CERT, the time and the length
    pub batch-codes : reply_code a
        ≡ first
        (radius_code r.radi
        ∷ cert_code r.cert
        ∷ when (midp_outside r.midp r.cert) 11
        ∷ when (reply_longer a) 23
        ∷ [])
    unfolding reply_code first_of when_of
    batch-codes = rw (request-good, misses-not)

    -- and the response that is written for a place serves its request, with the SREP that `write_srep` wrote once
    pub batch-serves : {x y : Result ℕ Refusal} {d e : List ℕ} (room out : List ℕ) (k n : ℕ)
        → Writes (radius_code r.radi) (srep_bytes (root_in r) r.midp r.radi) room x d → x ≡ Ok k
        → Writes (reply_code a) (response_bytes a) out y e → y ≡ Ok n
        → Serves r t (take k d) (take n e)
    batch-serves room out k n s s-done w w-done =
        let f = front-granted a out n w w-done in
        let signed = done-front (radius_code r.radi) (srep_bytes (root_in r) r.midp r.radi) room k s s-done in
        rw (f.1, signed)
        (record {
          passes = reply-passes a typed f.0;
          key = reply-key a typed f.0;
          carries = srep-is a typed f.0;
        })
