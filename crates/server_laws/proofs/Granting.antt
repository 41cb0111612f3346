-- What each check of a response says where it refuses nothing, and that nothing is refused where all of it holds.
use mathlib.Core.Bool.{true, false, not}
use mathlib.Core.Logic.{◌↔◌}
use mathlib.Core.Path.{◌≡◌, refl, sym, ap}
use Prim.Native.Nat.{◌≤◌, ◌<◌}
use native.Mathlib.Omega.{arith}
use borrow.Author.Tests.{eqb-false, ne_eqb, le-ltb, ltb-false, not-false}
use lib.Dec.{eqb}
use lib.ListN.{length}
use Rattle.hash.specs.Hashes.{leaf_of}
use Rattle.laws.proofs.Any.{any-not, any_none, any-parts}
use Rattle.laws.proofs.First.{says-0, test-false, is_last, is-empty, none-quiet, row-quiet, test-quiet}
use Rattle.wire_message.specs.Rules.{message_code}
use Rattle.wire_message.proofs.Codes.{code-passed}
use Rattle.refusal.specs.Refusal.{passed, shifted, refusals}
use Rattle.server_response.specs.Refusing.{dele_of, mint_of, maxt_of, cert_code, reply_misses, midp_outside, reply_longer, reply_code}
use Rattle.server_response.specs.Response.{Reply, response_bytes}
use Rattle.tree.specs.PathCheck.{leads_of}
use Rattle.wire_packet.specs.Request.{request_bad}
use Rattle.wire_packet.specs.Tables.{cert_table, dele_table}

pub record Granted (a : Reply) : Type 0 where
  pub request : request_bad a.request ≡ false
  pub radius : 0 < a.radi
  pub certified : (message_code a.cert cert_table).code ≡ 0
  pub delegated : (message_code (dele_of a.cert) dele_table).code ≡ 0
  pub leads : leads_of (leaf_of a.request) a.indx a.path a.root ≡ true
  pub from : mint_of a.cert ≤ a.midp
  pub to : a.midp ≤ maxt_of a.cert
  pub short : length (response_bytes a) ≤ length a.request

module _ (a : Reply) where
  grants : (reply_code a).code ≡ 0 → Granted a
  unfolding reply_code cert_code reply_misses midp_outside reply_longer
  grants z =
      let c14 = row-quiet refusals _ _ z in
      let c7 = row-quiet refusals _ _ c14.1 in
      let cert = row-quiet refusals _ _ c7.1 in
      let c10 = row-quiet refusals _ _ cert.1 in
      let c11 = row-quiet refusals _ _ c10.1 in
      let c23 = row-quiet refusals _ _ c11.1 in
      let outer = row-quiet refusals _ _ cert.0 in
      let times = any-parts _ _ (test-quiet refusals _ _ tt c11.0) in
      let some = eqb-false a.radi 0 (test-quiet refusals _ _ tt c7.0) in
      record {
        request = test-quiet refusals _ _ tt c14.0;
        radius = omega (arith, some);
        certified = outer.0;
        delegated = (row-quiet refusals _ _ outer.1).0;
        leads = not-false _ (test-quiet refusals _ _ tt c10.0);
        from = ltb-false _ _ times.0;
        to = ltb-false _ _ (any-parts _ _ times.1).0;
        short = ltb-false _ _ (test-quiet refusals _ _ tt c23.0);
      }

  module _ (g : Granted a) where
    some-radius : eqb a.radi 0 ≡ false
    some-radius = ne_eqb a.radi 0 (λ (z : a.radi ≡ 0). omega (arith, g.radius))

    cert-good : (cert_code a.cert).code ≡ 0
    unfolding cert_code
    cert-good =
        none-quiet refusals
        (sym
        (says-0 refusals _ _ refl g.certified
        (is_last refusals (sym (ap (shifted _) (code-passed (dele_of a.cert) dele_table g.delegated))))))

    no-miss : reply_misses a.request a.indx a.path a.root ≡ false
    unfolding reply_misses
    no-miss = ap not g.leads

    inside : midp_outside a.midp a.cert ≡ false
    unfolding midp_outside
    inside =
        any-not _ (le-ltb a.midp (mint_of a.cert) g.from)
        (any-not _ (le-ltb (maxt_of a.cert) a.midp g.to) any_none)

    no_longer : reply_longer a ≡ false
    unfolding reply_longer
    no_longer = le-ltb (length a.request) (length (response_bytes a)) g.short

    nothing : reply_code a ≡ passed
    unfolding reply_code
    nothing =
        sym
        (test-false refusals _ _ refl g.request
        (test-false refusals _ _ refl some-radius
        (says-0 refusals _ _ refl cert-good
        (test-false refusals _ _ refl no-miss
        (test-false refusals _ _ refl inside (test-false refusals _ _ refl no_longer (is-empty refusals refl)))))))

  -- none of the codes before 19 is given exactly where all of it holds
  pub granted-exactly : (reply_code a).code ≡ 0 ↔ Granted a
  granted-exactly = (grants, λ g. none-quiet refusals (nothing g))
