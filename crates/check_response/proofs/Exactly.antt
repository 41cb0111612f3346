-- A response passes exactly when document 01's sentence holds of it, and its window and its key are then its own: the
-- row of checks and the sentence are one. The way from the code to the sentence asks that the two packets are bytes.
use Rattle.std.specs.Prelude.{Err, Ok}
use Prim.Native.Nat.{ℕ}
use mathlib.Core.Path.{◌≡◌, refl, sym, ap}
use mathlib.Core.Bool.{Bool, false, not}
use mathlib.Core.List.{List}
use mathlib.Core.Logic.{◌↔◌}
use borrow.Author.Tests.{eq-eqb, le-ltb, ltb-false, not-false}
use Rattle.refusal.specs.Refusal.{passed, refusals}
use Rattle.refusal.specs.declared.Refusal.{Refusal}
use Rattle.laws.specs.Bytes.{Bytes}
use Rattle.laws.proofs.Any.{any-not, any_none, any-parts}
use Rattle.laws.proofs.First.{says-0, is_last, test-false, is-empty, none-quiet, row-quiet, test-quiet}
use Rattle.laws.proofs.Same.{same_refl, same_true}
use Rattle.wire_message.specs.Tags.{NONC}
use Rattle.wire_message.specs.Values.{value_of}
use Rattle.tree.proofs.Exactly.{leads-exactly}
use Rattle.wire_packet.specs.Blank.{zeros32}
use Rattle.wire_packet.specs.Packet.{body}
use Rattle.wire_packet.specs.Request.{request_bad, request_code}
use Rattle.wire_packet.specs.Response.{midp_in, mint_in, maxt_in}
use Rattle.wire_packet.proofs.GoodRequest.{good-request, request-good}
use Rattle.wire_packet.proofs.GoodResponse.{good-response, response-good}
use Rattle.wire_packet.proofs.RequestCodes.{lent-good}
use Rattle.wire_packet.proofs.Versions.{version-test}
use Rattle.check_response.specs.Check.{version_unasked, version_downgraded, nonce_differs, path_misses, time_outside}
use Rattle.check_response.specs.Check.{answers_code, agreement_code, check_code, window_in, pubk_in, verdict_of, key_of}
use Rattle.check_response.specs.Passes.{Passes}
use Rattle.check_response.specs.declared.Window.{Window}
use Rattle.check_response.proofs.Downgrade.{no-downgrade}
use Rattle.check_response.proofs.Lent.{by-valid, valid-by, by-refused, key-by, no_key}

module _ (q p : List ℕ) (d s : Bool) where
  -- where the code is 0, each check passed, and its fact holds
  sound : Bytes q → Bytes p → (check_code q p d s).code ≡ 0 → Passes q p d s
  unfolding check_code agreement_code answers_code version_unasked version_downgraded nonce_differs path_misses time_outside
  sound q-bytes p-bytes z =
      let c14 = row-quiet refusals _ _ z in
      let c1 = row-quiet refusals _ _ c14.1 in
      let c8 = row-quiet refusals _ _ (row-quiet refusals _ _ c1.1).0 in
      let high = row-quiet refusals _ _ c8.1 in
      let c9 = row-quiet refusals _ _ high.1 in
      let c10 = row-quiet refusals _ _ c9.1 in
      let c11 = row-quiet refusals _ _ c10.1 in
      let c12 = row-quiet refusals _ _ (row-quiet refusals _ _ c11.1).0 in
      let c13 = row-quiet refusals _ _ c12.1 in
      let times = any-parts _ _ (test-quiet refusals _ _ tt c11.0) in
      record {
        request = request-good q q-bytes (lent-good q refl (test-quiet refusals _ _ tt c14.0));
        shape = response-good p p-bytes c1.0;
        nonce = same_true _ _ (not-false _ (test-quiet refusals _ _ tt c9.0));
        version = (version-test _ _).0 (test-quiet refusals _ _ tt c8.0);
        highest = (no-downgrade _ _ _).0 (test-quiet refusals _ _ tt high.0);
        path = (leads-exactly _ _ _ _).0 (not-false _ (test-quiet refusals _ _ tt c10.0));
        from = ltb-false _ _ times.0;
        to = ltb-false _ _ (any-parts _ _ times.1).0;
        delegation = not-false _ (test-quiet refusals _ _ tt c12.0);
        signature = not-false _ (test-quiet refusals _ _ tt c13.0);
      }

  module _ (ok : Passes q p d s) where
    request-lent : false ≡ request_bad q
    unfolding request_bad
    request-lent = sym (ap not (eq-eqb (request_code q).code 0 (good-request q ok.request)))

    nonce-same : false ≡ nonce_differs (body q) (body p)
    unfolding nonce_differs
    nonce-same = rw (ok.nonce, same_refl (value_of (body p) NONC))

    path-leads : false ≡ path_misses q (body p)
    unfolding path_misses
    path-leads = sym (ap not ((leads-exactly _ _ _ _).1 ok.path))

    time-inside : false ≡ time_outside (body p)
    unfolding time_outside
    time-inside =
        sym
        (any-not _ (le-ltb (midp_in (body p)) (mint_in (body p)) ok.from)
        (any-not _ (le-ltb (maxt_in (body p)) (midp_in (body p)) ok.to) any_none))

    version-asked : false ≡ version_unasked (body q) (body p)
    unfolding version_unasked
    version-asked = sym ((version-test _ _).1 ok.version)

    version-highest : false ≡ version_downgraded (body q) (body p)
    unfolding version_downgraded
    version-highest = sym ((no-downgrade _ _ _).1 ok.highest)

    answers-yes : answers_code d s ≡ passed
    unfolding answers_code
    answers-yes =
        sym
        (test-false refusals _ _ (sym (ap not ok.delegation)) refl
        (test-false refusals _ _ (sym (ap not ok.signature)) refl (is-empty refusals refl)))

    agrees : agreement_code q (body q) (body p) d s ≡ passed
    unfolding agreement_code
    agrees =
        sym
        (test-false refusals _ _ version-asked refl
        (test-false refusals _ _ version-highest refl
        (test-false refusals _ _ nonce-same refl
        (test-false refusals _ _ path-leads refl
        (test-false refusals _ _ time-inside refl (is_last refusals (sym answers-yes)))))))

    -- and where every fact holds, the code is 0; this asks nothing of the packets
    pub passes-code : (check_code q p d s).code ≡ 0
    unfolding check_code
    passes-code =
        none-quiet refusals
        (sym
        (test-false refusals _ _ request-lent refl
        (says-0 refusals _ _ refl (good-response p ok.shape) (is_last refusals (sym agrees)))))

  -- the code is 0 exactly when the sentence holds,
  pub code-exactly : Bytes q → Bytes p → (check_code q p d s).code ≡ 0 ↔ Passes q p d s
  code-exactly q-bytes p-bytes = (sound q-bytes p-bytes, passes-code)

  -- so a response passes exactly when it does,
  pub passes-exactly : Bytes q → Bytes p → verdict_of q p d s ≡ Ok (window_in (body p)) ↔ Passes q p d s
  unfolding verdict_of
  passes-exactly q-bytes p-bytes = (
    λ e. sound q-bytes p-bytes (by-valid (check_code q p d s) _ _ e).0,
    λ ok. valid-by (check_code q p d s) _ (passes-code ok),
  )

  -- and no other window comes out than its own: MIDP and RADI of its SREP, MINT and MAXT of its DELE;
  pub window-own : (w : Window) → verdict_of q p d s ≡ Ok w → w ≡ window_in (body p)
  unfolding verdict_of
  window-own w e = (by-valid (check_code q p d s) _ w e).1

  -- beside a window stands the PUBK of its own DELE,
  pub key-own : (w : Window) → verdict_of q p d s ≡ Ok w → key_of q p d s ≡ pubk_in (body p)
  unfolding verdict_of key_of
  key-own w e = key-by (check_code q p d s) _ (by-valid (check_code q p d s) _ w e).0

  -- and beside a refusal 32 zero bytes
  pub key-hidden : (why : Refusal) → verdict_of q p d s ≡ Err why → key_of q p d s ≡ zeros32
  unfolding verdict_of key_of
  key-hidden why e = no_key (check_code q p d s) _ (by-refused (check_code q p d s) _ why e)
