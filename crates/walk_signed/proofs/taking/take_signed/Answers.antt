-- `walk_signed::taking::take_signed` meets its contract: the laws of the walk's taker, of what our own Ed25519 answers.
use Rattle.std.specs.Prelude.{Err, Ok}
use Prim.Native.Nat.{ℕ}
use mathlib.Core.Path.{◌≡◌, refl, sym, ap, ap₂, subst, ◌∙◌}
use mathlib.Core.Bool.{true}
use mathlib.Core.List.{List}
use lib.ListN.{length, drop}
use Rattle.refusal.specs.declared.Refusal.{Refusal}
use Rattle.check_response.specs.Check.{verdict_of, checked_of, window_in}
use Rattle.check_response.specs.declared.Checked.{Checked}
use Rattle.check_response.specs.declared.Window.{Window}
use Rattle.check_signatures.specs.SignatureAnswers.{delegated, responded}
use Rattle.walk.specs.State.{request_now, key_of}
use Rattle.walk.specs.Taking.{step_code, take_code}
use Rattle.walk.specs.declared.Heard.{Heard}
use Rattle.walk.specs.declared.Walk.{Walk}
use Rattle.walk.proofs.Accepting.{step-goes}
use Rattle.walk.proofs.Answering.{refused-before, refused-by-check, passed-check}
use Rattle.walk.proofs.Taken.{untaken}
use Rattle.walk_signed.specs.Heard.{own_heard}
use Rattle.walk_signed.proofs.Last.{heard_with, step-whatever, took-as}
use Rattle.walk_signed.proofs.Verified.{heard-both}
use Rattle.refusal.proofs.Passing.{goes-on, error-is, error-refuses}
use borrow.Author.Rules.{rules}
use Rattle.walk_signed.proofs.taking.take_signed.Goals as goal

module _ (w : Walk) (sent received : ℕ) (rand x : List ℕ) (room : ℕ) {c : Refusal}
    (e : c ≡ step_code w (heard_with sent received rand true true) room) where
  -- what is heard where our own Ed25519 answers
  abbrev heard : Heard
  heard = own_heard w sent received rand x

  -- what refuses the response before it is looked at, with these answers too
  before : c ≡ step_code w heard room
  before = e ∙ step-whatever w sent received rand room heard.delegation heard.signature

  module _ {q key : List ℕ} {r : Checked} (f : q ≡ request_now w) (g : key ≡ key_of w)
      (s : r ≡ checked_of q x (delegated key x) (responded x)) where
    -- what the check that verifies says of the response to the request that was asked
    told : r.verdict ≡ verdict_of (request_now w) x heard.delegation heard.signature
    told =
        ap (λ (r : Checked). r.verdict) s
        ∙ ap₂ (λ (q key : List ℕ). verdict_of q x (delegated key x) (responded x)) f g

    module _ (z : c.code ≡ 0) where
      refused-told : {why : Refusal} → r.verdict ≡ Err why
          → (why ≡ take_code w heard x room) × (why.code ≡ 0 → ⊥)
      refused-told v = refused-by-check _ _ _ _ before z told v

      module _ {window : Window} (v : r.verdict ≡ Ok window) where
        passed-told : ((take_code w heard x room).code ≡ 0) × (window ≡ window_in (drop 12 x))
        passed-told = passed-check _ _ _ _ before z told v

        -- nothing refuses the response with these answers, and so both of them are yes
        both : heard_with sent received rand true true ≡ heard
        both = heard-both w sent received rand x room passed-told.0

pub returns-in_err-step_code : goal.returns-in_err-step_code
returns-in_err-step_code c =
    let w = c.args.w in
    let e = c.args.e in
    let x = c.args.response.now in
    let pile = c.args.pile.now in
    let why = c.in_err-step_code.field-0.0 in
    let said : c.step_code.result ≡ Err why = search rules in
    let handed : c.from_residual.result ≡ Err why = search rules in
    let n = error-refuses _ c.step_code.ensures said in
    let is = before w e.sent e.received e.rand x (length pile) (error-is _ c.step_code.ensures said) in
    let t = untaken w (own_heard w e.sent e.received e.rand x) x pile handed (refused-before _ _ _ _ is n) n in
    record { said_value = t.0; takes = t.1.0; walk_value = t.1.1.0; pile_after = t.1.1.1 }

pub request_now-q-requires : goal.request_now-q-requires
request_now-q-requires c = step-goes _ _ _ refl (goes-on _ c.step_code.ensures (search rules))

pub key_of-key-requires : goal.key_of-key-requires
key_of-key-requires c = step-goes _ _ _ refl (goes-on _ c.step_code.ensures (search rules))

pub returns-in_err-window : goal.returns-in_err-window
returns-in_err-window c =
    let w = c.args.w in
    let e = c.args.e in
    let x = c.args.response.now in
    let pile = c.args.pile.now in
    let why = c.in_err-window.field-0.0 in
    let said : c.check_signed-checked.result.verdict ≡ Err why = search rules in
    let handed : c.from_residual-in_err-window.result ≡ Err why = search rules in
    let z = goes-on _ c.step_code.ensures (search rules) in
    let check = c.check_signed-checked.ensures.value in
    let no =
    refused-told w e.sent e.received e.rand x (length pile) refl c.request_now-q.ensures c.key_of-key.ensures check z said in
    let t = untaken w (own_heard w e.sent e.received e.rand x) x pile handed no.0 no.1 in
    record { said_value = t.0; takes = t.1.0; walk_value = t.1.1.0; pile_after = t.1.1.1 }

pub accept-requires : goal.accept-requires
accept-requires c =
    let w = c.args.w in
    let e = c.args.e in
    let x = c.args.response.now in
    let room = length c.args.pile.now in
    let q = c.request_now-q.ensures in
    let key = c.key_of-key.ensures in
    let s = c.check_signed-checked.ensures.value in
    let z = goes-on _ c.step_code.ensures (search rules) in
    let said : c.check_signed-checked.result.verdict ≡ Ok c.in_ok-window.window = search rules in
    let yes = passed-told w e.sent e.received e.rand x room refl q key s z said in
    let b = both w e.sent e.received e.rand x room refl q key s z said in
    (subst (λ (h : Heard). (take_code w h x room).code ≡ 0) (sym b) yes.0, q, yes.1)

pub returns : goal.returns
returns c =
    let w = c.args.w in
    let e = c.args.e in
    let x = c.args.response.now in
    let pile = c.args.pile.now in
    let passing = c.check_signed-checked.ensures.value in
    let z = goes-on _ c.step_code.ensures (search rules) in
    let given : c.check_signed-checked.result.verdict ≡ Ok c.in_ok-window.window = search rules in
    let b =
    both w e.sent e.received e.rand x (length pile) refl c.request_now-q.ensures c.key_of-key.ensures passing z given in
    let m = c.accept.ensures in
    let t =
    took-as w (own_heard w e.sent e.received e.rand x) x pile (Ok c.accept.result.said) c.accept.result.walk b
    (m.said_value, (m.takes, (m.walk_value, m.pile_after))) in
    record { said_value = t.0; takes = t.1.0; walk_value = t.1.1.0; pile_after = t.1.1.1 }
