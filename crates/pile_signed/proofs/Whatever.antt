-- A refusal of a record that is not 12 or 13 is told whatever the signatures are, with 16 before what is told of the
-- response.
use Rattle.check_response.specs.declared.Window.{Window}
use Rattle.std.specs.Prelude.{Result}
use Prim.Native.Nat.{ℕ}
use mathlib.Core.Path.{◌≡◌, refl, sym, ap, ap₂, ◌∙◌}
use mathlib.Core.Bool.{Bool, true, false}
use mathlib.Core.List.{List}
use Rattle.laws.proofs.First.{before-true, before-false}
use Rattle.refusal.specs.Refusal.{refusals}
use Rattle.refusal.specs.declared.Refusal.{Refusal}
use Rattle.pile.specs.Pile.{request_packet, response_packet}
use Rattle.pile.specs.Valid.{record_bad, record_code, record_verdict, record_checked}
use Rattle.check_response.specs.Check.{check_code, window_in, pubk_in, verdict_by, key_by}
use Rattle.wire_packet.specs.Packet.{body}
use Rattle.check_signatures.proofs.Passing.{code-whatever}

same-record : (r : List ℕ) (d s e t : Bool) → record_code r e t ≡ record_code r d s
    → record_checked r e t ≡ record_checked r d s
unfolding record_verdict
same-record r d s e t m =
    let p = response_packet r in
    ap₂ (λ (v : Result Window Refusal) (key : List ℕ). record { verdict = v; pubk = key })
    (ap (λ (w : Refusal). verdict_by w (window_in (body p))) m) (ap (λ (w : Refusal). key_by w (pubk_in (body p))) m)

pub record-whatever : (r : List ℕ) (d s e t : Bool) → ((record_code r d s).code ≡ 0 → ⊥)
    → ((record_code r d s).code ≡ 12 → ⊥) → ((record_code r d s).code ≡ 13 → ⊥)
    → record_checked r e t ≡ record_checked r d s
unfolding record_code
record-whatever r d s e t a b c = same-record r d s e t (by (record_bad r) refl)
  where
    by : (x : Bool) → record_bad r ≡ x → record_code r e t ≡ record_code r d s
    by true h = before-true refusals (record_bad r) _ _ tt h ∙ sym (before-true refusals (record_bad r) _ _ tt h)
    by false h =
        let q = request_packet r in
        let p = response_packet r in
        let f : record_code r d s ≡ check_code q p d s = before-false refusals (record_bad r) _ _ h in
        let g : record_code r e t ≡ check_code q p e t = before-false refusals (record_bad r) _ _ h in
        let n = ap (λ (w : Refusal). w.code) f in
        g ∙ code-whatever q p d s e t (λ z. a (n ∙ z)) (λ z. b (n ∙ z)) (λ z. c (n ∙ z)) ∙ sym f
