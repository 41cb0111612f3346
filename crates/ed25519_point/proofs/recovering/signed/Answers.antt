-- `ed25519_point::recovering::signed` meets its contract.
use Rattle.std.proofs.Common.{◌≡◌, ◌%◌, eqb, sym, ap, ◌∙◌, arith}
use borrow.Author.Tests.{eqb-true, eqb-false}
use Rattle.ed25519_field.specs.Limbs.{num}
use Rattle.ed25519_field.proofs.Reducing.{num-lt}
use Rattle.ed25519_point.proofs.Ways.{signed-none, signed-same, signed-other}
use Rattle.ed25519_point.proofs.recovering.signed.Goals.{else-same-via-then-same+else-sign-eq1, else-same-via-else-same}
use Rattle.ed25519_point.proofs.recovering.signed.Goals as goal

pub returns-then-sign-eq1 : goal.returns-then-sign-eq1
returns-then-sign-eq1 c =
    let e : c.same.result ≡ eqb (num c.args.x) 0 = c.same.ensures ∙ ap (eqb _) c.zero.ensures.0 in
    (signed-none _ _ (eqb-true _ _ (sym e ∙ c.if-same.true)) c.if-sign-eq1.true, tt)

pub returns-then-odd-sign : goal.returns-then-odd-sign
returns-then-odd-sign c =
    (signed-same _ _ (sym c.odd.ensures ∙ c.if-odd-sign.true), c.requires.1)

pub returns : goal.returns
returns c =
    let x = num c.args.x in
    let e : c.same.result ≡ eqb x 0 = c.same.ensures ∙ ap (eqb _) c.zero.ensures.0 in
    let other : x % 2 ≡ c.args.sign → ⊥ = λ q. c.if-odd-sign.false (c.odd.ensures ∙ q) in
    let there : x ≡ 0 → ⊥ = λ z. elim c.else-same.branch [
      | else-same-via-then-same+else-sign-eq1 w ↦ omega (arith, w.if-sign-eq1.false, c.odd.ensures, c.requires.0)
      | else-same-via-else-same w ↦ eqb-false x 0 (sym e ∙ w.if-same.false) z
    ] in
    (signed-other _ x _ (num-lt c.args.x) there other c.minus-m.ensures.0, c.minus-m.ensures.1)
