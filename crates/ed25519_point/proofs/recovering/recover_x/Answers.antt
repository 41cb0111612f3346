-- `ed25519_point::recovering::recover_x` meets its contract.
use Rattle.std.proofs.Common.{◌≡◌, ◌∙◌}
use Rattle.ed25519_field.specs.Limbs.{num}
use Rattle.ed25519_field.proofs.Raise.{up}
use Rattle.ed25519_point.specs.Decoding.{none, some, u_of, v_of, root_of, recover_x}
use Rattle.ed25519_point.proofs.Ways.{x-found, x-lost}
use Rattle.ed25519_point.proofs.recovering.recover_x.Goals as goal

pub tidy-u-requires : goal.tidy-u-requires
tidy-u-requires c = up tt (c.sub.ensures.grows 1 c.mul-q.ensures.limbs)

pub returns-in_err-x : goal.returns-in_err-x
unfolding recover_x
returns-in_err-x c =
    let y = num c.args.y in
    let base : none ≡ root_of (u_of y) (v_of y) =
    c.in_err-x.ensures.0 ∙ (rw (
      c.tidy-u.ensures.0,
      c.sub.ensures.is,
      c.tidy-v.ensures.0,
      c.add.ensures.is,
      c.mul.ensures.is,
      c.mul-q.ensures.is,
      c.one.ensures.0,
      c.one-2.ensures.0,
      c.curve_d.ensures.0,
    )) in
    rw c.from_residual.ensures (x-lost _ _ base, tt)

pub returns : goal.returns
unfolding recover_x
returns c =
    let y = num c.args.y in
    let base : some (num c.in_ok-x.x) ≡ root_of (u_of y) (v_of y) =
    c.in_ok-x.ensures.0 ∙ (rw (
      c.tidy-u.ensures.0,
      c.sub.ensures.is,
      c.tidy-v.ensures.0,
      c.add.ensures.is,
      c.mul.ensures.is,
      c.mul-q.ensures.is,
      c.one.ensures.0,
      c.one-2.ensures.0,
      c.curve_d.ensures.0,
    )) in
    (x-found _ _ _ _ base c.signed.ensures.0, c.signed.ensures.1)
