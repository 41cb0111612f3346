-- `ed25519_point::points::decode` meets its contract.
use Rattle.std.proofs.Common.{◌≡◌, ◌∙◌, length, rules}
use Rattle.digits.proofs.Numbers.{le-bytes}
use Rattle.ed25519_point.proofs.Ways.{decode-below, decode-none, point-is}
use Rattle.ed25519_point.proofs.points.decode.Goals as goal

pub returns-then-not-below_p : goal.returns-then-not-below_p
returns-then-not-below_p c =
    let s = c.args.s.now in
    let long : length s ≡ 32 = search rules in
    (decode-none s _ _ (le-bytes 32 s long) c.masked-m.ensures _ c.below_p.ensures c.if-not-below_p.true, tt)

pub returns-in_err-x : goal.returns-in_err-x
returns-in_err-x c =
    let s = c.args.s.now in
    let long : length s ≡ 32 = search rules in
    let e = decode-below s _ _ (le-bytes 32 s long) c.masked-m.ensures _ _ _ _ c.below_p.ensures
    c.if-not-below_p.false c.from_bytes-y.ensures.0 c.bit.ensures c.in_err-x.ensures.0 in
    rw c.from_residual.ensures (e, tt)

pub returns : goal.returns
returns c =
    let s = c.args.s.now in
    let long : length s ≡ 32 = search rules in
    let y = c.from_bytes-y.ensures in
    let x = c.in_ok-x.ensures in
    let z = c.one-z.ensures in
    let t = c.mul-t.ensures in
    let e = decode-below s _ _ (le-bytes 32 s long) c.masked-m.ensures _ _ _ _ c.below_p.ensures
    c.if-not-below_p.false y.0 c.bit.ensures x.0 in
    (point-is _ _ _ _ z.0 t.is ∙ e, record { x = x.1; y = y.1; z = z.1; t = t.limbs })
