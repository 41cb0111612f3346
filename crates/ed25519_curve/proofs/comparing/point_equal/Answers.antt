-- `ed25519_curve::comparing::point_equal` meets its contract.
use Rattle.std.proofs.Common.{eqb, ap₂, ◌∙◌}
use Rattle.ed25519_curve.specs.Coords.{pt_of, flat_of}
use Rattle.ed25519_curve.proofs.Equality.{equal-1, equal-2}
use Rattle.ed25519_curve.proofs.comparing.point_equal.Goals as goal

pub returns-then-same : goal.returns-then-same
returns-then-same c =
    λ t. equal-1 (flat_of c.args.a t) (pt_of c.args.b) _ _
    (c.same.ensures ∙ ap₂ eqb c.mul.ensures.is c.mul-2.ensures.is) c.if-same.true
    (c.same-then-same.ensures ∙ ap₂ eqb c.mul-then-same.ensures.is c.mul-then-same-2.ensures.is)

pub returns-else-same : goal.returns-else-same
returns-else-same c =
    λ t. c.if-same.false ∙ equal-2 (flat_of c.args.a t) (pt_of c.args.b) _
    (c.same.ensures ∙ ap₂ eqb c.mul.ensures.is c.mul-2.ensures.is) c.if-same.false
