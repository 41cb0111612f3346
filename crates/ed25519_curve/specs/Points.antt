-- RFC 8032, section 5.1: the curve edwards25519 and its base point; 5.1.4: points and their addition; section 6:
-- multiples and equality.
use Rattle.std.specs.Prelude.{ℕ, zero, suc, ◌*◌, ◌/◌, ◌%◌, Bool, cond, ◌&&◌, eqb}
use Rattle.ed25519_field.specs.Field.{p, add_f, sub_f, mul_f}

-- 5.1, table 1: d of the curve's equation -x^2 + y^2 = 1 + d x^2 y^2, which is -121665/121666
unfoldable pub d : ℕ
d = 37095705934669439343138083508754565189542113879843219016388785533085940283555

-- 5.1.4: a point (x, y) in extended homogeneous coordinates, x = X/Z, y = Y/Z, x * y = T/Z
pub record Pt : Type 0 where
  pub X : ℕ
  pub Y : ℕ
  pub Z : ℕ
  pub T : ℕ

-- the point (x, y), with Z = 1
abbrev pub affine : ℕ → ℕ → Pt
affine x y = record { X = x; Y = y; Z = 1; T = mul_f x y }

-- 5.1, table 1: B
unfoldable pub base : Pt
base =
    affine 15112221349535400772501151409588531511454012693041857206046113283949847762202
    46316835694926478169428394003475163141307993866256225615783033603165251855960

-- 5.1.4: the neutral point (0, 1)
unfoldable pub neutral : Pt
neutral = record { X = 0; Y = 1; Z = 1; T = 0 }

-- X3 = E*F, Y3 = G*H, T3 = E*H, Z3 = F*G, which end both formulas
abbrev pub finish_of : ℕ → ℕ → ℕ → ℕ → Pt
finish_of E F G H = record { X = mul_f E F; Y = mul_f G H; Z = mul_f F G; T = mul_f E H }

-- 2*d
unfoldable pub two_d : ℕ
two_d = 2 * d % p

-- 5.1.4, addition: E = B-A, F = D-C, G = D+C, H = B+A
abbrev pub add_with : ℕ → ℕ → ℕ → ℕ → Pt
add_with A B C D = finish_of (sub_f B A) (sub_f D C) (add_f D C) (add_f B A)

-- A = (Y1-X1)*(Y2-X2), B = (Y1+X1)*(Y2+X2), C = T1*2*d*T2, D = Z1*2*Z2
unfoldable pub point_add : Pt → Pt → Pt
point_add P Q =
    add_with
    (mul_f (sub_f P.Y P.X) (sub_f Q.Y Q.X))
    (mul_f (add_f P.Y P.X) (add_f Q.Y Q.X))
    (mul_f (mul_f P.T two_d) Q.T)
    (mul_f (add_f P.Z P.Z) Q.Z)

-- 5.1.4, doubling: H = A+B, E = H-(X1+Y1)^2, G = A-B, F = C+G, where S is (X1+Y1)^2
abbrev pub double_with : ℕ → ℕ → ℕ → ℕ → Pt
double_with A B C S = finish_of (sub_f (add_f A B) S) (add_f C (sub_f A B)) (sub_f A B) (add_f A B)

-- A = X1^2, B = Y1^2, C = 2*Z1^2
unfoldable pub point_double : Pt → Pt
point_double P =
    double_with
    (mul_f P.X P.X)
    (mul_f P.Y P.Y)
    (add_f (mul_f P.Z P.Z) (mul_f P.Z P.Z))
    (mul_f (add_f P.X P.Y) (add_f P.X P.Y))

-- section 6, point_mul, for a scalar s of n bits: from the lowest bit on, P is added to Q where the bit is 1, and
-- doubled
unfoldable pub mul_from : ℕ → ℕ → Pt → Pt → Pt
mul_from zero s P Q = Q
mul_from (suc n) s P Q = mul_from n (s / 2) (point_double P) (cond (eqb (s % 2) 1) (point_add Q P) Q)

-- [s]P for a scalar below 2^256
abbrev pub point_mul : ℕ → Pt → Pt
point_mul s P = mul_from 256 s P neutral

-- section 6, point_equal: x1 / z1 = x2 / z2 and y1 / z1 = y2 / z2, with nothing divided
unfoldable pub point_equal : Pt → Pt → Bool
point_equal P Q =
    eqb (mul_f P.X Q.Z) (mul_f Q.X P.Z) && eqb (mul_f P.Y Q.Z) (mul_f Q.Y P.Z)
