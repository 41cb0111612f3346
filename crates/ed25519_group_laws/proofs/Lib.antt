-- Modulo and Division are equations modulo p and what divides there; NoSquare that d is no square, Denominators that
-- section 3's law so divides by nothing that is 0, Closed that its sums are on the curve, Sums the same of the
-- definitions. Fractions and Associative: sums of three points in either order are the same; Group and Times: the
-- points are a group, and what holds of multiples there. Standing, Adding and Doubling: what RFC 8032's formulas give
-- stands for such sums; Multiples, Equality and Decoded: so do multiples, equality is that of points, and what is
-- decoded stands for itself; Opposites: so do opposites. TimesL, PrimeOrder, Dividing and Order: [L]B is neutral, L is prime,
-- and so the order of the base point.
pub mod Modulo
pub mod Division
pub mod Curve
pub mod NoSquare
pub mod Denominators
pub mod Closed
pub mod Sums
pub mod Fractions
pub mod Associative
pub mod Group
pub mod Times
pub mod Standing
pub mod Adding
pub mod Doubling
pub mod Multiples
pub mod Equality
pub mod Decoded
pub mod Opposites
pub mod TimesL
pub mod PrimeOrder
pub mod Dividing
pub mod Order
