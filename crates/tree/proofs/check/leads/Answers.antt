-- `tree::check::leads` meets its contract. Each test is a part of the definition.
use borrow.Author.Tests.{eq-eqb, ne_eqb, le-leb, lt-leb, lt-ltb, le-ltb}
use Rattle.tree.proofs.Width.{bits_fit, bits-over}
use Rattle.tree.specs.PathCheck.{leads_of}
use Rattle.tree.proofs.check.leads.Goals as goal

pub returns-then-path-ne0 : goal.returns-then-path-ne0
unfolding leads_of
returns-then-path-ne0 c = simp (ne_eqb _ _ c.if-path-ne0.true)

pub returns-then-n-gt32 : goal.returns-then-n-gt32
unfolding leads_of
returns-then-n-gt32 c =
    simp (eq-eqb _ _ c.if-path-ne0.false, lt-leb _ _ c.if-n-gt32.true)

pub returns-then-n-bit_length : goal.returns-then-n-bit_length
unfolding leads_of
returns-then-n-bit_length c =
    simp (
      eq-eqb _ _ c.if-path-ne0.false,
      le-leb _ _ c.if-n-gt32.false,
      le-ltb _ _ (bits-over _ c.bit_length.ensures c.if-n-bit_length.true),
    )

pub returns : goal.returns
unfolding leads_of
returns c =
    simp (
      eq-eqb _ _ c.if-path-ne0.false,
      le-leb _ _ c.if-n-gt32.false,
      lt-ltb _ _ (bits_fit _ c.bit_length.ensures c.if-n-bit_length.false),
    )
    (rw c.reach-h.ensures at c.equal.ensures)
