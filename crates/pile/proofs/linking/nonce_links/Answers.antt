-- `pile::linking::nonce_links` meets its contract.
use Rattle.pile.specs.Links.{nonce_links}
use borrow.Author.Rules.{rules}
use Rattle.pile.proofs.linking.nonce_links.Goals as goal

pub body_of-m-requires : goal.body_of-m-requires
body_of-m-requires c = rw c.request.ensures (search rules)

pub value_of-requires : goal.value_of-requires
value_of-requires c =
    rw (c.body_of-m.ensures, c.request.ensures) (search rules)

pub returns : goal.returns
unfolding nonce_links
returns c =
    rw (
      c.value_of.ensures,
      c.body_of-m.ensures,
      c.request.ensures,
      c.link-made.ensures,
      c.copy32.ensures,
      c.response.ensures,
    )
    at c.equal.ensures
