-- `ed25519_sign::expanding::secret_expand` meets its contract.
use borrow.Author.Rules.{rules}
use Rattle.ed25519_sign.proofs.Steps.{scalar-number, prefix-half}
use Rattle.ed25519_sign.proofs.expanding.secret_expand.Goals as goal

pub returns : goal.returns
returns c =
    let seed = c.args.seed in
    let h = c.sha512-h in
    record {
      scalar_is = scalar-number seed h.result h.ensures _ c.pruned-scalar.ensures.0 (search rules);
      long = search rules;
      low = c.pruned-scalar.ensures.1;
      prefix-is = prefix-half seed h.result h.ensures _ c.copy32-prefix.ensures;
      zero_is = c.still.ensures;
    }
