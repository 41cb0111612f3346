use Rattle.json_base64.proofs.Lettered.{grouped-letters}
use Rattle.json_base64.proofs.decoding.put_three.Goals as goal

pub returns : goal.returns
returns c =
    record {
      x = _;
      y = _;
      z = _;
      group = grouped-letters c.requires.0 c.three_of-x.ensures;
      put = c.put.ensures;
    }
