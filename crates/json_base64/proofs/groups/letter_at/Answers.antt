use Rattle.json_strings.proofs.Content.{content-code, content-close, content-ill, content-falls}
use Rattle.json_base64.proofs.groups.letter_at.Goals as goal

pub returns-in-Code : goal.returns-in-Code
returns-in-Code c =
    record {
      text = content-code c.args.s.now
          c.args.k c.unit_of.ensures
          c.in-Code.is;
      on =
          content-falls c.args.s.now
          c.args.k c.unit_of.ensures
          c.in-Code.is;
    }

pub returns-in-Close : goal.returns-in-Close
returns-in-Close c =
    content-close c.args.s.now c.args.k
    c.unit_of.ensures c.in-Close.is

pub returns-in-Ill : goal.returns-in-Ill
returns-in-Ill c =
    content-ill c.args.s.now c.args.k
    c.unit_of.ensures c.in-Ill.is
