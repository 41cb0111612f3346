use Rattle.json_text.proofs.Letters.{letter-begun, letter-close, letter-ill}
use Rattle.json_text.proofs.characters.letter_at.Goals as goal

pub returns-in-Code : goal.returns-in-Code
returns-in-Code c =
    letter-begun _ _ c.unit_at.ensures c.begun.result
    c.in-Code.is c.begun.ensures

pub returns-in-Close : goal.returns-in-Close
returns-in-Close c = letter-close _ _ c.unit_at.ensures c.in-Close.is

pub returns-in-Ill : goal.returns-in-Ill
returns-in-Ill c =
    letter-ill _ _ c.unit_at.ensures c.in-Ill.is
