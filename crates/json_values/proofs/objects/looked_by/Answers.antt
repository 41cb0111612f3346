use Rattle.json_values.proofs.Finds.{noted-not, unnamed-long}
use Rattle.json_values.proofs.objects.looked_by.Goals as goal

pub returns-then-w-n : goal.returns-then-w-n
returns-then-w-n c =
    noted-not _ _ _ (unnamed-long _ _ _ c.requires c.if-w-n.true)

pub returns : goal.returns
returns c = c.looked.ensures
