use Rattle.std.proofs.Common.{◌+◌, ◌*◌}
use Rattle.json_values.proofs.values.+array_item_member_object_value.Given as goal

abbrev pub decreases-array-list : goal.decreases-array-list
decreases-array-list l = 4 * l.inner + 4

abbrev pub decreases-object-list : goal.decreases-object-list
decreases-object-list l = 4 * l.inner + 4

abbrev pub decreases-array : goal.decreases-array
decreases-array l = 4 * l.depth + 1

abbrev pub decreases-item : goal.decreases-item
decreases-item l = 4 * l.depth + 3

abbrev pub decreases-member : goal.decreases-member
decreases-member l = 4 * l.depth + 3

abbrev pub decreases-object : goal.decreases-object
decreases-object l = 4 * l.depth + 1

abbrev pub decreases-value : goal.decreases-value
decreases-value l = 4 * l.depth + 2
