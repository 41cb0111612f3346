-- What is left of a buffer's room.
use Rattle.std.specs.Prelude.{ℕ, ◌-◌, ltb, None, Option, Some}
use Rattle.laws.specs.Pick.{pick}

-- once n bytes more are taken
unfoldable pub spent : Option ℕ → ℕ → Option ℕ
spent (Some left) n = pick (ltb left n) None (Some (left - n))
spent None n = None
