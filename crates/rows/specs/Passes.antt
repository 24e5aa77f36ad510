-- One pass over two parts.
use Rattle.std.specs.Prelude.{List, map}
use Rattle.rows.specs.declared.Row.{Row}
use Rattle.rows.specs.declared.SharedRows.{SharedRows}
use Rattle.rows.specs.Halving.{pair_row}
use Rattle.rows.specs.Numbers.{intersection}

-- the rows that are still to come
abbrev pub shared_rows : SharedRows → List Row
shared_rows pass = intersection (map pair_row pass.rows.now) (map pair_row pass.others.now)
