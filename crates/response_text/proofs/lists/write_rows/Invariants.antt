-- What is written and the rows that are left to write are the whole.
use Rattle.std.proofs.Common.{◌++◌, map, drop, codes}
use Rattle.std.specs.List.{flat_map}
use Rattle.rows.specs.declared.Row.{Row}
use Rattle.response_text.specs.Lines.{row_bytes}
use Rattle.response_text.proofs.Separated.{Going}
use Rattle.response_text.proofs.lists.write_rows.Given as goal
use Rattle.rows.specs.Halving.{pair_row}

abbrev pub invariant-loop-row : goal.invariant-loop-row
invariant-loop-row g l = Going row_bytes l.initial.out l.out (codes " ") (map pair_row (drop l.row-index l.rows)) (flat_map (λ (row : Row). codes " " ++ row_bytes row) (map pair_row l.rows))
