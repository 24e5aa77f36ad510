-- The theorem that the contract names.
use Rattle.promises.proofs.Effects.{changes_leave_row}
use Rattle.promises.proofs.laws.changes_leave_row_stands.Goals as goal

pub returns : goal.returns
returns c = changes_leave_row
