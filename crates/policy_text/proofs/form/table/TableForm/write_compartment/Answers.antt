-- A single row is one row.
use Rattle.std.proofs.lemmas.Bool.{ne_eqb}
use Rattle.policy_text.proofs.form.table.TableForm.write_compartment.Goals as goal

pub returns-then-capacity-eq1 : goal.returns-then-capacity-eq1
returns-then-capacity-eq1 g c = rw c.if-capacity-eq1.true c.write.ensures

pub returns-else-capacity-eq1 : goal.returns-else-capacity-eq1
returns-else-capacity-eq1 g c = rw (ne_eqb c.args.capacity 1 c.if-capacity-eq1.false) c.write-else-capacity-eq1.ensures
