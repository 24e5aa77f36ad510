-- The first write, and what it did not take.
use Rattle.std.proofs.Common.{◌≡◌, refl, sym, ◌∙◌, subst}
use Rattle.output.specs.Output.{OutputState, Writes}
use Rattle.output.proofs.Chains.{first_then}
use Rattle.output.proofs.Output.write_bytes.Goals.{in_default-via-in-Ok+else-count-bytes, in_default-via-in_default}
use Rattle.output.proofs.Output.write_bytes.Goals as goal

pub returns-in_default : goal.returns-in_default
returns-in_default g c =
    let result = c.write_rest.result in
    let same : c.in_default.first ≡ c.write-first.result = elim c.in_default.branch [ in_default-via-in-Ok+else-count-bytes w ↦ w.first-is ∙ sym w.in-Ok.is | in_default-via-in_default w ↦ w.first-is ] in
    subst (λ (a : OutputState). Writes a c.write_rest.new.self result c.args.bytes.now) c.self.view_is
    (first_then c.write-first.result result _ _ c.write_rest.new.self c.args.bytes.now c.write-first.ensures.bytes refl c.if-self.false (rw same at c.write_rest.ensures))
