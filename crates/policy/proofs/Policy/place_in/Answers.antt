-- The place of a compartment that is there lies within the memory that the policy asks for.
use Rattle.std.proofs.Common.{◌≡◌, arith, slice_index_or}
use Rattle.std.proofs.lemmas.Grind.{common_steps}
use Rattle.policy.specs.Access.{place_in}
use Rattle.policy.proofs.Proved.{place_inside}
use Rattle.policy.proofs.Policy.place_in.Goals as goal

pub returns-clause-inside : goal.returns-clause-inside
returns-clause-inside c =
    let p = c.args.self.now in
    let i = c.args.compartment in
    let value : slice_index_or p.places i (record { start = 0; capacity = 0 }) ≡ place_in p i = grind (arith, common_steps) in
    rw value (place_inside p i c.requires)
