-- Where a user writes there is a compartment.
use Rattle.policy.proofs.Proved.{written_found}
use Rattle.policy.proofs.Policy.written.Goals as goal

pub place_in-place-requires : goal.place_in-place-requires
place_in-place-requires c =
    rw c.writes-compartment.ensures (written_found c.args.self.now c.args.user c.in_ok-contract.field-0.now c.in_ok-contract.ensures).2
