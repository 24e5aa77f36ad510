-- Each turn writes one compartment more, with its capacity.
use Rattle.std.proofs.Common.{◌<◌, sym, arith}
use Rattle.std.proofs.Math.ListN.{get_or-map}
use Rattle.std.specs.List.{flat_map}
use Rattle.output.proofs.Chains.{passed_up}
use Rattle.policy.specs.Access.{compartments_of, rules_of, places_of}
use Rattle.policy.specs.declared.place.Place.{Place}
use Rattle.policy_text.specs.Shown.{compartment_of}
use Rattle.policy_text.proofs.Listing.{listed_more, listed_part, joined, single}
use Rattle.policy_text.proofs.There.{compartments_counted}
use Rattle.policy_text.proofs.compartments.write_compartments.Goals as goal

pub loop-compartment-preserved : goal.loop-compartment-preserved
loop-compartment-preserved g c =
    let p = c.args.policy.now in
    let text = compartment_of g.F.Form.shape (rules_of p) (compartments_of p) in
    let i = c.loop-compartment.compartment in
    listed_more (flat_map text) (joined text) i (single text i) c.loop-compartment.invariant
    (rw (c.places-place-items.ensures, sym (get_or-map (λ (q : Place). q.capacity) (places_of p) i (record { start = 0; capacity = 0 }))) at c.in_ok-write_compartment.ensures)

pub returns-in_err-write_compartment : goal.returns-in_err-write_compartment
returns-in_err-write_compartment g c =
    let p = c.args.policy.now in
    let text = compartment_of g.F.Form.shape (rules_of p) (compartments_of p) in
    let i = c.loop-compartment.compartment in
    let there : i < compartments_of p = grind (arith, compartments_counted) in
    passed_up c.from_residual.result _ _ _ c.from_residual.ensures.0
    (listed_part (flat_map text) (joined text) i (single text i) c.loop-compartment.invariant (compartments_of p) there
    (rw (c.places-place-items.ensures, sym (get_or-map (λ (q : Place). q.capacity) (places_of p) i (record { start = 0; capacity = 0 }))) at c.in_err-write_compartment.ensures))
