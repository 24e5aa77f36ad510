-- What a view holds.
use Rattle.std.proofs.Common.{◌≡◌, ℕ, ◌≤◌, true, eqb, List, ◌∷◌, length, refl, arith}
use Rattle.std.proofs.lemmas.List.{length-take-le}
use Rattle.std.proofs.lemmas.Bool.{eq-eqb, or_left, or_right}
use Rattle.policy.specs.Rules.{has}
use Rattle.policy.specs.Views.{view_of}
use Rattle.policy.specs.declared.contract.Contract.{Contract}

pub has_head : (c : ℕ) (cs : List ℕ) → has (c ∷ cs) c ≡ true
has_head c cs = or_left (eqb c c) (has cs c) (eq-eqb c c refl)

pub has_tail : (c d : ℕ) (cs : List ℕ) → has cs d ≡ true → has (c ∷ cs) d ≡ true
has_tail c d cs h = or_right (eqb c d) (has cs d) h

pub view_few : (c : Contract) → length (view_of c) ≤ 16
view_few c = omega (arith, c.few, length-take-le c.count c.view (omega (arith, c.few, c.long)))
