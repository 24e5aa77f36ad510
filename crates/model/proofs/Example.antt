-- The worked example computes.
use Rattle.std.proofs.Common.{zero, suc, refl, arith}
use Rattle.policy.specs.Rules.{Sound}
use Rattle.model.specs.Example.{three, Worked, SoundnessNeeded}

three_sound : Sound three
three_sound zero h = refl
three_sound (suc zero) h = refl
three_sound (suc (suc zero)) h = refl
three_sound (suc (suc (suc n))) h = absurd (omega arith)

pub worked : Worked
worked = record { sound = three_sound; may_flow = refl; all_told = refl; after_copy = refl; purged = refl; told_whole = refl; told_purged = refl }

pub soundness_needed : SoundnessNeeded
soundness_needed = record { whole = refl; purged = refl; differ = λ e. cc }
