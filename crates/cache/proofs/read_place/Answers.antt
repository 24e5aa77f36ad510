-- A place that starts with the key has it.
use Rattle.std.proofs.Common.{take, ◌∙◌}
use Rattle.cache.proofs.Numbers.{same_if_equal}
use Rattle.cache.proofs.read_place.Goals as goal

pub returns-then-not-starts_with : goal.returns-then-not-starts_with
returns-then-not-starts_with c =
    rw (same_if_equal c.args.key.now (take 21 c.args.place.now) _ (rw c.told-key at c.starts_with.ensures.value) ∙ c.if-not-starts_with.true)
