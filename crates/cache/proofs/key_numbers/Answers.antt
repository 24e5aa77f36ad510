-- Five numbers, then the versions over zeros.
use Rattle.std.proofs.Common.{◌∙◌, rules}
use Rattle.cache.proofs.Numbers.{key_made}
use Rattle.cache.proofs.key_numbers.Goals as goal

pub returns : goal.returns
returns c = key_made c.args.query c.args.versions.now _ _ _ (c.copy_from_slice.ensures.after ∙ c.query_numbers.ensures) c.copy_from_slice-2.ensures.after (search rules)
