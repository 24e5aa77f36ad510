-- The move and the two writes.
use Rattle.std.proofs.Common.{arith}
use Rattle.cache.proofs.Numbers.{first_put}
use Rattle.cache.proofs.put_first.Goals as goal

pub returns : goal.returns
returns c =
    rw (c.copy_from_slice-2.ensures.after, c.from.ensures, c.copy_from_slice.ensures.after, c.copy_within.ensures.after)
    (first_put c.args.places.now c.args.key.now c.args.kept _ c.requires c.told-key (omega arith))
