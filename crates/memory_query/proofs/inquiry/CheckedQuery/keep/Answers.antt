-- What is kept is in the part of memory that is lent, and the rest is as it was.
use Rattle.cache.specs.CachePlaces.{keep_in}
use Rattle.memory_query.proofs.Within.{cache_written}
use Rattle.memory_query.proofs.inquiry.CheckedQuery.keep.Goals as goal

pub returns : goal.returns
returns c =
    let q = c.args.self.now in
    cache_written (keep_in q.query q.versions.now c.args.kept) q.at c.args.memory.now c.keep.new.places c.keep.ensures
