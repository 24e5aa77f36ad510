-- What is looked up in is the part of memory that is lent.
use Rattle.std.proofs.Common.{◌∙◌}
use Rattle.cache.specs.CachePlaces.{look_up}
use Rattle.memory_query.proofs.Within.{cache_read}
use Rattle.memory_query.proofs.inquiry.CheckedQuery.look_up.Goals as goal

pub returns : goal.returns
returns c =
    let q = c.args.self.now in
    c.look_up.ensures ∙ cache_read (look_up q.query q.versions.now) q.at c.args.memory.now
