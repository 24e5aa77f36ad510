-- What a query asks.
use Rattle.rows.specs.declared.KeyRange.{KeyRange}
use Rattle.query.specs.declared.Query.{Query}
use Rattle.query.specs.declared.Query.TheVariants.{Rows, Total, Shared}

-- the keys that it asks for
abbrev pub range_of : Query → KeyRange
range_of (Rows range) = range
range_of (Total range) = range
range_of (Shared a b range) = range
