-- Who makes a request, and whether it asks.
use Rattle.std.specs.Prelude.{ℕ, Bool, true, false}
use Rattle.request.specs.declared.Request.{Request}
use Rattle.request.specs.declared.Request.TheVariants.{Write, Delete, Copy, Query as Ask}

-- who makes the request
abbrev pub who : Request → ℕ
who (Write user row) = user
who (Delete user key) = user
who (Copy user compartment range) = user
who (Ask user query) = user

-- is it a query?
abbrev pub asks : Request → Bool
asks (Ask user query) = true
asks _ = false
