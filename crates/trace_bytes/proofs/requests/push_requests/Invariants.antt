-- What was written and what is still to be written are the whole.
use Rattle.std.proofs.Common.{◌≡◌, ◌++◌, drop, vec_items}
use Rattle.trace_bytes.specs.Written.{requests_bytes}
use Rattle.trace_bytes.proofs.requests.push_requests.Given as goal

abbrev pub invariant-loop-request : goal.invariant-loop-request
invariant-loop-request l =
    vec_items l.bytes ++ requests_bytes (drop l.request-index l.requests)
    ≡ vec_items l.initial.bytes ++ requests_bytes l.requests
