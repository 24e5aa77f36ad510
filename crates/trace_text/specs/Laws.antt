-- What is written of a text is read again.
use Rattle.std.specs.Prelude.{◌≡◌, ℕ, List, [], ◌∷◌, drop, None, Ok}
use Rattle.policy.specs.Numbers.{policy_fault}
use Rattle.request.specs.declared.Request.{Request}
use Rattle.trace_bytes.specs.Bytes.{size}
use Rattle.trace_bytes.specs.NextRequest.{next_in}
use Rattle.trace_bytes.specs.PolicyNumbers.{policy_layout, policy_of}
use Rattle.trace_bytes.specs.Written.{trace_bytes}
use Rattle.trace_bytes.specs.declared.item.Next.{Next}
use Rattle.trace_text.specs.Said.{Content, trace_in}

-- the bytes are these requests, one after the other, and nothing else
abbrev pub HoldRequests : List ℕ → List Request → Type 0
HoldRequests bytes [] = bytes ≡ []
HoldRequests bytes (q ∷ qs) = (n : ℕ) × (next_in bytes ≡ Next.Request q n) × HoldRequests (drop n bytes) qs

-- the bytes are read as this trace: its policy's numbers, which are not refused, and behind them its requests
pub record ReadAs (bytes : List ℕ) (said : Content) : Type 0 where
  pub numbers : policy_of bytes ≡ said.numbers
  pub judged : policy_fault 64 said.numbers ≡ None
  pub requests : HoldRequests (drop (size (policy_layout bytes)) bytes) said.requests

abbrev pub ReadsBack : Type 0
ReadsBack =
    (text : List ℕ) (said : Content) → trace_in text ≡ Ok said → ReadAs (trace_bytes said.numbers said.requests) said
