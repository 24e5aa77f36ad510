-- Requests and policies as they are written into a trace, and that they are read again.
use Rattle.std.specs.Prelude.{◌≡◌, ℕ, ◌+◌, ◌*◌, ◌^◌, ◌<◌, ◌≤◌, List, ◌∷◌, ◌++◌, length, take, drop}
use Rattle.std.specs.List.{AllByRecursion, flat_map}
use Rattle.policy.specs.Numbers.{users_in, compartments_in, user_at}
use Rattle.request.specs.declared.Request.{Request}
use Rattle.request.specs.Fields.{fields}
use Rattle.request.specs.Format.{kind_of, numbers_of, WithinBounds}
use Rattle.trace_bytes.specs.declared.item.Next.{Next}
use Rattle.trace_bytes.specs.Bytes.{bytes_each, bytes_by, size}
use Rattle.trace_bytes.specs.NextRequest.{next_in, request_layout}
use Rattle.trace_bytes.specs.PolicyNumbers.{policy_layout, policy_of, policy_bytes}

abbrev pub request_bytes : Request → List ℕ
request_bytes q = bytes_by (request_layout (fields (kind_of q))) (numbers_of q)

abbrev pub requests_bytes : List Request → List ℕ
requests_bytes qs = flat_map request_bytes qs

-- the bytes of a trace: the numbers of its policy, then its requests
abbrev pub trace_bytes : List ℕ → List Request → List ℕ
trace_bytes ns qs = policy_bytes ns ++ requests_bytes qs

-- a request that is written is the next one, whatever follows it
abbrev pub RequestRoundTrip : Type 0
RequestRoundTrip =
    (q : Request) (rest : List ℕ) → WithinBounds q →
    next_in (request_bytes q ++ rest) ≡ Next.Request q (length (request_bytes q))

abbrev pub AllLess : ℕ → List ℕ → Type 0
AllLess bound ns = AllByRecursion (λ n. n < bound) ns

-- and what is read from bytes is the request that is written there
abbrev pub RequestStands : Type 0
RequestStands =
    (bytes : List ℕ) (q : Request) (n : ℕ) → AllLess 256 bytes → next_in bytes ≡ Next.Request q n →
    WithinBounds q × (n ≡ length (request_bytes q)) × (bytes ≡ request_bytes q ++ drop n bytes)

-- numbers as many as their counts announce, each within the bytes that it has
pub record InPlaces (ns : List ℕ) : Type 0 where
  pub users : users_in ns ≤ 32
  pub compartments : compartments_in ns ≤ 16
  pub long : length ns ≡ user_at (users_in ns) + compartments_in ns
  pub single : AllLess 256 (take (user_at (users_in ns)) ns)
  pub wide : AllLess (2 ^ 16) (drop (user_at (users_in ns)) ns)

-- a policy in bytes: the counts, the numbers of all users, and the capacities in two bytes each
abbrev pub bytes_with : ℕ → ℕ → List ℕ → List ℕ → List ℕ
bytes_with users compartments views capacities = users ∷ compartments ∷ (views ++ bytes_each 2 capacities)

-- its numbers are read as they stand there, and behind its bytes the requests begin
abbrev pub PolicyReads : Type 0
PolicyReads =
    (users compartments : ℕ) (views capacities rest : List ℕ) → users ≤ 32 → compartments ≤ 16 →
    length views ≡ 18 * users → length capacities ≡ compartments → AllLess (2 ^ 16) capacities →
    (policy_of (bytes_with users compartments views capacities ++ rest)
    ≡ users ∷ compartments ∷ (views ++ capacities))
    × (size (policy_layout (bytes_with users compartments views capacities ++ rest))
    ≡ length (bytes_with users compartments views capacities))

-- the numbers of a policy that is written are read again, and behind its bytes the requests begin
abbrev pub PolicyRoundTrip : Type 0
PolicyRoundTrip =
    (ns rest : List ℕ) → InPlaces ns →
    (policy_of (policy_bytes ns ++ rest) ≡ ns)
    × (size (policy_layout (policy_bytes ns ++ rest)) ≡ length (policy_bytes ns))
