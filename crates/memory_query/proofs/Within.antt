-- A user's cache, lent as a part of memory.
use Rattle.std.proofs.Common.{◌≡◌, ℕ, ◌+◌, ◌-◌, List, take, drop, refl, arith}
use borrow.Rule.Slice.PartMut.{put_mid}
use Rattle.memory_query.specs.MemoryParts.{cache_part, with_cache}

-- a part that is lent has 192 numbers
long : (at : ℕ) → at + 192 - at ≡ 192
long at = omega arith

pub cache_read : {X : Type 0} (f : List ℕ → X) (at : ℕ) (memory : List ℕ) → f (take (at + 192 - at) (drop at memory)) ≡ f (cache_part at memory)
cache_read f at memory = rw (long at) refl

pub cache_written : (f : List ℕ → List ℕ) (at : ℕ) (memory cache : List ℕ) → cache ≡ f (take (at + 192 - at) (drop at memory))
    → put_mid at (at + 192 - at) memory cache ≡ with_cache at (f (cache_part at memory)) memory
cache_written f at memory cache e = rw (e, long at) refl
