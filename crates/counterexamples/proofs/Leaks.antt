-- The traces compute.
use Rattle.std.proofs.Common.{◌≡◌, zero, suc, List, [], ◌∷◌, refl, ap, arith}
use Rattle.rows.specs.declared.Row.{Row}
use Rattle.policy.specs.Rules.{Rules, Sound}
use Rattle.base.specs.declared.refusal.Refusal.TheVariants.{NoRoom}
use Rattle.model.specs.Example.{three}
use Rattle.counterexamples.specs.Store.{Store}
use Rattle.counterexamples.specs.Cases.{apart, together, row, calls}
use Rattle.counterexamples.specs.LeakingStores as stores
use Rattle.counterexamples.specs.LeakingStores.{Leak, Leaks, responses_whole, responses_purged, full_state, copy_call}

apart_sound : Sound apart
apart_sound zero h = refl
apart_sound (suc zero) h = refl
apart_sound (suc (suc n)) h = absurd (omega arith)

together_sound : Sound together
together_sound user h = refl

-- if what is told differs, noninterference fails
leaks : {S : Type 0} {store : Rules → Store S} {leak : Leak} → Sound leak.policy →
    responses_whole store leak ≡ leak.whole → responses_purged store leak ≡ leak.purged → (leak.purged ≡ leak.whole → ⊥) → Leaks store leak
leaks {S} {store} {leak} sound e f d =
    let differ : responses_purged store leak ≡ responses_whole store leak → ⊥ = λ h. d cc in
    record { sound = sound; whole = e; purged = f; differ = differ; fails = λ n. differ (n leak.policy leak.user (calls leak.requests) sound) }

pub row_numbers : stores.RowNumbersLeak
row_numbers = leaks apart_sound refl refl (λ e. cc)

pub one_cache : stores.OneCacheLeaks
one_cache = leaks together_sound refl refl (λ e. cc)

pub one_capacity : stores.OneCapacityLeaks
one_capacity = leaks apart_sound refl refl (λ e. cc)

pub allowed_if_empty : stores.AllowedIfEmptyLeaks
allowed_if_empty = leaks apart_sound refl refl (λ e. cc)

pub looking_first : stores.LookingFirstLeaks
looking_first = leaks apart_sound refl refl (λ e. cc)

pub all_examined : stores.AllExaminedLeaks
all_examined = leaks apart_sound refl refl (λ e. cc)

pub one_of_each_key : stores.OneOfEachKeyLeaks
one_of_each_key = leaks apart_sound refl refl (λ e. cc)

pub some_idle_count : stores.SomeIdleCountLeaks
some_idle_count = leaks apart_sound refl refl (λ e. cc)

pub half_a_copy : stores.HalfACopyIsPut
half_a_copy = record {
  told = refl;
  before = refl;
  after = refl;
  fails = λ h.
      let e : ◌≡◌ {A = List Row} (row 5 ∷ row 6 ∷ []) [] = ap (λ s. s.rows 2) (h three full_state copy_call (NoRoom 2) refl) in cc;
}
