-- What refuses a registration first, test by test.
use Rattle.std.specs.Prelude.{◌≡◌, Bool, true, false, not, Option, Some, None, if◌then◌else◌}
use Rattle.std.proofs.Common.{refl, sym, ap}
use Rattle.std.specs.FinMap.{contains_key}
use Rattle.ns_types.specs.declared.job.Registration.{Registration}
use Rattle.ns_types.specs.declared.refusal.Member.TheVariants as Member
use Rattle.ns_types.specs.declared.refusal.Refusal.{Refusal}
use Rattle.ns_types.specs.Access.Sharing.{permits}
use Rattle.ns_types.specs.Asking.Asks.{first_refusal, has_no_room, is_outdated, pool_of}
use Rattle.ns_types.specs.State.Rows.{World, Tenant}
use Rattle.ns_types.proofs.Tests.{not_Some}

-- the first refusal, by what the four tests say
abbrev pub by_tests : (permitted there outdated full : Bool) → Option Refusal
by_tests permitted there outdated full =
    if not permitted then Some Refusal.PoolNotPermitted
    else if not there then Some (Refusal.BadField Member.NodePool)
    else if outdated then Some Refusal.Conflict
    else if full then Some Refusal.Full
    else None

module _ (w : World) (t : Tenant) (r : Registration) where
  -- a registration that nothing refuses
  pub record IsAccepted : Type 0 where
    pub permitted : permits t.namespace (pool_of t r) ≡ true
    pub pool : contains_key w.pools (pool_of t r) ≡ true
    pub current : is_outdated r t ≡ false
    pub room : has_no_room r t ≡ false

  pub accepted : first_refusal w t r ≡ None → IsAccepted
  accepted e = by (permits t.namespace (pool_of t r)) (contains_key w.pools (pool_of t r)) (is_outdated r t) (has_no_room r t) refl refl refl refl e
    where
      by : (a b c d : Bool) → permits t.namespace (pool_of t r) ≡ a → contains_key w.pools (pool_of t r) ≡ b → is_outdated r t ≡ c → has_no_room r t ≡ d
          → by_tests a b c d ≡ None → IsAccepted
      by true true false false p q k m e = record { permitted = p; pool = q; current = k; room = m }
      by true true false true p q k m e = absurd (not_Some _ (sym e))
      by true true true d p q k m e = absurd (not_Some _ (sym e))
      by true false c d p q k m e = absurd (not_Some _ (sym e))
      by false b c d p q k m e = absurd (not_Some _ (sym e))

  -- of the world it asks the pool alone, and that only where the namespace may use it
  pub refusal_alike : (w' : World) → (permits t.namespace (pool_of t r) ≡ true → contains_key w.pools (pool_of t r) ≡ contains_key w'.pools (pool_of t r))
      → first_refusal w t r ≡ first_refusal w' t r
  refusal_alike w' alike = by (permits t.namespace (pool_of t r)) alike
    where
      by : (a : Bool) → (a ≡ true → contains_key w.pools (pool_of t r) ≡ contains_key w'.pools (pool_of t r))
          → by_tests a (contains_key w.pools (pool_of t r)) (is_outdated r t) (has_no_room r t)
          ≡ by_tests a (contains_key w'.pools (pool_of t r)) (is_outdated r t) (has_no_room r t)
      by true alike = ap (λ b. by_tests true b (is_outdated r t) (has_no_room r t)) (alike refl)
      by false alike = refl
