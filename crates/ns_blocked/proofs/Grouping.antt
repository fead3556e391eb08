-- What a change of the set of the quotas' places, or of that of the pools' places, leaves of the groups.
use Rattle.std.specs.Prelude.{◌≡◌, ℕ, true, false, not, ◌&&◌, ◌||◌, IsTrue, Option, Some, None}
use Rattle.std.proofs.Common.{refl, sym, ap, subst}
use Rattle.std.specs.Option.{option_map_or}
use Rattle.std.specs.FinMap.{empty}
use Rattle.keyed.specs.Levels.{Adds, Drops, Keeps, has_key_room, holds_key, holds_number}
use Rattle.keyed.specs.Table.{row_at}
use Rattle.keyed.specs.declared.key_set.KeySet.{KeySet}
use Rattle.keyed.proofs.Levels.{no_number, not_true, says_nothing}
use Rattle.ns_blocked.specs.declared.entry.Waits.{Waits}
use Rattle.ns_blocked.specs.declared.entry.Waits.TheVariants.{Pool, Quota}
use Rattle.ns_blocked.specs.declared.groups.Groups.{Groups}
use Rattle.ns_blocked.specs.Groups.{group_of, has_waiting_room, holds_waiting, places_of, same_waiting}
use Rattle.ns_types.specs.State.Names.{Key, Name, ByNumber, same_key}

-- the slots of a name have its places
holds_of : (keys : KeySet) (name : Name) (n : ℕ) → holds_number (places_of keys name) n ≡ holds_key keys (name, n)
holds_of keys name n = by (row_at keys.numbers name)
  where
    by : (r : Option (ByNumber (Option Unit))) →
        holds_number (option_map_or (λ places. places) r empty) n ≡ option_map_or (λ places. holds_number places n) r false
    by None = no_number empty refl n
    by (Some places) = refl

pub group_holds : (groups : Groups) (waits : Waits) (n : ℕ) → holds_number (group_of groups waits) n ≡ holds_waiting groups (waits, n)
group_holds groups (Quota name) n = holds_of groups.quotas name n
group_holds groups (Pool name) n = holds_of groups.pools name n

pub no_group : (groups : Groups) → groups.quotas.numbers ≡ empty → groups.pools.numbers ≡ empty → (waits : Waits) (n : ℕ) →
    holds_waiting groups (waits, n) ≡ false
no_group groups quotas pools (Quota name) n = says_nothing (λ (s : KeySet). s.numbers) holds_number groups.quotas quotas (name, n)
no_group groups quotas pools (Pool name) n = says_nothing (λ (s : KeySet). s.numbers) holds_number groups.pools pools (name, n)

-- ---- where one of the sets changes, and the other is the same

module _ (old new : Groups) where
  pub quotas_kept : Keeps holds_key has_key_room old.quotas new.quotas → new.pools ≡ old.pools → Keeps holds_waiting has_waiting_room old new
  quotas_kept keeps same = record { held = λ q. held q.0 q.1; room = λ q. room q.0 q.1 }
    where
      held : (w : Waits) (n : ℕ) → holds_waiting new (w, n) ≡ holds_waiting old (w, n)
      held (Quota name) n = keeps.held (name, n)
      held (Pool name) n = ap (λ s. holds_key s (name, n)) same

      room : (w : Waits) (n : ℕ) → IsTrue (has_waiting_room old (w, n)) → IsTrue (has_waiting_room new (w, n))
      room (Quota name) n h = keeps.room (name, n) h
      room (Pool name) n h = subst (λ s. IsTrue (has_key_room s (name, n))) (sym same) h

  pub pools_kept : Keeps holds_key has_key_room old.pools new.pools → new.quotas ≡ old.quotas → Keeps holds_waiting has_waiting_room old new
  pools_kept keeps same = record { held = λ q. held q.0 q.1; room = λ q. room q.0 q.1 }
    where
      held : (w : Waits) (n : ℕ) → holds_waiting new (w, n) ≡ holds_waiting old (w, n)
      held (Quota name) n = ap (λ s. holds_key s (name, n)) same
      held (Pool name) n = keeps.held (name, n)

      room : (w : Waits) (n : ℕ) → IsTrue (has_waiting_room old (w, n)) → IsTrue (has_waiting_room new (w, n))
      room (Quota name) n h = subst (λ s. IsTrue (has_key_room s (name, n))) (sym same) h
      room (Pool name) n h = keeps.room (name, n) h

  pub quotas_held : ((key : Key) → holds_key new.quotas key ≡ holds_key old.quotas key) → new.pools ≡ old.pools → (w : Waits) (n : ℕ) →
      holds_waiting new (w, n) ≡ holds_waiting old (w, n)
  quotas_held held same (Quota name) n = held (name, n)
  quotas_held held same (Pool name) n = ap (λ s. holds_key s (name, n)) same

  pub pools_held : ((key : Key) → holds_key new.pools key ≡ holds_key old.pools key) → new.quotas ≡ old.quotas → (w : Waits) (n : ℕ) →
      holds_waiting new (w, n) ≡ holds_waiting old (w, n)
  pools_held held same (Quota name) n = ap (λ s. holds_key s (name, n)) same
  pools_held held same (Pool name) n = held (name, n)

  module _ (waits : Waits) (name : Name) (place : ℕ) where
    pub quotas_added : waits ≡ Quota name → Adds holds_key has_key_room same_key (name, place) old.quotas new.quotas → new.pools ≡ old.pools →
        Adds holds_waiting has_waiting_room same_waiting (waits, place) old new
    quotas_added is adds same = subst (λ w. Adds holds_waiting has_waiting_room same_waiting (w, place) old new) (sym is)
        (record { held = λ q. held q.0 q.1; room = λ q. room q.0 q.1 })
      where
        held : (w : Waits) (n : ℕ) → holds_waiting new (w, n) ≡ (same_waiting (w, n) (Quota name, place) || holds_waiting old (w, n))
        held (Quota other) n = adds.held (other, n)
        held (Pool other) n = ap (λ s. holds_key s (other, n)) same

        room : (w : Waits) (n : ℕ) → IsTrue (has_waiting_room old (w, n)) → IsTrue (has_waiting_room new (w, n))
        room (Quota other) n h = adds.room (other, n) h
        room (Pool other) n h = subst (λ s. IsTrue (has_key_room s (other, n))) (sym same) h

    pub pools_added : waits ≡ Pool name → Adds holds_key has_key_room same_key (name, place) old.pools new.pools → new.quotas ≡ old.quotas →
        Adds holds_waiting has_waiting_room same_waiting (waits, place) old new
    pools_added is adds same = subst (λ w. Adds holds_waiting has_waiting_room same_waiting (w, place) old new) (sym is)
        (record { held = λ q. held q.0 q.1; room = λ q. room q.0 q.1 })
      where
        held : (w : Waits) (n : ℕ) → holds_waiting new (w, n) ≡ (same_waiting (w, n) (Pool name, place) || holds_waiting old (w, n))
        held (Quota other) n = ap (λ s. holds_key s (other, n)) same
        held (Pool other) n = adds.held (other, n)

        room : (w : Waits) (n : ℕ) → IsTrue (has_waiting_room old (w, n)) → IsTrue (has_waiting_room new (w, n))
        room (Quota other) n h = subst (λ s. IsTrue (has_key_room s (other, n))) (sym same) h
        room (Pool other) n h = adds.room (other, n) h

    pub quotas_dropped : waits ≡ Quota name → Drops holds_key has_key_room same_key (name, place) old.quotas new.quotas → new.pools ≡ old.pools →
        Drops holds_waiting has_waiting_room same_waiting (waits, place) old new
    quotas_dropped is drops same = subst (λ w. Drops holds_waiting has_waiting_room same_waiting (w, place) old new) (sym is)
        (record { held = λ q. held q.0 q.1; room = λ q. room q.0 q.1; gone = λ q. gone q.0 q.1 })
      where
        held : (w : Waits) (n : ℕ) → holds_waiting new (w, n) ≡ (not (same_waiting (w, n) (Quota name, place)) && holds_waiting old (w, n))
        held (Quota other) n = drops.held (other, n)
        held (Pool other) n = ap (λ s. holds_key s (other, n)) same

        room : (w : Waits) (n : ℕ) → same_waiting (w, n) (Quota name, place) ≡ false → IsTrue (has_waiting_room old (w, n)) →
            IsTrue (has_waiting_room new (w, n))
        room (Quota other) n apart h = drops.room (other, n) apart h
        room (Pool other) n apart h = subst (λ s. IsTrue (has_key_room s (other, n))) (sym same) h

        gone : (w : Waits) (n : ℕ) → same_waiting (w, n) (Quota name, place) ≡ true → has_waiting_room new (w, n) ≡ false
        gone (Quota other) n t = drops.gone (other, n) t
        gone (Pool other) n t = not_true t

    pub pools_dropped : waits ≡ Pool name → Drops holds_key has_key_room same_key (name, place) old.pools new.pools → new.quotas ≡ old.quotas →
        Drops holds_waiting has_waiting_room same_waiting (waits, place) old new
    pools_dropped is drops same = subst (λ w. Drops holds_waiting has_waiting_room same_waiting (w, place) old new) (sym is)
        (record { held = λ q. held q.0 q.1; room = λ q. room q.0 q.1; gone = λ q. gone q.0 q.1 })
      where
        held : (w : Waits) (n : ℕ) → holds_waiting new (w, n) ≡ (not (same_waiting (w, n) (Pool name, place)) && holds_waiting old (w, n))
        held (Quota other) n = ap (λ s. holds_key s (other, n)) same
        held (Pool other) n = drops.held (other, n)

        room : (w : Waits) (n : ℕ) → same_waiting (w, n) (Pool name, place) ≡ false → IsTrue (has_waiting_room old (w, n)) →
            IsTrue (has_waiting_room new (w, n))
        room (Quota other) n apart h = subst (λ s. IsTrue (has_key_room s (other, n))) (sym same) h
        room (Pool other) n apart h = drops.room (other, n) apart h

        gone : (w : Waits) (n : ℕ) → same_waiting (w, n) (Pool name, place) ≡ true → has_waiting_room new (w, n) ≡ false
        gone (Quota other) n t = not_true t
        gone (Pool other) n t = drops.gone (other, n) t
