-- The entries by their places, and the groups beside them: what a look-up finds, and what one more or one less leaves.
use Rattle.std.specs.Prelude.{◌≡◌, ℕ, Bool, true, false, cond, not, ◌&&◌, ◌||◌, List, map, filter, length, ◌<◌}
use Rattle.std.specs.Prelude.{Option, Some, None, is_some, option_map}
use Rattle.std.proofs.Common.{refl, sym, ap, subst, ◌∙◌}
use Rattle.std.specs.Option.{option_map_or}
use Rattle.std.specs.FinMap.{entries}
use Rattle.keyed.specs.Levels.{Adds, Drops}
use Rattle.keyed.specs.Queue.{IsPlaceOf, Queue, has_row, rows_in}
use Rattle.keyed.specs.Table.{row_at, row_list}
use Rattle.keyed.proofs.Queued.{fewer_items, others_left, places_passing}
use Rattle.keyed.proofs.RoomLeft.{is_there, none_taken, not_other}
use Rattle.ns_types.specs.State.Names.{Key, ByNumber, has_key, same_key, same_number}
use Rattle.ns_types.proofs.Elements.{any_map}
use Rattle.ns_types.proofs.Named.{one_number}
use Rattle.ns_types.proofs.Tables.{tied}
use Rattle.ns_blocked.specs.declared.entry.BlockedEvaluation.{BlockedEvaluation}
use Rattle.ns_blocked.specs.declared.entry.Waits.{Waits}
use Rattle.ns_blocked.specs.declared.groups.Groups.{Groups}
use Rattle.ns_blocked.specs.Blocked.{BlockedList, IsGrouped, entries_of, entry_at, waits_at}
use Rattle.ns_blocked.specs.Groups.{group_of, has_waiting_room, holds_waiting, same_waiting, same_waits}
use Rattle.ns_blocked.proofs.Grouping.{group_holds}

-- ---- look-ups

-- a key has a place where it is in the list
pub has_placed : (q : Queue BlockedEvaluation) (key : Key) (place : Option ℕ) → IsPlaceOf (λ (e : BlockedEvaluation). e.key) key q place →
    is_some place ≡ has_key (map (λ e. e.key) q.items) key
has_placed q key None is = sym (any_map (same_key key) (λ (e : BlockedEvaluation). e.key) q.items ∙ is)
has_placed q key (Some n) is = sym (any_map (same_key key) (λ (e : BlockedEvaluation). e.key) q.items ∙ is.0)

-- where a place of the key is found, an entry with the key is there
pub key_there : (b : BlockedList) (key sought : Key) (found : Option ℕ) (n : ℕ) → sought ≡ key → found ≡ Some n →
    IsPlaceOf (λ (e : BlockedEvaluation). e.key) sought b.queue found → option_map (λ e. e.key) (entry_at b n) ≡ Some key
key_there b key sought found n same is at = (subst (IsPlaceOf (λ (e : BlockedEvaluation). e.key) sought b.queue) is at).1 ∙ ap Some same

-- where none is found, no entry has the key
pub key_nowhere : (b : BlockedList) (key sought : Key) (found : Option ℕ) → sought ≡ key → found ≡ None →
    IsPlaceOf (λ (e : BlockedEvaluation). e.key) sought b.queue found → filter (λ e. not (same_key e.key key)) (entries_of b) ≡ entries_of b
key_nowhere b key sought found same is at = none_taken (λ (e : BlockedEvaluation). e.key) key (entries_of b)
    (subst (λ k. has_row (λ (e : BlockedEvaluation). e.key) (entries_of b) k ≡ false) same
    (subst (IsPlaceOf (λ (e : BlockedEvaluation). e.key) sought b.queue) is at))

-- the places of a group are exactly those of the entries that wait for it
pub group_is : (rows : ByNumber (Option BlockedEvaluation)) (groups : Groups) → IsGrouped rows groups → (waits : Waits) →
    map (λ e. e.0) (row_list (entries (group_of groups waits)))
    ≡ map (λ e. e.0) (filter (λ e. same_waits waits e.1.waits) (row_list (entries rows)))
group_is rows groups h waits = places_passing (λ (e : BlockedEvaluation). same_waits waits e.waits) (group_of groups waits) rows
    (λ n. group_holds groups waits n ∙ h.held waits n ∙ by (row_at rows n))
  where
    by : (r : Option BlockedEvaluation) → waits_at waits r ≡ option_map_or (λ e. same_waits waits e.waits) r false
    by None = refl
    by (Some e) = refl

-- ---- the groups fit still

pub nothing_grouped : (rows : ByNumber (Option BlockedEvaluation)) (groups : Groups) → ((n : ℕ) → row_at rows n ≡ None) →
    ((waits : Waits) (n : ℕ) → holds_waiting groups (waits, n) ≡ false) → IsGrouped rows groups
nothing_grouped rows groups none nothing = record { held = λ waits n. nothing waits n ∙ ap (waits_at waits) (sym (none n)) }

module _ (old new : ByNumber (Option BlockedEvaluation)) (was now : Groups) (h : IsGrouped old was) where
  pub still_grouped : ((n : ℕ) → row_at new n ≡ row_at old n) →
      ((waits : Waits) (n : ℕ) → holds_waiting now (waits, n) ≡ holds_waiting was (waits, n)) → IsGrouped new now
  still_grouped rows held = record { held = λ waits n. held waits n ∙ h.held waits n ∙ ap (waits_at waits) (sym (rows n)) }

  pub put_grouped : (place : ℕ) (e : BlockedEvaluation) → row_at old place ≡ None →
      ((n : ℕ) → row_at new n ≡ cond (same_number n place) (Some e) (row_at old n)) →
      Adds holds_waiting has_waiting_room same_waiting (e.waits, place) was now → IsGrouped new now
  put_grouped place e none puts adds = record {
    held = λ waits n. adds.held (waits, n) ∙ by waits n (same_number n place) refl ∙ ap (waits_at waits) (sym (puts n));
  }
    where
      here : (s : Bool) → ((s && true) || false) ≡ s
      here true = refl
      here false = refl

      elsewhere : (s h : Bool) → ((s && false) || h) ≡ h
      elsewhere true h = refl
      elsewhere false h = refl

      by : (waits : Waits) (n : ℕ) (b : Bool) → same_number n place ≡ b →
          (same_waiting (waits, n) (e.waits, place) || holds_waiting was (waits, n)) ≡ waits_at waits (cond b (Some e) (row_at old n))
      by waits n true t = (λ i. (same_waits waits e.waits && t i)
          || (h.held waits n ∙ ap (waits_at waits) (ap (row_at old) (tied one_number n place t) ∙ none)) i) ∙ here (same_waits waits e.waits)
      by waits n false t = (λ i. (same_waits waits e.waits && t i) || holds_waiting was (waits, n))
          ∙ elsewhere (same_waits waits e.waits) (holds_waiting was (waits, n)) ∙ h.held waits n

  pub take_grouped : (place : ℕ) (e : BlockedEvaluation) → row_at old place ≡ Some e →
      ((n : ℕ) → row_at new n ≡ cond (same_number n place) None (row_at old n)) →
      Drops holds_waiting has_waiting_room same_waiting (e.waits, place) was now → IsGrouped new now
  take_grouped place e is takes drops = record {
    held = λ waits n. drops.held (waits, n) ∙ by waits n (same_number n place) refl ∙ ap (waits_at waits) (sym (takes n));
  }
    where
      here : (s : Bool) → (not (s && true) && s) ≡ false
      here true = refl
      here false = refl

      elsewhere : (s h : Bool) → (not (s && false) && h) ≡ h
      elsewhere true h = refl
      elsewhere false h = refl

      by : (waits : Waits) (n : ℕ) (b : Bool) → same_number n place ≡ b →
          (not (same_waiting (waits, n) (e.waits, place)) && holds_waiting was (waits, n)) ≡ waits_at waits (cond b None (row_at old n))
      by waits n true t = (λ i. not (same_waits waits e.waits && t i)
          && (h.held waits n ∙ ap (waits_at waits) (ap (row_at old) (tied one_number n place t) ∙ is)) i) ∙ here (same_waits waits e.waits)
      by waits n false t = (λ i. not (same_waits waits e.waits && t i) && holds_waiting was (waits, n))
          ∙ elsewhere (same_waits waits e.waits) (holds_waiting was (waits, n)) ∙ h.held waits n

-- a row that is not there is not taken
pub nothing_taken : (old new : ByNumber (Option BlockedEvaluation)) (place : ℕ) → row_at old place ≡ None →
    ((n : ℕ) → row_at new n ≡ cond (same_number n place) None (row_at old n)) → (n : ℕ) → row_at new n ≡ row_at old n
nothing_taken old new place none takes n = takes n ∙ by (same_number n place) refl
  where
    by : (b : Bool) → same_number n place ≡ b → cond b None (row_at old n) ≡ row_at old n
    by true t = sym (ap (row_at old) (tied one_number n place t) ∙ none)
    by false t = refl

-- ---- an entry with the key is taken out of a list

module _ (old new : BlockedList) (place : ℕ) (key : Key) (there : option_map (λ e. e.key) (entry_at old place) ≡ Some key)
    (taken : (n : ℕ) → entry_at new n ≡ cond (same_number n place) None (entry_at old n)) where
  abbrev other : BlockedEvaluation → Bool
  other e = not (same_key e.key key)

  pub others_stay : filter (λ e. not (same_key e.key key)) (entries_of new) ≡ filter (λ e. not (same_key e.key key)) (entries_of old)
  others_stay = ap (filter other) (sym new.queue.in_order)
      ∙ others_left old.queue.placed.rows new.queue.placed.rows place taken other
      (not_other (λ (e : BlockedEvaluation). e.key) key (entry_at old place) there)
      ∙ ap (filter other) old.queue.in_order

  pub one_fewer : length (entries_of new) < length (entries_of old)
  one_fewer = subst (λ (es : List BlockedEvaluation). length es < length (entries_of old)) new.queue.in_order
      (subst (λ (es : List BlockedEvaluation). length (rows_in (entries new.queue.placed.rows)) < length es) old.queue.in_order
      (fewer_items old.queue.placed.rows new.queue.placed.rows place taken
      (is_there (λ (e : BlockedEvaluation). e.key) key (entry_at old place) there)))
