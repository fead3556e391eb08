-- When all indexes are right, and stay so.
use Rattle.std.specs.Prelude.{◌≡◌, ℕ, false, filter, is_some, map, nat_eq, option_map}
use Rattle.std.specs.List.{filter_map}
use Rattle.std.proofs.Common.{sym, ap, ◌∙◌}
use Rattle.ns_blocked.specs.Waking.{entry_of}
use Rattle.ns_blocked.specs.Blocked.{entries_of}
use Rattle.ns_queues.specs.Busy.{HoldsSame, IsBusyIndex}
use Rattle.ns_queues.specs.Ready.{IsByPriority, keys_at}
use Rattle.ns_queues.specs.Turns.{IsNew, IsRight}
use Rattle.ns_queues.specs.Waiting.{IsBlockedIndex}
use Rattle.ns_queues.specs.Work.{SameWork}
use Rattle.ns_queues.specs.declared.turns.Turns.{Turns}
use Rattle.ns_queues.proofs.Administered.{no_worker_at_first, none_blocked_at_first, none_ready_at_first}
use Rattle.ns_queues.proofs.Carried.{ready_of_priority, same_entries}
use Rattle.ns_types.specs.State.Names.{Name}
use Rattle.ns_types.specs.State.Rows.{World, evaluation_at}
use Rattle.ns_types.specs.Steps.{opening}
use Rattle.ns_types.specs.Working.Queue.{priority_at}
use Rattle.ns_types.proofs.Lists.{not_both}

-- in a world of the same work
pub right_still : (w w' : World) (t : Turns) → SameWork w w' → IsRight w t → IsRight w' t
right_still w w' t same right known =
    let are = right known in
    record {
      busy = λ number ns. are.busy number ns ∙ sym (ap is_some (same.worker number ns));
      ready = λ priority. are.ready priority ∙ sym (ready_of_priority w w' same priority);
      blocked = record {
        entries = are.blocked.entries ∙ sym (same_entries w w' same);
        keys = are.blocked.keys ∙ sym same.blocked;
      };
    }

-- those that say nothing
pub unknown_is_right : (w : World) (t : Turns) → t.is_known ≡ false → IsRight w t
unknown_is_right w t unknown known = absurd (not_both known unknown)

-- those in which nothing stands, in the world that a server begins with
pub new_is_right : (secret : Name) (t : Turns) → IsNew t → IsRight (opening secret).world t
new_is_right secret t new known =
    let w = (opening secret).world in
    record {
      busy = λ number ns. new.idle number ns ∙ sym (ap is_some (no_worker_at_first secret number ns));
      ready = λ priority. new.none_ready priority ∙ sym (ap (filter (λ key. nat_eq (priority_at w key) priority)) (none_ready_at_first secret));
      blocked = record {
        entries = new.none_blocked
            ∙ sym (ap (filter_map (λ key. option_map (entry_of key) (evaluation_at w key))) (none_blocked_at_first secret));
        keys = ap (map (λ e. e.key)) new.none_blocked ∙ sym (none_blocked_at_first secret);
      };
    }

-- those that say the same as before
pub right_kept : (old new : Turns) → new.is_known ≡ old.is_known → HoldsSame old.busy new.busy →
    ((priority : ℕ) → keys_at new.ready priority ≡ keys_at old.ready priority) → entries_of new.blocked ≡ entries_of old.blocked →
    (w : World) → IsRight w old → IsRight w new
right_kept old new same busy ready blocked w right known =
    let are = right (sym same ∙ known) in
    record {
      busy = λ number ns. busy number ns ∙ are.busy number ns;
      ready = λ priority. ready priority ∙ are.ready priority;
      blocked = record { entries = blocked ∙ are.blocked.entries; keys = ap (map (λ e. e.key)) blocked ∙ are.blocked.keys };
    }

-- after a step those that went along with it
pub right_after : (w w' : World) (old new : Turns) → new.is_known ≡ old.is_known → (IsBusyIndex w old.busy → IsBusyIndex w' new.busy) →
    (IsByPriority w old.ready → IsByPriority w' new.ready) → (IsBlockedIndex w old.blocked → IsBlockedIndex w' new.blocked) →
    IsRight w old → IsRight w' new
right_after w w' old new same busy ready blocked right known =
    let are = right (sym same ∙ known) in
    record { busy = busy are.busy; ready = ready are.ready; blocked = blocked are.blocked }
