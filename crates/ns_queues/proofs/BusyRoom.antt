-- Room that is made for one changed row after another.
use Rattle.std.specs.Prelude.{◌≡◌, ℕ, ◌+◌, ◌<◌, IsTrue, List, [], ◌∷◌, ◌++◌, Option, Some, None, is_some, length}
use Rattle.std.proofs.Common.{refl, ap, sym, subst, get_or, take, ◌∙◌}
use Rattle.std.proofs.lemmas.List.{take_more}
use Rattle.std.specs.FinMap.{entries, get, get-entries}
use Rattle.keyed.specs.Table.{flat}
use Rattle.keyed.proofs.Levels.{not_true}
use Rattle.ns_change.specs.declared.change.Settled.{Settled}
use Rattle.ns_change.specs.declared.change.SettledTenant.{SettledTenant}
use Rattle.ns_queues.specs.Busy.{HasBusyRoom, HasRoomIn, Keeps, has_room}
use Rattle.ns_queues.specs.declared.busy.BusyWorkers.{BusyWorkers}
use Rattle.ns_queues.proofs.BusyNames.{keeps_same, keeps_then}
use Rattle.ns_types.specs.State.Lists.{Each}
use Rattle.ns_types.specs.State.Names.{ByNumber, Name}
use Rattle.ns_types.specs.Working.Worker.{Worker}
use Rattle.ns_types.proofs.Elements.{each_append, each_found}
use Rattle.ns_types.proofs.Named.{one_name, one_number}
use Rattle.ns_types.proofs.Tests.{not_Some}

-- there is room for the row
abbrev pub RoomForRow : Name → ℕ × Option Worker → BusyWorkers → Type 0
RoomForRow ns e b = IsTrue (is_some e.1) → IsTrue (has_room b e.0 ns)

-- there is room for the rows of the namespace
abbrev pub RoomForRows : Name × Option SettledTenant → BusyWorkers → Type 0
RoomForRows e b = (x : SettledTenant) → e.1 ≡ Some x → HasRoomIn e.0 x.rows.workers b

pub row_kept : (ns : Name) (e : ℕ × Option Worker) (x y : BusyWorkers) → Keeps x y → RoomForRow ns e x → RoomForRow ns e y
row_kept ns e x y keeps room row = keeps.room e.0 ns (room row)

pub rows_kept : (e : Name × Option SettledTenant) (x y : BusyWorkers) → Keeps x y → RoomForRows e x → RoomForRows e y
rows_kept e x y keeps room change is n row = keeps.room n e.0 (room change is n row)

module _ {E : Type 0} (Room : E → BusyWorkers → Type 0) where
  pub record Making (before now : BusyWorkers) (done : List E) : Type 0 where
    pub same : Keeps before now
    pub made : Each (λ e. Room e now) done

  pub none_made : (b : BusyWorkers) → Making b b []
  none_made b = record { same = keeps_same b; made = tt }

  module _ (stays : (e : E) (x y : BusyWorkers) → Keeps x y → Room e x → Room e y) where
    still : (x y : BusyWorkers) → Keeps x y → (es : List E) → Each (λ e. Room e x) es → Each (λ e. Room e y) es
    still x y keeps [] all = tt
    still x y keeps (e ∷ es) all = (stays e x y keeps all.0, still x y keeps es all.1)

    pub one_made : (xs : List E) (i : ℕ) (e : E) → i < length xs → e ≡ get_or xs i e → (before now new : BusyWorkers) → Keeps now new → Room e new →
        Making before now (take i xs) → Making before new (take (i + 1) xs)
    one_made xs i e lt is before now new keeps made h = record {
      same = keeps_then before now new h.same keeps;
      made = subst (Each (λ e. Room e new)) (sym (take_more xs i e lt ∙ ap (λ x. take i xs ++ x ∷ []) (sym is)))
          (each_append (λ e. Room e new) (take i xs) (e ∷ []) (still now new keeps (take i xs) h.made) (made, tt));
    }

    -- of the row nothing is to be made
    pub one_passed : (xs : List E) (i : ℕ) (e : E) → i < length xs → e ≡ get_or xs i e → (before now new : BusyWorkers) → new ≡ now → Room e now →
        Making before now (take i xs) → Making before new (take (i + 1) xs)
    one_passed xs i e lt is before now new same made h = subst (λ b. Making before b (take (i + 1) xs)) (sym same)
        (one_made xs i e lt is before now now (keeps_same now) made h)

pub room_in : (ns : Name) (rows : ByNumber (Option Worker)) (b : BusyWorkers) (es : List (ℕ × Option Worker)) → es ≡ entries rows →
    Each (λ e. RoomForRow ns e b) es → HasRoomIn ns rows b
room_in ns rows b es is all n row = by (get rows n) refl row
  where
    by : (r : Option (Option Worker)) → get rows n ≡ r → IsTrue (is_some (flat r)) → IsTrue (has_room b n ns)
    by None at row = not_true row
    by (Some slot) at row = each_found one_number (λ e. RoomForRow ns e b) (entries rows) (subst (Each (λ e. RoomForRow ns e b)) is all) n slot
        (sym (get-entries rows n) ∙ at) row

pub room_for_all : (s : Settled) (b : BusyWorkers) (es : List (Name × Option SettledTenant)) → es ≡ entries s.tenants →
    Each (λ e. RoomForRows e b) es → HasBusyRoom s b
room_for_all s b es is all ns x row = by (get s.tenants ns) refl row
  where
    by : (r : Option (Option SettledTenant)) → get s.tenants ns ≡ r → flat r ≡ Some x → HasRoomIn ns x.rows.workers b
    by None at row = absurd (not_Some x row)
    by (Some slot) at row = each_found one_name (λ e. RoomForRows e b) (entries s.tenants) (subst (Each (λ e. RoomForRows e b)) is all) ns slot
        (sym (get-entries s.tenants ns) ∙ at) x row
