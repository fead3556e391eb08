-- The index of blocked evaluations beside the tables.
use Rattle.std.specs.Prelude.{◌≡◌, ℕ, Bool, not, ◌&&◌, List, [], ◌∷◌, Option, Some, None, is_some}
use Rattle.std.specs.Prelude.{option_map}
use Rattle.std.specs.List.{filter_map, list_all}
use Rattle.std.specs.Option.{option_eq}
use Rattle.std.specs.Cmp.Lexicographic.{pointwise}
use Rattle.ns_blocked.specs.declared.entry.BlockedEvaluation.{BlockedEvaluation}
use Rattle.ns_blocked.specs.Blocked.{BlockedList, are_new, entries_of, keys_of}
use Rattle.ns_blocked.specs.Waking.{entries_in, entry_of}
use Rattle.ns_change.specs.declared.change.Settled.{Settled}
use Rattle.ns_change.specs.Changed.{without_keys}
use Rattle.ns_change.specs.Settled.{settled_world}
use Rattle.ns_queues.specs.After.{Moves}
use Rattle.ns_types.specs.declared.evaluation.Evaluation.{Evaluation}
use Rattle.ns_types.specs.Settling.Same.{same_flag}
use Rattle.ns_types.specs.State.Names.{Key, has_key, same_class, same_name}
use Rattle.ns_types.specs.State.Rows.{World, evaluation_at}

-- the index has the entries of the blocked evaluations in the list's order, and each blocked key has its evaluation
pub record IsBlockedIndex (w : World) (list : BlockedList) : Type 0 where
  pub entries : entries_of list ≡ entries_in w
  pub keys : keys_of list ≡ w.blocked

-- the entries of those keys
abbrev pub entries_for : World → List Key → List BlockedEvaluation
entries_for w keys = filter_map (λ key. option_map (entry_of key) (evaluation_at w key)) keys

-- the entry of a slot's key; a vacant slot has none
abbrev pub entries_at : World → ℕ × Option Key → List BlockedEvaluation
entries_at w (place, None) = []
entries_at w (place, Some key) = entries_for w (key ∷ [])

-- the entries of the keys that a step adds, with the rows that the step leaves
abbrev pub added_entries : World → Settled → List BlockedEvaluation
added_entries w s = entries_for (settled_world w s) s.blocked.added

-- ---- evaluations whose entry changes

-- both wait for the same quota and pool, and the same classes wake them
abbrev pub waits_alike : Evaluation → Evaluation → Bool
waits_alike a b = option_eq same_name a.quota b.quota && same_name a.pool b.pool && same_flag a.escapes b.escapes
    && pointwise same_class a.infeasible b.infeasible

abbrev pub rows_alike : Option Evaluation → Option Evaluation → Bool
rows_alike = option_eq waits_alike

-- an evaluation of the list gets another entry
abbrev pub moves_entry : BlockedList → Moves
moves_entry list key before after = has_key (keys_of list) key && not (rows_alike before after)

-- ---- whether a list stays right

-- each of these evaluations waits alike before the step and after it
abbrev pub keep_waiting : World → World → List Key → Bool
keep_waiting before after keys =
    list_all (λ key. rows_alike (evaluation_at before key) (evaluation_at after key)) keys

-- there is an evaluation for each of these keys
abbrev pub have_rows : World → List Key → Bool
have_rows w keys = list_all (λ key. is_some (evaluation_at w key)) keys

-- each key that the step adds to the list has its evaluation, is none of those that stay, and is added once
abbrev pub adds_new : World → Settled → List Key → Bool
adds_new w s staying = have_rows (settled_world w s) s.blocked.added && are_new staying (added_entries w s)

-- of a list with these keys, those that the step does not take wait as before, and what it adds is new beside them
abbrev pub keeps_list : World → Settled → List Key → Bool
keeps_list w s keys =
    let staying = without_keys s.blocked.taken keys in
    keep_waiting w (settled_world w s) staying && adds_new w s staying
