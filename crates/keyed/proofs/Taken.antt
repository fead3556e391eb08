-- What a queue is after the row at a place was taken out.
use Rattle.std.specs.Prelude.{◌≡◌, ℕ, ◌<◌, cond, IsTrue, List, length, Option, Some, None, is_some}
use Rattle.std.proofs.Common.{refl, sym, ap, subst, ◌∙◌}
use Rattle.keyed.specs.Queue.{CanAddRows, IsPlaced, LeavesOthers, Queue, TakesRow, queue_of}
use Rattle.keyed.specs.Table.{row_at}
use Rattle.keyed.specs.declared.placed_rows.PlacedRows.{PlacedRows}
use Rattle.keyed.proofs.Levels.{not_true}
use Rattle.keyed.proofs.Queued.{fewer_items, others_left, place_most}
use Rattle.keyed.proofs.RoomLeft.{room_behind}
use Rattle.ns_types.specs.State.Names.{Key, same_number}

module _ {R : Type 0} (key_of : R → Key) (first next : ℕ) (old new : PlacedRows R) (h : IsPlaced key_of first next old) (was : Queue R)
    (view : queue_of next old ≡ was) (place : ℕ) (taken : Option R) (is : taken ≡ row_at old.rows place)
    (takes : TakesRow key_of place taken old new) where
  pub taken_row : taken ≡ row_at was.placed.rows place
  taken_row = is ∙ ap (λ (q : Queue R). row_at q.placed.rows place) view

  pub rows_left : (n : ℕ) → row_at new.rows n ≡ cond (same_number n place) None (row_at was.placed.rows n)
  rows_left n = takes.rows n ∙ ap (λ (q : Queue R). cond (same_number n place) None (row_at q.placed.rows n)) view

  pub items_left : LeavesOthers taken was.items (queue_of next new).items
  items_left = subst (λ (q : Queue R). LeavesOthers taken q.items (queue_of next new).items) view
      (subst (λ r. LeavesOthers r (queue_of next old).items (queue_of next new).items) (sym is) (others_left old.rows new.rows place takes.rows))

  pub fewer_left : IsTrue (is_some taken) → length (queue_of next new).items < length was.items
  fewer_left there = subst (λ (q : Queue R). length (queue_of next new).items < length q.items) view
      (fewer_items old.rows new.rows place takes.rows (subst (λ r. IsTrue (is_some r)) is there))

  pub taken_before : IsTrue (is_some taken) → place < was.next
  taken_before there = subst (λ (q : Queue R). place < q.next) view (by taken refl there)
    where
      by : (r : Option R) → taken ≡ r → IsTrue (is_some r) → place < next
      by None e there = not_true there
      by (Some row) e there = place_most key_of first next old h place row (sym is ∙ e)

  pub room_left : (more : List R) → CanAddRows key_of more was → CanAddRows key_of more (queue_of next new)
  room_left more can = room_behind key_of old new place taken takes next more
      (λ row there. place_most key_of first next old h place row (sym is ∙ there)) (subst (CanAddRows key_of more) (sym view) can)
