use Rattle.std.proofs.Common.{ap, refl, sym, ◌∙◌, ◌≡◌}
use Rattle.std.specs.Option.{option_copied_mut}
use Rattle.std.proofs.Common.{subst}
use Rattle.std.specs.Prelude.{◌≤◌, filter, length}
use Rattle.std.specs.FinMap.{from_entries}
use Rattle.std.proofs.lemmas.List.{length-map}
use Rattle.std.proofs.lemmas.Result.{on_ok_weaker}
use Rattle.keyed.proofs.AtBound.{none-insert}
use Rattle.ns_tables.specs.Bound.{is_at_bound}
use Rattle.ns_types.proofs.Lists.{left_none, right_none}
use Rattle.ns_types.specs.declared.node.Class.{Class}
use Rattle.ns_types.specs.State.Names.{Name, class_cmp, same_name}
use Rattle.ns_change.specs.Settled.{classes_in}
use Rattle.ns_settlement.specs.Committed.{GainsClassRoom}
use Rattle.ns_tables.specs.World.{pool_of}
use Rattle.ns_settlement.proofs.Owned.{in_place, row_in_place}
use Rattle.ns_settlement.proofs.commit.pools.reserve_classes_in.Goals as goal

pub note-requires-2 : goal.note-requires-2
note-requires-2 c below = none-insert (λ p. is_at_bound p.release) c.args.table.now (c.may_be_at_bound-before.ensures (left_none _ _ below))
    c.args.name.now _ (sym c.is_at_bound-at_bound.ensures ∙ right_none _ _ below)

pub returns-clause-rows : goal.returns-clause-rows
returns-clause-rows c = in_place c.args.name.now c.args.table.now c.note-2.new.self _ c.note-2.ensures GainsClassRoom c.in-Some.pool.now
    (sym c.get_mut.ensures.value ∙ ap option_copied_mut c.in-Some.is) (record {
      pool = (λ i. record (pool_of c.in-Some.pool.now) {
        classes = from_entries {R = class_cmp}
            (c.reserve-reserved.ensures.items i);
      });
      nodes = refl;
    })

pub returns-clause-room : goal.returns-clause-room
returns-clause-room c = on_ok_weaker c.reserve-reserved.result (λ room. row_in_place c.args.name.now c.args.table.now c.note-2.new.self _
    c.note-2.ensures (λ pool. length (classes_in c.args.name.now c.args.rooms.now) ≤ pool.classes.room)
    (subst (λ n. n ≤ c.reserve-reserved.new.self.room)
    (c.count_classes.ensures ∙ sym (length-map (filter (λ (room : Name × Class). same_name c.args.name.now room.0) c.args.rooms.now) (λ (room : Name ×
    Class). room.1))) room))
    c.reserve-reserved.ensures.ok
