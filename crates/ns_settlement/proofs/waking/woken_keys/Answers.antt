use Rattle.std.specs.Prelude.{length}
use Rattle.std.proofs.Common.{sym, ◌∙◌}
use Rattle.std.proofs.lemmas.Bool.{eqb-true}
use Rattle.ns_release.proofs.Woken.{woken_nothing}
use Rattle.ns_release.specs.Released.{released_quotas, released_rooms}
use Rattle.ns_settlement.proofs.waking.woken_keys.Goals as goal
use Rattle.ns_tables.specs.World.{world_of}
use Rattle.ns_types.proofs.TableRows.{no_entries}

pub returns-then-is_empty-2 : goal.returns-then-is_empty-2
returns-then-is_empty-2 c =
    let w = world_of c.args.tables.now in
    let change = c.args.change.now in
    let rooms = c.as_slice.result.now in
    let quotas = c.as_slice-then-is_empty.result.now in
    c.new.ensures ∙ woken_nothing w change (released_rooms w change) (released_quotas w change)
    (sym c.requires.rooms ∙ sym c.as_slice.ensures
    ∙ no_entries rooms (eqb-true (length rooms) 0 (sym c.is_empty.ensures ∙ c.if-is_empty.true)))
    (sym c.requires.quotas ∙ sym c.as_slice-then-is_empty.ensures
    ∙ no_entries quotas (eqb-true (length quotas) 0 (sym c.is_empty-then-is_empty.ensures ∙ c.if-is_empty-2.true)))
