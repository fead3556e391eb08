use Rattle.std.proofs.Common.{sym, ◌∙◌}
use Rattle.ns_settlement.proofs.Numbered.{all_numbered, all_unnumbered, numbered, place}
use Rattle.ns_settlement.proofs.commit.pools.put_classes.Goals as goal
use Rattle.ns_types.proofs.TableRows.{no_entries}

pub loop-name-init : goal.loop-name-init
loop-name-init c = all_unnumbered c.args.table.now _ c.args.rooms
    (c.into_iter-name-iterator.ensures.into_iter_gives.0 ∙ c.into_vec-name-items.ensures) c.requires

pub put_class_in-requires : goal.put_class_in-requires
put_class_in-requires c = place c.loop-name.table c.loop-name.table c.in-Some.name c.in-Some.class _ _ _ _ c.in-Some.ensures.steps.0 c.loop-name.invariant

pub loop-name-preserved : goal.loop-name-preserved
loop-name-preserved c = numbered c.loop-name.table c.put_class_in.new.table c.in-Some.name c.in-Some.class _ _ _ _ c.in-Some.ensures.steps.0
    c.loop-name.invariant c.put_class_in.ensures

pub returns-clause-pools : goal.returns-clause-pools
returns-clause-pools c = all_numbered c.loop-name.table _ _ _ (no_entries _ (sym c.loop-name.name-iterator.rest.ok.0 ∙ c.in-None.ensures.steps.0))
    c.loop-name.invariant
