use Rattle.std.proofs.Common.{ap, sym, ◌∙◌}
use Rattle.std.proofs.lemmas.Bool.{eqb-true}
use Rattle.std.specs.Option.{option_copied}
use Rattle.ns_release.specs.Released.{ended_among, ended_of}
use Rattle.ns_release.proofs.Released.{ended_nowhere, ended_there, ended_unchanged, ended_without}
use Rattle.ns_tables.specs.World.{tenant_of, world_of}
use Rattle.ns_types.proofs.TableRows.{no_entries}
use Rattle.ns_release.proofs.releasing.changed_allocations.Goals as goal

pub returns-in_default : goal.returns-in_default
returns-in_default c = ap (ended_of (world_of c.args.tables.now) c.args.slot.now.0) c.in_default.is ∙ ended_unchanged (world_of c.args.tables.now) c.args.slot.now.0

pub returns-then-is_empty : goal.returns-then-is_empty
returns-then-is_empty c = ap (ended_of (world_of c.args.tables.now) c.args.slot.now.0) c.in-Some.is
    ∙ ended_without (world_of c.args.tables.now) c.args.slot.now.0 c.in-Some.change
    (sym c.as_slice-slots.ensures ∙ no_entries _ (eqb-true _ 0 (sym c.is_empty.ensures ∙ c.if-is_empty.true)))

pub returns-in-Some-get : goal.returns-in-Some-get
returns-in-Some-get c = ap (ended_of (world_of c.args.tables.now) c.args.slot.now.0) c.in-Some.is
    ∙ ended_there c.args.tables.now c.args.slot.now.0 c.in-Some-get.tenant.now c.in-Some.change (sym c.get.ensures ∙ ap option_copied c.in-Some-get.is)
    ∙ ap (ended_among (tenant_of c.in-Some-get.tenant.now)) (sym c.as_slice-slots.ensures)

pub returns-in-None : goal.returns-in-None
returns-in-None c = ended_nowhere c.args.tables.now c.args.slot.now.0 c.args.slot.now.1 (sym c.get.ensures ∙ ap option_copied c.in-None.is)
