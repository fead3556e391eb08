use Rattle.std.proofs.Common.{ap, sym, ◌∙◌}
use Rattle.std.specs.Prelude.{option_map, is_some}
use Rattle.std.specs.Option.{option_copied}
use Rattle.ns_types.specs.Working.Commit.{live_stops, stop_all}
use Rattle.ns_types.proofs.Lists.{not_both}
use Rattle.ns_types.proofs.Tests.{same_Some}
use Rattle.ns_change.specs.Changed.{view}
use Rattle.ns_change.proofs.Prepares.{done_as}
use Rattle.ns_tables.proofs.World.{tenant_at}
use Rattle.ns_tables.specs.World.{tenant_of}
use Rattle.ns_plan_result.proofs.stopping.stop.Goals as goal

pub returns-in_default : goal.returns-in_default
returns-in_default c = λ t at.
    let ns = c.args.committed.now.snapshot.now.namespace in
    not_both (ap is_some at) (ap is_some (tenant_at c.args.committed.now.tables.now ns
    ∙ ap (option_map tenant_of) (sym c.get.ensures ∙ ap option_copied c.in_default.is)))

pub returns : goal.returns
returns c = λ t at.
    let tables = c.args.committed.now.tables.now in
    let ns = c.args.committed.now.snapshot.now.namespace in
    let same = same_Some _ _ (sym (tenant_at tables ns ∙ ap (option_map tenant_of) (sym c.get.ensures ∙ ap option_copied c.in-Some.is)) ∙ at) in
    done_as c.stop_in.result tables c.stop_in.new.change _ _
    (λ i. stop_all ns (live_stops (same i) (c.as_slice-stops.ensures i)) (view tables c.args.change.now)) c.stop_in.ensures
