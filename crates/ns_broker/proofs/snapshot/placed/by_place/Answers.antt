use Rattle.std.proofs.Common.{ap, fold, ◌∙◌}
use Rattle.keyed.specs.Table.{rows}
use Rattle.keyed.proofs.Tables.{rows-empty}
use Rattle.ns_broker.specs.Seen.{add_namespace}
use Rattle.ns_broker.proofs.snapshot.placed.by_place.Goals as goal

pub returns : goal.returns
returns c = c.in_ok-add_namespaces.ensures
    ∙ (λ i. fold (add_namespace c.args.last c.args.tables.now.tenants) ((ap rows c.in_ok-seen.ensures ∙ rows-empty) i) (c.as_slice.ensures i))
