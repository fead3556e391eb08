use Rattle.std.proofs.Common.{List, ap, map, subst, ◌≡◌, ◌∙◌}
use Rattle.std.specs.Prelude.{IfOk, Option}
use Rattle.std.specs.FinMap.{entries}
use Rattle.ns_types.specs.State.Names.{Name}
use Rattle.ns_plan_result.proofs.SortedNames.{names_are}
use Rattle.ns_plan_result.proofs.answering.names_in.Goals as goal

pub returns : goal.returns
returns c = subst (λ (l : List Name). IfOk c.keys_of.result (λ names. names ≡ l))
    (ap (map (λ (e : Name × Option Unit). e.0)) (c.as_slice.ensures ∙ ap entries c.in_ok-table.ensures) ∙ names_are c.args.snapshot.now c.args.places.now)
    c.keys_of.ensures
