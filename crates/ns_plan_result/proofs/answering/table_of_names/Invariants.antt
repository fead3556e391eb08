use Rattle.std.proofs.Common.{◌≡◌, drop, fold}
use Rattle.std.specs.FinMap.{empty}
use Rattle.ns_types.specs.Working.Commit.{node_name}
use Rattle.ns_plan_result.specs.Answering.{with_name}
use Rattle.ns_plan_result.proofs.answering.table_of_names.Given as goal

abbrev pub invariant-loop-place : goal.invariant-loop-place
invariant-loop-place l = fold (λ m k. with_name m (node_name l.snapshot k)) l.table (drop l.place-index l.places)
    ≡ fold (λ m k. with_name m (node_name l.snapshot k)) empty l.places
