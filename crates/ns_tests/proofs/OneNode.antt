-- Plans for the only node of their snapshot.
use Rattle.std.specs.Prelude.{◌≡◌, ◌<◌, ℕ, length}
use Rattle.std.specs.List.{All}
use Rattle.std.proofs.Common.{arith, sym, subst}
use Rattle.std.proofs.lemmas.Option.{slice_get_within}
use Rattle.ns_types.specs.declared.plan.Plan.{Plan}
use Rattle.ns_types.specs.declared.snapshot.Snapshot.{Snapshot}
use Rattle.ns_plan.specs.Looks.{IsOnFewNodes}

-- two places below 1 are the same
same_place : (n i j : ℕ) → n ≡ 1 → i < n → j < n → i ≡ j
same_place n i j one below before = omega arith

pub on_one_node : (kept : Snapshot) (p : Plan) → length kept.nodes ≡ 1 →
    All (λ placement. placement.node < 1) p.placing.placements → IsOnFewNodes kept p
on_one_node kept p one inside = record {
  few = omega arith;
  once = λ i j m n here there same. same_place (length kept.nodes) i j one (slice_get_within kept.nodes i m here) (slice_get_within kept.nodes j n there);
  inside = subst (λ nodes. All (λ placement. placement.node < nodes) p.placing.placements) (sym one) inside;
}
