-- One placement more: its node is decided already, or there is room for it and it is decided now.
use Rattle.std.specs.Prelude.{◌≡◌, ℕ, ◌+◌, ◌<◌, ◌++◌, Bool, true, false, cond, List, [], ◌∷◌, Option, length}
use Rattle.std.proofs.Common.{arith, get_or, refl, sym, ap, subst, take}
use Rattle.ns_types.specs.declared.plan.Placement.{Placement}
use Rattle.ns_types.specs.declared.plan.Plan.{Plan}
use Rattle.ns_types.specs.declared.snapshot.Snapshot.{Snapshot}
use Rattle.ns_types.specs.State.Names.{Name, has_number}
use Rattle.ns_types.specs.State.Rows.{World}
use Rattle.ns_types.specs.Working.Commit.{node_name, nodes_in}
use Rattle.ns_plan.specs.Looks.{IsOnFewNodes}
use Rattle.ns_plan.specs.Reader.{AreElsewhere, IsSoFar, Read, read_all, read_one}
use Rattle.ns_plan.specs.declared.deciding.SoFar.{SoFar}
use Rattle.ns_plan.proofs.Few.{all_below, has_room, node_inside}
use Rattle.ns_plan.proofs.Parts.{nodes_step}
use Rattle.ns_plan.proofs.Steps.{elsewhere_is, read_is, read_next}

module _ (kept : Snapshot) (plan : Plan) (fits : IsOnFewNodes kept plan) (w : World) (quota : Option Name) (i : ℕ) (p : Placement)
    (inside : i < length plan.placing.placements) (at : p ≡ get_or plan.placing.placements i p) (s : SoFar)
    (so_far : IsSoFar w quota s (read_all kept plan.placing.placements w (nodes_in (take i plan.placing.placements)))) where
  abbrev ps : List Placement
  ps = plan.placing.placements

  abbrev nodes : List ℕ
  nodes = nodes_in (take i ps)

  abbrev r : Read
  r = read_all kept ps w nodes

  pub next : (b : Bool) → has_number nodes p.node ≡ b → cond b nodes (nodes ++ p.node ∷ []) ≡ nodes_in (take (i + 1) ps)
  next b known = nodes_step ps i p inside at nodes refl nodes refl b known

  pub already : has_number nodes p.node ≡ true → IsSoFar w quota s (read_all kept ps w (nodes_in (take (i + 1) ps)))
  already known = subst (λ l. IsSoFar w quota s (read_all kept ps w l)) (next true known) so_far

  module _ (new : has_number nodes p.node ≡ false) where
    pub now : (s : SoFar) → IsSoFar w quota s (read_one kept ps w r p.node) → IsSoFar w quota s (read_all kept ps w (nodes_in (take (i + 1) ps)))
    now s is = subst (λ l. IsSoFar w quota s (read_all kept ps w l)) (next false new) (subst (IsSoFar w quota s) (sym (read_next kept ps w nodes p.node)) is)

    pub elsewhere_now : AreElsewhere w kept.pool (node_name kept p.node) r.keys
    elsewhere_now = elsewhere_is kept plan fits w p.node (node_inside kept plan fits i p inside at) nodes r (read_is kept ps w nodes)
        (all_below kept plan fits i) new

    pub room_committed : length s.committed.items < 1000
    room_committed =
        let room = has_room kept plan fits i p inside at new in
        let sum = (read_is kept ps w nodes).count in
        let same = ap length so_far.committed_is in
        omega (arith, room, sum, same)

    pub room_dropped : length s.dropped.items < 1000
    room_dropped =
        let room = has_room kept plan fits i p inside at new in
        let sum = (read_is kept ps w nodes).count in
        let same = ap length so_far.dropped_is in
        omega (arith, room, sum, same)
