use Rattle.std.proofs.Common.{◌≡◌, false, List, [], ◌∷◌, ap, arith, refl, sym, ◌∙◌}
use Rattle.std.specs.Prelude.{◌==◌, ◌||◌, ℕ, not, length}
use Rattle.std.specs.FinMap.{get}
use Rattle.std.specs.List.{list_any}
use Rattle.std.specs.Option.{option_map_or}
use Rattle.ns_types.specs.declared.plan.Placement.{Placement}
use Rattle.ns_types.specs.State.Lists.{is_empty}
use Rattle.ns_types.specs.State.Names.{has_number}
use Rattle.ns_types.specs.State.Rows.{is_live}
use Rattle.ns_types.specs.Working.Commit.{live_stops}
use Rattle.ns_types.proofs.Lists.{any_is}
use Rattle.ns_types.proofs.Named.{number_ties}
use Rattle.ns_types.proofs.TableRows.{apart}
use Rattle.ns_tables.specs.World.{tenant_of}
use Rattle.ns_types.specs.Working.Parts.{placed_on}
use Rattle.ns_plan_result.proofs.answering.effect_of.Goals as goal
use Rattle.ns_plan_result.proofs.answering.effect_of.Goals.{then-any_live, else-any_live}

none_is : {A : Type 0} (xs : List A) → (length xs == 0) ≡ is_empty xs
none_is [] = refl
none_is (x ∷ xs) = number_ties (length (x ∷ xs)) 0 ∙ apart (length (x ∷ xs)) 0 (λ e. omega arith)

pub returns : goal.returns
returns c =
    let p = c.args.committed.now.plan.now in
    let nodes = c.args.committed.now.nodes.now in
    let t = tenant_of c.args.tenant.now in
    let lives = λ (n : ℕ). option_map_or is_live (get t.allocations n) false in
    let serves = λ (p : Placement). has_number nodes p.node in
    let places = not (is_empty (placed_on nodes p.placing.placements)) in
    let stops = c.any_live.ensures ∙ ap (list_any lives) c.as_slice.ensures ∙ any_is lives p.stops in
    let committed : c.if-any_live.result ≡ (not (is_empty (live_stops t p.stops)) || places) = elim c.if-any_live.branch [
      | then-any_live v ↦ v.result-is ∙ v.if-any_live.true ∙ ap (λ b. b || places) (sym v.if-any_live.true ∙ stops)
      | else-any_live v ↦ v.result-is ∙ v.any_placed.ensures ∙ ap (list_any serves) v.as_slice-else-any_live.ensures
          ∙ any_is serves p.placing.placements ∙ ap (λ b. b || places) (sym v.if-any_live.false ∙ stops)
    ] in
    λ i. record { has_committed = committed i; has_dropped = not ((c.is_empty.ensures ∙ none_is c.args.dropped.now) i) }
