use Rattle.std.proofs.Common.{◌≡◌, ◌<◌, List, Option, length, take, None, Some, ap, refl, sym, ◌∙◌, subst}
use Rattle.std.specs.List.{HoldsAt}
use Rattle.std.specs.Option.{MatchOption, option_map}
use Rattle.ns_types.specs.declared.resources.Resources.{Resources}
use Rattle.ns_types.specs.Placing.Placement.{Candidate, best_fit}
use Rattle.ns_types.specs.Placing.Planning.{Choice, after, choice, placement_of}
use Rattle.ns_place.specs.Order.{IsOrder, IsNextNode}
use Rattle.ns_preempt.specs.Ranking.{IsRanking}
use Rattle.ns_schedule.specs.Chosen.{IsChosen, site}
use Rattle.ns_schedule.specs.declared.choice.Chosen.{Chosen}
use Rattle.ns_schedule.proofs.Victims.{chosen_with_room}
use Rattle.ns_schedule.proofs.Orders.{nobody, order_taken, order_alone}
use Rattle.ns_schedule.proofs.placing.place_next.Goals as goal

-- a node with victims that was chosen, if one was
abbrev Chose : Resources → List Candidate → Option Chosen → Type 0
Chose size cs chosen = MatchOption chosen (choice size cs ≡ None)
    (λ ch. (ch.node < length cs) × HoldsAt (IsChosen size cs ch.node ch.victims) cs ch.node)

chose : (size : Resources) (cs xs : List Candidate) (o p : Option Chosen) → cs ≡ xs → o ≡ p → Chose size cs o → Chose size xs p
chose size cs xs o p same is h = subst (Chose size xs) is (subst (λ (ys : List Candidate). Chose size ys o) same h)

pub place_at-requires-clause-chosen : goal.place_at-requires-clause-chosen
place_at-requires-clause-chosen c =
    let xs = c.args.candidates.now.items in
    let best : best_fit c.args.demand.size xs ≡ Some c.in-Some.node =
    sym (subst (λ (s : Resources). Some c.in-Some.node ≡ best_fit s xs) c.requires.size
    (subst (λ (ys : List Candidate). Some c.in-Some.node ≡ best_fit c.args.order.now.size ys) c.as_slice.ensures.value c.in-Some.ensures.best)) in
    (chosen_with_room c.args.demand.size xs c.in-Some.node best).1

pub returns-in-Some-clause-order : goal.returns-in-Some-clause-order
returns-in-Some-clause-order c =
    let xs = c.args.candidates.now.items in
    let k = c.in-Some.node in
    order_taken c.next.new.self xs c.place_at.new.candidates.items k
    (subst (λ (ys : List Candidate). IsOrder c.next.new.self ys) c.as_slice.ensures.value c.in-Some.ensures.order)
    (subst (λ (ys : List Candidate). IsNextNode c.next.new.self ys k) c.as_slice.ensures.value c.in-Some.ensures.first)
    c.args.demand.size (c.in-Some.ensures.size ∙ c.requires.size) c.in_ok-placement.ensures.changed

pub choose_with_victims-requires-clause-full : goal.choose_with_victims-requires-clause-full
choose_with_victims-requires-clause-full c =
    ap (best_fit c.args.demand.size) (c.as_slice-2.ensures.value ∙ sym c.as_slice.ensures.value)
    ∙ (ap (λ (s : Resources). best_fit s c.as_slice.result.now) (sym c.requires.size)
    ∙ (sym c.next.ensures.best ∙ c.in_default.is))

pub choose_with_victims-requires-clause-ranking : goal.choose_with_victims-requires-clause-ranking
choose_with_victims-requires-clause-ranking c =
    subst (λ (ys : List Candidate). IsRanking c.args.ranking.now ys) (sym c.as_slice-2.ensures.value) c.requires.ranking

pub returns-in_default-2-clause-next : goal.returns-in_default-2-clause-next
returns-in_default-2-clause-next c =
    let none = chose c.args.demand.size c.as_slice-2.result.now c.args.candidates.now.items c.in_ok-chosen.field-0 None c.as_slice-2.ensures.value
    c.in_default-2.is c.in_ok-chosen.ensures.chosen in (
      ap (option_map (λ (ch : Choice). (
        placement_of c.args.demand ch,
        after c.args.quota.now c.args.demand.size ch (site c.args.candidates.now.items c.args.used.now),
      ))) none,
      refl,
    )

pub place_at-requires-2-clause-inside : goal.place_at-requires-2-clause-inside
place_at-requires-2-clause-inside c =
    (chose c.args.demand.size c.as_slice-2.result.now c.args.candidates.now.items c.in_ok-chosen.field-0 (Some c.in-Some-2.chosen)
    c.as_slice-2.ensures.value c.in-Some-2.is c.in_ok-chosen.ensures.chosen).0

pub place_at-requires-2-clause-chosen : goal.place_at-requires-2-clause-chosen
place_at-requires-2-clause-chosen c =
    (chose c.args.demand.size c.as_slice-2.result.now c.args.candidates.now.items c.in_ok-chosen.field-0 (Some c.in-Some-2.chosen)
    c.as_slice-2.ensures.value c.in-Some-2.is c.in_ok-chosen.ensures.chosen).1

pub returns-clause-next : goal.returns-clause-next
returns-clause-next c = c.in_ok-placement-2.ensures.placed

pub returns-clause-order : goal.returns-clause-order
returns-clause-order c =
    let xs = c.args.candidates.now.items in
    let ch = c.in-Some-2.chosen in
    let there = chose c.args.demand.size c.as_slice-2.result.now xs c.in_ok-chosen.field-0 (Some ch) c.as_slice-2.ensures.value c.in-Some-2.is
    c.in_ok-chosen.ensures.chosen in
    order_alone c.next.new.self xs c.place_at-2.new.candidates.items ch.node
    (subst (λ (ys : List Candidate). IsOrder c.next.new.self ys) c.as_slice.ensures.value c.in_default.ensures.order)
    there.0 c.in_default.ensures.first _ (c.in_ok-placement-2.ensures.changed nobody) c.add.new.self c.in_ok-add.ensures.ok
