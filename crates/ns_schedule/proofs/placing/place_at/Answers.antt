use Rattle.std.proofs.Common.{List, sym, subst, ◌∙◌}
use Rattle.ns_types.specs.Placing.Placement.{Candidate}
use Rattle.ns_preempt.specs.Ranking.{IsRankingBut}
use Rattle.ns_preempt.proofs.Ranks.{changed_alone_stay_ranked}
use Rattle.ns_schedule.specs.Chosen.{IsChosen}
use Rattle.ns_schedule.proofs.Orders.{nobody}
use Rattle.ns_schedule.proofs.Steps.{next_is, changed_at}
use Rattle.ns_schedule.proofs.placing.place_at.Goals as goal

pub returns-clause-placed : goal.returns-clause-placed
returns-clause-placed c =
    let xs = c.args.candidates.now.items in
    let ch = c.args.chosen in
    let x = c.index_mut-candidate.result.now in
    let gave = c.in_ok-given_way.given_way in
    next_is c.args.quota.now c.args.demand xs c.args.used.now gave.used ch.node ch.victims x c.give_way.new.candidate
    gave.evictions c.requires.inside c.index_mut-candidate.ensures.value
    (subst (λ (z : Candidate). IsChosen c.args.demand.size xs ch.node ch.victims z) (sym c.index_mut-candidate.ensures.value) (c.requires.chosen x))
    c.in_ok-given_way.ensures.evictions c.in_ok-given_way.ensures.used c.in_ok-given_way.ensures.placed

pub returns-clause-changed : goal.returns-clause-changed
returns-clause-changed c =
    changed_at c.args.demand.size c.args.candidates.now.items c.args.chosen.node c.args.chosen.victims c.index_mut-candidate.result.now
    c.give_way.new.candidate c.requires.inside c.index_mut-candidate.ensures.value c.in_ok-given_way.ensures.placed

pub add-requires-clause-others : goal.add-requires-clause-others
add-requires-clause-others c =
    let xs = c.args.candidates.now.items in
    let ch = c.args.chosen in
    let x = c.index_mut-candidate.result.now in
    let changed = changed_at c.args.demand.size xs ch.node ch.victims x c.give_way.new.candidate c.requires.inside
    c.index_mut-candidate.ensures.value c.in_ok-given_way.ensures.placed in
    subst (λ (ys : List Candidate). IsRankingBut ch.node c.args.ranking.now ys) (sym (c.as_slice.ensures.value ∙ changed nobody))
    (changed_alone_stay_ranked c.args.ranking.now xs ch.node _ c.requires.ranking)
