use Rattle.std.proofs.Common.{◌≡◌, Bor, List, Some, length, map, take, ap, sym, ◌∙◌}
use Rattle.std.specs.Option.{option_map}
use Rattle.std.proofs.lemmas.List.{length-take-le, take-map}
use Rattle.ns_types.specs.declared.snapshot.LiveAllocation.{LiveAllocation}
use Rattle.ns_types.specs.Placing.Preemption.{highest_priority}
use Rattle.ns_preempt.specs.declared.cost.Cost.{Cost}
use Rattle.ns_preempt.proofs.cost.cost_of.Goals as goal

pub returns : goal.returns
returns c =
    let n = c.in_ok-victims.victims in
    let seen = λ (a : Bor LiveAllocation). a.now in
    let few = c.in_ok-victims.ensures in
    let gone : map seen (take n c.evictable.result.now) ≡ take n c.args.candidate.now.evictable =
    sym (take-map seen n c.evictable.result.now) ∙ ap (take n) c.evictable.ensures.all in
    let highest : c.highest_priority.result ≡ highest_priority (take n c.args.candidate.now.evictable) =
    c.highest_priority.ensures ∙ ap (λ (xs : List LiveAllocation). highest_priority xs) gone in
    let count : length (take n c.args.candidate.now.evictable) ≡ n = length-take-le n c.args.candidate.now.evictable few.within in
    (λ i. Some (record { highest_priority = highest i; victims = sym count i }))
    ∙ sym (ap (option_map (λ (v : List LiveAllocation). record { highest_priority = highest_priority v; victims = length v })) few.fewest)
