use Rattle.std.proofs.Common.{◌-◌, ◌≤◌, ◌∙◌, ℕ, Bor, List, ap, filter, map, nat_lt, refl, reverse, rules, subst, sym}
use Rattle.std.proofs.lemmas.List.Sorted.{All-permutation, IsNonDecreasingBy-from_sort_by_key, IsPermutation-reverse, answers_always}
use Rattle.ns_types.specs.declared.snapshot.LiveAllocation.{LiveAllocation}
use Rattle.ns_preempt.proofs.Levels.{each_of_all, no_levels, sorted_is_levels}
use Rattle.ns_preempt.proofs.order.evictable.Goals as goal

pub returns-then-least_priority-saturating_sub : goal.returns-then-least_priority-saturating_sub
returns-then-least_priority-saturating_sub c =
    let key = λ (a : LiveAllocation). a.priority in
    let live = c.args.live.now in
    let least = c.least_priority.result in
    let above = All-permutation (λ (a : LiveAllocation). least ≤ a.priority) live (reverse live) (IsPermutation-reverse live) c.least_priority.ensures in
    ap (map (λ (a : Bor LiveAllocation). a.now)) c.new.ensures.items
    ∙ sym (no_levels key (c.args.priority - 9) least (reverse live)
    (subst (λ n. n ≤ least) c.saturating_sub.ensures c.if-least_priority-saturating_sub.true)
    (each_of_all (λ (a : LiveAllocation). least ≤ a.priority) (reverse live) above))

pub returns : goal.returns
returns c =
    let seen = λ (a : Bor LiveAllocation). a.now in
    let key = λ (a : LiveAllocation). a.priority in
    let at = λ (a : Bor LiveAllocation) (p : ℕ). record a { now = record a.now { priority = p } } in
    let up = IsNonDecreasingBy-from_sort_by_key (λ (a : Bor LiveAllocation). a.now.priority) c.sort_by_key.new.self.items
    c.in_ok-sort_by_key.ensures.sorted (λ a r q k. search rules) in
    let stable = c.sort_by_key.ensures.stable (λ a. a.now.priority) (answers_always _ _ _ (λ f a r g h. search rules)) in
    let evicted = λ (live : List LiveAllocation). filter (λ a. nat_lt a.priority (c.args.priority - 9)) (reverse live) in
    let order = c.in_ok-order.ensures ∙ ap evicted c.as_slice.ensures in
    sorted_is_levels key seen at (λ a p. refl) (c.args.priority - 9) c.in_ok-order.order.items c.sort_by_key.new.self.items (reverse c.args.live.now)
    order c.sort_by_key.ensures.permutation up stable
