use Rattle.std.proofs.Common.{◌∙◌, ℕ, List, ap, sym, subst, rules}
use Rattle.std.proofs.lemmas.Result.{IfOk-weaker}
use Rattle.std.proofs.lemmas.List.Sorted.{answers_always}
use Rattle.ns_place.specs.Order.{walk, IsOrder, nodes}
use Rattle.ns_place.proofs.Ranks.{ranks_before, ranks_order, sorted_ranks}
use Rattle.ns_place.proofs.order.in_order.Goals as goal

pub returns : goal.returns
returns c =
    let cs = c.args.candidates.now in
    let ys = c.sort_unstable_by.new.self.items in
    let sorted =
    sorted_ranks c.args.size cs c.in_ok-ranks.ranks.items ys c.in_ok-ranks.ensures c.sort_unstable_by.ensures.permutation
    (c.sort_unstable_by.ensures.sorted ranks_before ranks_order (answers_always _ _ _ (λ f a r g h. search rules))) in
    IfOk-weaker c.nodes_of.result _ _
    (λ v e. subst (λ (ns : List ℕ). IsOrder (walk c.args.size ns) cs) (sym (e ∙ ap nodes c.deref.ensures.value)) sorted) c.nodes_of.ensures
