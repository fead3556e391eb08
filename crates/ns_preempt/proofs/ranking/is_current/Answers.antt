use Rattle.std.proofs.Common.{◌≡◌, ◌<◌, ◌∙◌, ap, arith, length, sym, true}
use Rattle.std.specs.Ordering.{is_eq}
use Rattle.ns_preempt.specs.Ranking.{compare_ranks}
use Rattle.ns_preempt.proofs.Ranks.{is_still, was_so}
use Rattle.ns_preempt.proofs.ranking.is_current.Goals as goal

pub returns-in-Some-clause-yes : goal.returns-in-Some-clause-yes
returns-in-Some-clause-yes c = λ yes.
    let outside = c.if-rank-candidates.false in
    let inside : c.args.rank.now.node < length c.args.candidates.now = omega (arith, outside) in
    let tie : is_eq (compare_ranks c.args.rank.now c.in-Some.now) ≡ true = sym (c.is_eq.ensures ∙ ap is_eq c.cmp.ensures) ∙ yes in
    is_still c.args.size c.args.candidates.now c.index-candidates-rank.result c.args.rank.now c.in-Some.now c.index-candidates-rank.is c.in-Some.ensures.0
    c.in-Some.ensures.1 inside tie

pub returns-in-Some-clause-no : goal.returns-in-Some-clause-no
returns-in-Some-clause-no c = λ is.
    c.is_eq.ensures ∙ ap is_eq c.cmp.ensures
    ∙ was_so c.args.size c.args.candidates.now c.index-candidates-rank.result c.args.rank.now c.in-Some.now c.index-candidates-rank.is c.in-Some.ensures.0
    c.in-Some.ensures.1 is
