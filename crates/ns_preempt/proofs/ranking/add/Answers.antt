use Rattle.ns_preempt.proofs.Ranks.{rank_added}
use Rattle.ns_preempt.proofs.ranking.add.Goals as goal

pub returns-in_ok-insert : goal.returns-in_ok-insert
returns-in_ok-insert c =
    rank_added c.args.size c.args.node c.args.candidate.now c.args.ranks.now c.insert.new.self c.in-Some.rank
    c.in-Some.ensures.0 c.in-Some.ensures.1 c.in_ok-insert.ensures.updates
