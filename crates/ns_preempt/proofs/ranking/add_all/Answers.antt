use Rattle.std.proofs.Common.{arith}
use Rattle.ns_preempt.proofs.Ranks.{one_more}
use Rattle.ns_preempt.proofs.ranking.add_all.Goals as goal

pub loop-i-preserved : goal.loop-i-preserved
loop-i-preserved c =
    one_more c.args.size c.args.candidates.now c.loop-i.i c.index-candidates-i.result c.loop-i.ranks c.add.new.ranks
    c.loop-i-test.true c.index-candidates-i.is c.in_ok-add.ensures c.loop-i.invariant

pub returns : goal.returns
returns c = λ q is. let inside = is.inside in c.loop-i.invariant q (omega (arith, inside)) is
