use Rattle.std.proofs.lemmas.Result.{IfOk-weaker}
use Rattle.ns_preempt.proofs.Ranks.{added_again}
use Rattle.ns_preempt.proofs.ranking.Ranking.add.Goals as goal

pub returns-in-Some : goal.returns-in-Some
returns-in-Some c =
    let ranking = c.args.self.now in
    let x = c.index-candidates-node.result in
    IfOk-weaker c.add.result _ _ (λ _ more. added_again ranking.size c.in-Some.size c.args.candidates.now c.args.node x ranking.ranks c.add.new.ranks
    c.in-Some.is c.requires.inside c.index-candidates-node.is c.requires.others more) c.add.ensures
