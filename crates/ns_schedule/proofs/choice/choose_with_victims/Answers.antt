use Rattle.std.proofs.Common.{sym, ◌∙◌}
use Rattle.ns_schedule.proofs.Victims.{chosen_with_victims, has_victims}
use Rattle.ns_schedule.proofs.choice.choose_with_victims.Goals as goal

pub returns-in-Some-victims-clause-chosen : goal.returns-in-Some-victims-clause-chosen
returns-in-Some-victims-clause-chosen c =
    chosen_with_victims c.args.size c.args.candidates.now c.in-Some.node c.requires.full (sym c.in_ok-node.ensures.best ∙ c.in-Some.is)
    c.in-Some-victims.victims c.index-candidates-node.result c.index-candidates-node.is c.in-Some-victims.ensures

pub returns-in-None-clause-chosen : goal.returns-in-None-clause-chosen
returns-in-None-clause-chosen c =
    absurd (has_victims c.args.size c.args.candidates.now c.in-Some.node (sym c.in_ok-node.ensures.best ∙ c.in-Some.is)
    c.index-candidates-node.result c.index-candidates-node.is c.in-None.ensures)

pub returns-in-None-clause-ranking : goal.returns-in-None-clause-ranking
returns-in-None-clause-ranking c =
    absurd (has_victims c.args.size c.args.candidates.now c.in-Some.node (sym c.in_ok-node.ensures.best ∙ c.in-Some.is)
    c.index-candidates-node.result c.index-candidates-node.is c.in-None.ensures)
