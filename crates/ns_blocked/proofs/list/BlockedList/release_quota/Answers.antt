use Rattle.ns_blocked.specs.Waking.{wakes_of_quota}
use Rattle.ns_types.proofs.Results.{if_ok, on_ok}
use Rattle.ns_blocked.proofs.Passing.{passing_there}
use Rattle.ns_blocked.proofs.list.BlockedList.release_quota.Goals as goal

pub take_places-requires : goal.take_places-requires
take_places-requires c = passing_there c.args.self.now (wakes_of_quota c.args.quota.now) _ c.in_ok-places.ensures

pub returns-clause-woken : goal.returns-clause-woken
returns-clause-woken c = if_ok c.take_places.result _ _ (λ keys are. are (wakes_of_quota c.args.quota.now) c.in_ok-places.ensures) c.take_places.ensures.woken

pub returns-clause-rest : goal.returns-clause-rest
returns-clause-rest c = on_ok c.take_places.result (λ left. left (wakes_of_quota c.args.quota.now) c.in_ok-places.ensures) c.take_places.ensures.rest
