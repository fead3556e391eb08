use Rattle.ns_blocked.specs.Waking.{is_woken}
use Rattle.ns_types.proofs.Results.{if_ok, on_ok}
use Rattle.ns_blocked.proofs.Passing.{passing_there}
use Rattle.ns_blocked.proofs.list.BlockedList.release.Goals as goal

pub take_places-requires : goal.take_places-requires
take_places-requires c = passing_there c.args.self.now (is_woken c.args.releases.now) _ c.in_ok-places.ensures

pub returns-clause-woken : goal.returns-clause-woken
returns-clause-woken c = if_ok c.take_places.result _ _ (λ keys are. are (is_woken c.args.releases.now) c.in_ok-places.ensures) c.take_places.ensures.woken

pub returns-clause-rest : goal.returns-clause-rest
returns-clause-rest c = on_ok c.take_places.result (λ left. left (is_woken c.args.releases.now) c.in_ok-places.ensures) c.take_places.ensures.rest
