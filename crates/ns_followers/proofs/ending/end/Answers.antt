use Rattle.std.proofs.Common.{ap, ◌∙◌}
use Rattle.ns_types.specs.Settling.Making.{change_tenant, with_status}
use Rattle.ns_types.specs.Working.Work.{cancel_blocked, without_worker}
use Rattle.ns_change.specs.Changed.{unlist_blocked, view}
use Rattle.ns_change.proofs.Prepares.{done_as}
use Rattle.ns_change.proofs.Twice.{changed_twice}
use Rattle.ns_followers.proofs.ending.end.Goals as goal

pub returns : goal.returns
returns c =
    let ending = c.args.ending.now in
    let ns = ending.key.now.0 in
    let job = ending.job.now in
    let before = view c.args.tables.now c.args.change.now in
    let w = unlist_blocked ns job before in
    let idle = without_worker ending.worker in
    let status = with_status ending.key.now.1 ending.status in
    let named = c.namespace-namespace.ensures in
    done_as c.cancel_blocked.result c.args.tables.now c.cancel_blocked.new.change _ _
    ((λ i. change_tenant (named i) (cancel_blocked job) (c.in_ok-set_status.ensures i))
    ∙ (λ i. change_tenant ns (cancel_blocked job) (change_tenant ns status (c.in_ok-remove_worker.ensures i)))
    ∙ (λ i. change_tenant ns (cancel_blocked job) (change_tenant ns status (change_tenant (named i) idle (c.in_ok-unlist_blocked.ensures i))))
    ∙ (λ i. change_tenant ns (cancel_blocked job) (change_tenant ns status (change_tenant ns idle (unlist_blocked (named i) job before))))
    ∙ ap (change_tenant ns (cancel_blocked job)) (changed_twice ns status idle w)
    ∙ changed_twice ns (cancel_blocked job) (λ t. status (idle t)) w)
    c.cancel_blocked.ensures
