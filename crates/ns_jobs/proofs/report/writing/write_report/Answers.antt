use Rattle.std.specs.Prelude.{◌≡◌}
use Rattle.std.proofs.Common.{ap, sym, subst, ◌∙◌}
use Rattle.ns_types.specs.Asking.Nodes.{reported}
use Rattle.ns_types.specs.Settling.Making.{change_tenant, make, with_client}
use Rattle.ns_tables.specs.World.{tenant_of, world_of}
use Rattle.ns_change.specs.Changed.{HasEvaluationLeft}
use Rattle.ns_change.proofs.Prepares.{done_as}
use Rattle.ns_jobs.proofs.Prepared.{there}
use Rattle.ns_jobs.proofs.Written.{left_there, marked_alone, marked_made}
use Rattle.ns_jobs.proofs.report.writing.write_report.Goals as goal

pub make-requires : goal.make-requires
make-requires c =
    let r = c.args.report.now in
    let w = world_of c.args.tables.now in
    let key_is : c.new-key.result ≡ (r.namespace, r.number) = c.new-key.ensures ∙ (λ j. (c.in_ok-clone.ensures.cases j, r.number)) in
    subst (λ w. HasEvaluationLeft w r.namespace)
    (sym (c.in_ok-set_client.ensures ∙ (λ i. change_tenant (key_is i).0 (with_client (key_is i).1 r.client) (c.requires.first i))))
    (left_there w r (tenant_of c.args.tenant.now) (there c.args.tables.now r.namespace c.args.tenant.now c.requires.tenant) c.args.row.now
    (sym c.calls_for_one.ensures ∙ c.if-not-calls_for_one.false) c.requires.number)

pub returns-then-not-calls_for_one : goal.returns-then-not-calls_for_one
returns-then-not-calls_for_one c =
    let r = c.args.report.now in
    let w = world_of c.args.tables.now in
    let key_is : c.new-key.result ≡ (r.namespace, r.number) = c.new-key.ensures ∙ (λ j. (c.in_ok-clone.ensures.cases j, r.number)) in
    c.in_ok-set_client.ensures ∙ (λ i. change_tenant (key_is i).0 (with_client (key_is i).1 r.client) (c.requires.first i))
    ∙ marked_alone w r (tenant_of c.args.tenant.now) (there c.args.tables.now r.namespace c.args.tenant.now c.requires.tenant) c.args.row.now
    (sym c.calls_for_one.ensures ∙ c.if-not-calls_for_one.true)
    ∙ ap (reported r c.args.row.now) (sym c.requires.first)

pub returns : goal.returns
returns c =
    let r = c.args.report.now in
    let w = world_of c.args.tables.now in
    let key_is : c.new-key.result ≡ (r.namespace, r.number) = c.new-key.ensures ∙ (λ j. (c.in_ok-clone.ensures.cases j, r.number)) in
    let marked = c.in_ok-set_client.ensures ∙ (λ i. change_tenant (key_is i).0 (with_client (key_is i).1 r.client) (c.requires.first i)) in
    done_as c.make.result c.args.tables.now c.make.new.change _ _
    ((λ i. make r.namespace (λ _. c.in_ok-evaluation.ensures i) (marked i))
    ∙ marked_made w r (tenant_of c.args.tenant.now) (there c.args.tables.now r.namespace c.args.tenant.now c.requires.tenant) c.args.row.now
    (sym c.calls_for_one.ensures ∙ c.if-not-calls_for_one.false)
    ∙ ap (reported r c.args.row.now) (sym c.requires.first)) c.make.ensures
