-- What a report comes to, test by test.
use Rattle.std.specs.Prelude.{◌≡◌, true, false, not, if◌then◌else◌, Option, Some, None, is_some}
use Rattle.std.proofs.Common.{refl, ap, ◌∙◌}
use Rattle.std.specs.Option.{option_and_then}
use Rattle.std.specs.FinMap.{get}
use Rattle.ns_types.specs.declared.allocation.Allocation.{Allocation}
use Rattle.ns_types.specs.declared.refusal.Refusal.{Refusal}
use Rattle.ns_types.specs.declared.reply.Content.{Content}
use Rattle.ns_types.specs.declared.step.NodeCommand.{NodeCommand}
use Rattle.ns_types.specs.declared.step.Report.{Report}
use Rattle.ns_types.specs.Asking.Nodes.{ask_pool, is_on, may_become, report_of, reported, same_client}
use Rattle.ns_types.specs.Settling.Outcome.{Outcome, Done, Refused, found, unless}
use Rattle.ns_types.specs.State.Names.{Name}
use Rattle.ns_types.specs.State.Rows.{World, PoolRows, Tenant, allocation_at, node_at}
use Rattle.ns_types.specs.Steps.{is_past_bound}
use Rattle.ns_types.proofs.Lists.{not_both}
use Rattle.ns_types.proofs.Outcomes.{found_absent, found_there, unless_not, unless_so}
use Rattle.ns_types.proofs.Settling.{settle_same}
use Rattle.ns_change.specs.Prepared.{bounded}
use Rattle.ns_change.proofs.Bounded.{done_still, refused_full, still_refused}
use Rattle.ns_jobs.specs.Reporting.{report_passes}
use Rattle.ns_jobs.proofs.ReportPast.{reported_past}

-- ---- the allocation

module _ (w : World) (pool name : Name) (r : Report) where
  abbrev command : NodeCommand
  command = NodeCommand.Report name r

  abbrev goes : Option Allocation → Outcome World
  goes o = found o (λ a. unless (not (is_on pool name a)) Refusal.NotFound (report_of r w a))

  abbrev asked : Option PoolRows → Outcome World
  asked o = found o (λ p. found (get p.nodes name) (λ _. goes (allocation_at w (r.namespace, r.number))))

  pub nowhere : is_some (node_at w pool name) ≡ false → bounded w (ask_pool pool command w) ≡ Refused Refusal.NotFound
  unfolding ask_pool
  nowhere none = still_refused w _ Refusal.NotFound (by (get w.pools pool) none)
    where
      by : (o : Option PoolRows) → is_some (option_and_then (λ p. get p.nodes name) o) ≡ false → asked o ≡ Refused Refusal.NotFound
      by None none = refl
      by (Some p) none = found_absent (get p.nodes name) _ none

  module _ (node : is_some (node_at w pool name) ≡ true) where
    asks : ask_pool pool command w ≡ goes (allocation_at w (r.namespace, r.number))
    unfolding ask_pool
    asks = by (get w.pools pool) node
      where
        by : (o : Option PoolRows) → is_some (option_and_then (λ p. get p.nodes name) o) ≡ true → asked o ≡ goes (allocation_at w (r.namespace, r.number))
        by None there = not_both there refl
        by (Some p) there = found_there (get p.nodes name) _ there

    pub no_namespace : get w.tenants r.namespace ≡ None → bounded w (ask_pool pool command w) ≡ Refused Refusal.NotFound
    no_namespace none = still_refused w _ Refusal.NotFound (asks ∙ ap (λ o. goes (option_and_then (λ (t : Tenant). get t.allocations r.number) o)) none)

    module _ (t : Tenant) (at : get w.tenants r.namespace ≡ Some t) where
      goes_in : ask_pool pool command w ≡ goes (get t.allocations r.number)
      goes_in = asks ∙ ap (λ o. goes (option_and_then (λ (t : Tenant). get t.allocations r.number) o)) at

      pub no_allocation : get t.allocations r.number ≡ None → bounded w (ask_pool pool command w) ≡ Refused Refusal.NotFound
      no_allocation none = still_refused w _ Refusal.NotFound (goes_in ∙ ap goes none)

      module _ (a : Allocation) (there : get t.allocations r.number ≡ Some a) where
        pub elsewhere : is_on pool name a ≡ false → bounded w (ask_pool pool command w) ≡ Refused Refusal.NotFound
        elsewhere other = still_refused w _ Refusal.NotFound (goes_in ∙ ap goes there ∙ unless_so (not (is_on pool name a)) _ _ (ap not other))

        pub on_it : is_on pool name a ≡ true → bounded w (ask_pool pool command w) ≡ bounded w (report_of r w a)
        on_it on = ap (bounded w) (goes_in ∙ ap goes there ∙ unless_not (not (is_on pool name a)) _ _ (ap not on))

-- ---- its status

module _ (w : World) (r : Report) (a : Allocation) (within : is_past_bound w ≡ false) where
  abbrev Comes : Outcome World → Type 0
  Comes outcome = bounded w (report_of r w a) ≡ outcome

  pub again : same_client a.client r.client ≡ true → Comes (Done Content.Written w)
  again same = done_still w _ Content.Written w
      (ap (λ b. if b then Done Content.Written w
      else unless (not (may_become a.client r.client)) Refusal.Conflict (Done Content.Written (reported r a w))) same)
      (ap is_past_bound (settle_same w) ∙ within)

  module _ (other : same_client a.client r.client ≡ false) where
    report_is : report_of r w a ≡ unless (not (may_become a.client r.client)) Refusal.Conflict (Done Content.Written (reported r a w))
    report_is = ap (λ b. if b then Done Content.Written w
        else unless (not (may_become a.client r.client)) Refusal.Conflict (Done Content.Written (reported r a w))) other

    pub never : may_become a.client r.client ≡ false → Comes (Refused Refusal.Conflict)
    never not_so = still_refused w _ Refusal.Conflict (report_is ∙ unless_so (not (may_become a.client r.client)) _ _ (ap not not_so))

    module _ (may : may_become a.client r.client ≡ true) where
      reports : report_of r w a ≡ Done Content.Written (reported r a w)
      reports = report_is ∙ unless_not (not (may_become a.client r.client)) _ _ (ap not may)

      module _ (t : Tenant) (at : get w.tenants r.namespace ≡ Some t) (there : get t.allocations r.number ≡ Some a) where
        pub full : report_passes w t a r.client ≡ true → Comes (Refused Refusal.Full)
        full past = refused_full w _ Content.Written (reported r a w) reports (reported_past w r t at a there other within ∙ past)

        pub written : report_passes w t a r.client ≡ false → Comes (Done Content.Written (reported r a w))
        written fits = done_still w _ Content.Written (reported r a w) reports (reported_past w r t at a there other within ∙ fits)
