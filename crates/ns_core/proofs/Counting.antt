-- Of a job that is registered or deregistered: the bound of a counter is passed exactly where the namespace's next numbers pass it.
use Rattle.std.specs.Prelude.{◌≡◌, ◌+◌, ◌≤◌, Bool, true, false, cond, Option, Some, None}
use Rattle.std.proofs.Common.{refl, sym, ap, arith}
use Rattle.std.specs.Option.{option_map_or}
use Rattle.std.specs.FinMap.{get}
use Rattle.ns_types.specs.declared.evaluation.Evaluation.{Evaluation}
use Rattle.ns_types.specs.declared.refusal.Refusal.{Refusal}
use Rattle.ns_types.specs.declared.reply.Content.{Content}
use Rattle.ns_types.specs.declared.step.AskCommand.{AskCommand}
use Rattle.ns_types.specs.Asking.Asks.{ask, asked_in}
use Rattle.ns_types.specs.Settling.Outcome.{Outcome, Done, NotEnabled, Refused, is_done}
use Rattle.ns_types.specs.Settling.Settle.{settle}
use Rattle.ns_types.specs.State.Names.{Name}
use Rattle.ns_types.specs.State.Rows.{State, Tenant, World}
use Rattle.ns_types.specs.Steps.{is_past_bound}
use Rattle.ns_types.proofs.Lists.{not_both}
use Rattle.ns_change.specs.Prepared.{bounded}
use Rattle.ns_jobs.specs.Counted.{counted, counted_ask, passes_bound, passes_in, writes_jobs}
use Rattle.ns_jobs.specs.Read.{only_reads}
use Rattle.ns_jobs.proofs.Past.{counting_is, jobs_fit}
use Rattle.ns_types.specs.Validity.{IsValid}
use Rattle.ns_core.proofs.Keeping.{within}

writes : (command : AskCommand) → writes_jobs command ≡ true → only_reads command ≡ false
writes (AskCommand.Register r) jobs = refl
writes (AskCommand.Deregister id purge) jobs = refl
writes _ jobs = not_both jobs refl

module _ (s : State) (valid : IsValid s) (ns : Name) where
  -- no evaluation has the namespace's next number
  none_next : (t : Tenant) → get s.world.tenants ns ≡ Some t → get t.evaluations (t.evaluation_number + 1) ≡ None
  none_next t is = by (get t.evaluations (t.evaluation_number + 1)) refl
    where
      by : (o : Option Evaluation) → get t.evaluations (t.evaluation_number + 1) ≡ o → o ≡ None
      by None at = refl
      by (Some e) at = absurd (let over : t.evaluation_number + 1 ≤ t.evaluation_number =
          ((valid.world.tenant ns t is).evaluation (t.evaluation_number + 1) e at).below in omega arith)

  module _ (command : AskCommand) (jobs : writes_jobs command ≡ true) where
    counts_in : (t : Tenant) (content : Content) (w' : World) → get s.world.tenants ns ≡ Some t → ask ns command s.world ≡ Done content w' →
        (b : Bool) → passes_bound t ≡ b → is_past_bound (settle s.world w') ≡ b
    counts_in t content w' is done true passes = counting_is s.world ns command t content w' (writes command jobs) is (none_next t is) passes done
    counts_in t content w' is done false passes = jobs_fit s.world ns command t content w' jobs is (within s valid) passes done

    nowhere : get s.world.tenants ns ≡ None → ask ns command s.world ≡ Refused Refusal.NotFound
    unfolding ask
    nowhere is = ap (λ o. option_map_or (asked_in ns command s.world) o (Refused Refusal.NotFound)) is

    past : (content : Content) (w' : World) → ask ns command s.world ≡ Done content w' → is_past_bound (settle s.world w') ≡ passes_in s.world ns
    past content w' done = by (get s.world.tenants ns) refl
      where
        by : (o : Option Tenant) → get s.world.tenants ns ≡ o → is_past_bound (settle s.world w') ≡ option_map_or passes_bound o false
        by None is = not_both (ap is_done done) (ap is_done (nowhere is))
        by (Some t) is = counts_in t content w' is done (passes_bound t) refl

    pub counts : counted_ask ns command s.world ≡ bounded s.world (ask ns command s.world)
    counts = by (ask ns command s.world) (passes_in s.world ns) past
      where
        by : (o : Outcome World) (p : Bool) → ((content : Content) (w' : World) → o ≡ Done content w' → is_past_bound (settle s.world w') ≡ p) →
            counted p o ≡ bounded s.world o
        by NotEnabled true is = refl
        by NotEnabled false is = refl
        by (Refused refusal) true is = refl
        by (Refused refusal) false is = refl
        by (Done content w') true is = sym (ap (λ b. cond b (Refused Refusal.Full) (Done content w')) (is content w' refl))
        by (Done content w') false is = sym (ap (λ b. cond b (Refused Refusal.Full) (Done content w')) (is content w' refl))
