-- What a nack comes to.
use Rattle.std.specs.Prelude.{◌≡◌, ℕ, ◌+◌, Bool, true, false, cond, Some, None, nat_le}
use Rattle.std.proofs.Common.{ap, sym, ◌∙◌}
use Rattle.std.specs.Option.{option_map_or}
use Rattle.ns_types.specs.declared.evaluation.Evaluation.{Evaluation}
use Rattle.ns_types.specs.declared.evaluation.Status.TheVariants as Status
use Rattle.ns_types.specs.declared.reply.Content.TheVariants as Content
use Rattle.ns_types.specs.Working.Worker.{Worker}
use Rattle.ns_types.proofs.Named.{numbers, one_number}
use Rattle.ns_types.proofs.TableRows.{get_put}
use Rattle.ns_types.specs.Settling.Making.{put_tenant, with_status}
use Rattle.ns_types.specs.Settling.Outcome.{Outcome, NotEnabled, Done}
use Rattle.ns_types.specs.State.Names.{Name}
use Rattle.ns_types.specs.State.Rows.{World, Tenant, evaluation_at}
use Rattle.ns_types.specs.Working.Looks.{worker_at}
use Rattle.ns_types.specs.Working.Queue.{promote}
use Rattle.ns_types.specs.Working.Work.{given_back, given_up, is_submitted, most_nacks, nack, nack_for, with_nack, without_worker}
use Rattle.ns_broker.proofs.AtWork.{no_evaluation, no_worker, works}
use Rattle.ns_broker.specs.Nacking.{failed, left, nacked, put_away, put_back}
use Rattle.ns_change.specs.Changed.{put_evaluation, with_ready}
use Rattle.ns_types.proofs.Gone.{insert_twice}

module _ (number : ℕ) (ns : Name) (w : World) where
  module _ (worker : Worker) (e : Evaluation) (has : worker_at w number ns ≡ Some worker) (at : evaluation_at w (ns, worker.evaluation) ≡ Some e) where
    abbrev ends : Tenant → Bool → Outcome World
    ends t third =
        let t' = with_nack worker.evaluation e t in
        cond third (given_up number ns w t' worker e) (given_back number ns w t' worker)

    pub plan_waits : is_submitted worker.phase ≡ true → nack number ns w ≡ NotEnabled
    unfolding nack
    plan_waits is = works number ns w worker e has at (nack_for number ns w) NotEnabled
        (λ t there. ap (λ b. cond b NotEnabled (ends t (nat_le most_nacks (e.nacks + 1)))) is)

    pub comes_back : is_submitted worker.phase ≡ false → nat_le most_nacks (e.nacks + 1) ≡ false →
        nack number ns w ≡ Done (Content.Nacked Status.Pending) (put_back number ns worker.evaluation e w)
    unfolding nack
    comes_back is few = works number ns w worker e has at (nack_for number ns w) _
        (λ t there. ap (λ b. cond b NotEnabled (ends t (nat_le most_nacks (e.nacks + 1)))) is
        ∙ ap (ends t) few
        ∙ ap (λ o. Done (Content.Nacked Status.Pending) (with_ready (ns, worker.evaluation)
        (option_map_or (λ t. put_tenant ns (left number worker.evaluation (nacked e) t) w) o w))) (sym there))

    failed_is : (t : Tenant) → with_status worker.evaluation Status.Failed (without_worker number (with_nack worker.evaluation e t))
        ≡ left number worker.evaluation (failed e) t
    failed_is t =
        let x = without_worker number (with_nack worker.evaluation e t) in
        ap (λ o. option_map_or (λ e. put_evaluation worker.evaluation (record e { status = Status.Failed }) x) o x)
        (get_put numbers one_number t.evaluations worker.evaluation (nacked e))
        ∙ (λ i. record x { evaluations = insert_twice numbers one_number t.evaluations worker.evaluation (nacked e) (failed e) i })

    pub is_put_away : is_submitted worker.phase ≡ false → nat_le most_nacks (e.nacks + 1) ≡ true →
        nack number ns w ≡ Done (Content.Nacked Status.Failed) (put_away number ns worker.evaluation e w)
    unfolding nack
    is_put_away is third = works number ns w worker e has at (nack_for number ns w) _
        (λ t there. ap (λ b. cond b NotEnabled (ends t (nat_le most_nacks (e.nacks + 1)))) is
        ∙ ap (ends t) third
        ∙ ap (λ y. Done (Content.Nacked Status.Failed) (promote ns e.job (put_tenant ns y w))) (failed_is t)
        ∙ ap (λ o. Done (Content.Nacked Status.Failed) (promote ns e.job
        (option_map_or (λ t. put_tenant ns (left number worker.evaluation (failed e) t) w) o w))) (sym there))

  pub none_to_nack : worker_at w number ns ≡ None → nack number ns w ≡ NotEnabled
  unfolding nack
  none_to_nack is = no_worker number ns w (nack_for number ns w) is

  pub nothing_to_nack : (worker : Worker) → worker_at w number ns ≡ Some worker → evaluation_at w (ns, worker.evaluation) ≡ None → nack number ns w ≡ NotEnabled
  unfolding nack
  nothing_to_nack worker has is = no_evaluation number ns w (nack_for number ns w) worker has is
