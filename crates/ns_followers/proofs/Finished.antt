-- What a finish comes to, in the order in which the change is made.
use Rattle.std.specs.Prelude.{◌≡◌, ℕ, ◌+◌, Bool, true, false, cond, Some, None}
use Rattle.std.proofs.Common.{ap, sym, ◌∙◌}
use Rattle.std.specs.Option.{option_map_or}
use Rattle.std.specs.FinMap.{get, insert}
use Rattle.ns_types.specs.declared.evaluation.Evaluation.{Evaluation}
use Rattle.ns_types.specs.declared.reply.Content.TheVariants as Content
use Rattle.ns_types.specs.declared.snapshot.Snapshot.{Snapshot}
use Rattle.ns_types.specs.Settling.Making.{change_tenant, put_tenant}
use Rattle.ns_types.specs.Settling.Settle.{pending}
use Rattle.ns_types.proofs.Named.{names, one_name}
use Rattle.ns_types.proofs.TableRows.{get_put}
use Rattle.ns_types.specs.Settling.Outcome.{Outcome, Done}
use Rattle.ns_types.specs.Settling.Releases.{missed}
use Rattle.ns_types.specs.State.Names.{Name}
use Rattle.ns_types.specs.State.Rows.{World, Tenant, is_blocked}
use Rattle.ns_types.specs.Working.Queue.{promote}
use Rattle.ns_types.specs.Working.Work.{end_of, ended, finished, followed, follower_of, needs_follower, tied_to, with_follower, without_blocked}
use Rattle.ns_types.specs.Working.Worker.{Worker}
use Rattle.ns_change.specs.Changed.{unlist_blocked, with_blocked_key}
use Rattle.ns_followers.specs.Ending.{Ended, ended_alone, ended_as, ended_followed, ended_in, followed_as, listed_if}
use Rattle.ns_followers.specs.Following.{made_follower}
use Rattle.ns_followers.proofs.Numbered.{ended_stays, tenants_stay}
use Rattle.ns_types.proofs.Gone.{insert_twice}
use Rattle.ns_types.proofs.Bounds.{tied_number}

-- the end of that worker's evaluation
abbrev pub end_by : ℕ → Name → Worker → Evaluation → Ended
end_by number ns worker e = record { worker = number; key = (ns, worker.evaluation); job = e.job; status = end_of worker }

module _ (number : ℕ) (ns : Name) (w : World) (t : Tenant) (worker : Worker) (e : Evaluation) (kept : Snapshot) (is : get w.tenants ns ≡ Some t) where
  abbrev ending : Ended
  ending = end_by number ns worker e

  abbrev after : World
  after = put_tenant ns (ended number worker e (end_of worker) t) (without_blocked ns e.job t w)

  -- the evaluation has ended
  pub ends_in : ended_in ending w ≡ after
  ends_in =
      let f = ended_as ending in
      let x = unlist_blocked ns e.job w in
      let same : x ≡ without_blocked ns e.job t w = ap (λ o. option_map_or (λ t. without_blocked ns e.job t w) o w) is in
      ap (λ o. option_map_or (λ t. put_tenant ns (f t) x) o x) (ap (λ m. get m ns) (tenants_stay ns e.job w) ∙ is)
      ∙ ap (put_tenant ns (f t)) same

  abbrev follower : Evaluation
  follower = follower_of e worker kept

  abbrev late : Bool
  late = missed w kept follower

  -- as it is made
  abbrev made : Evaluation
  made = made_follower w e worker kept

  abbrev with_one : Outcome World
  with_one = Done (Content.Finished (end_of worker) (Some (t.evaluation_number + 1)))
      (promote ns e.job (followed ns worker follower (ended number worker e (end_of worker) t) late (without_blocked ns e.job t w)))

  abbrev with_none : Outcome World
  with_none = Done (Content.Finished (end_of worker) None) (promote ns e.job after)

  -- without a follower
  pub ends_alone : needs_follower worker kept ≡ false → finished number ns w t worker e kept
      ≡ Done (Content.Finished (end_of worker) None) (ended_alone ending w)
  ends_alone none = ap (λ b. cond b with_one with_none) none
      ∙ ap (λ x. Done (Content.Finished (end_of worker) None) (promote ns e.job x)) (sym ends_in)

  tie_is : (u : Tenant) (x : World) (row : Evaluation) →
      change_tenant ns (followed_as worker.evaluation (u.evaluation_number + 1) row) (put_tenant ns u x)
      ≡ put_tenant ns (with_follower worker.evaluation row u) x
  tie_is u x row =
      let n = worker.evaluation in
      let k = u.evaluation_number + 1 in
      let f = followed_as n k row in
      ap (λ o. option_map_or (λ t. put_tenant ns (f t) (put_tenant ns u x)) o (put_tenant ns u x)) (get_put names one_name x.tenants ns u)
      ∙ (λ i. record x { tenants = insert_twice names one_name x.tenants ns u (f u) i })
      ∙ (λ i. put_tenant ns (record (tied_to n k u) {
        evaluation_number = tied_number n k u i + 1;
        evaluations = insert (tied_to n k u).evaluations (tied_number n k u i + 1) row;
      }) x)

  follows_in : (u : Tenant) (x : World) (b : Bool) →
      let row = cond b (pending follower) follower in
      followed ns worker follower u b x ≡ listed_if (is_blocked row.status) (ns, u.evaluation_number + 1)
      (change_tenant ns (followed_as worker.evaluation (u.evaluation_number + 1) row) (put_tenant ns u x))
  follows_in u x true = sym (tie_is u x (pending follower))
  follows_in u x false = ap (with_blocked_key (ns, u.evaluation_number + 1)) (sym (tie_is u x follower))

  -- the follower is there
  pub follows : followed ns worker follower (ended number worker e (end_of worker) t) late (without_blocked ns e.job t w)
      ≡ listed_if (is_blocked made.status) (ns, t.evaluation_number + 1)
      (change_tenant ns (followed_as worker.evaluation (t.evaluation_number + 1) made) (ended_in ending w))
  follows =
      let number_is : (ended number worker e (end_of worker) t).evaluation_number ≡ t.evaluation_number = ended_stays ending t in
      follows_in (ended number worker e (end_of worker) t) (without_blocked ns e.job t w) late
      ∙ (λ i. listed_if (is_blocked made.status) (ns, number_is i + 1)
      (change_tenant ns (followed_as worker.evaluation (number_is i + 1) made) (sym ends_in i)))

  -- with a follower, which is pending where it missed a release
  pub ends_followed : needs_follower worker kept ≡ true → finished number ns w t worker e kept
      ≡ Done (Content.Finished (end_of worker) (Some (t.evaluation_number + 1)))
      (ended_followed ending (t.evaluation_number + 1) made w)
  ends_followed some = ap (λ b. cond b with_one with_none) some
      ∙ ap (λ x. Done (Content.Finished (end_of worker) (Some (t.evaluation_number + 1))) (promote ns e.job x)) follows
