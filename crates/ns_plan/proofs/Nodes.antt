-- The plan of what a valid state keeps is on nodes of the snapshot.
use Rattle.std.specs.Prelude.{◌≡◌, ℕ, ◌<◌, zero, suc, Bool, true, false, cond, List, [], ◌∷◌, Option, Some, None, is_some, length, option_map, slice_get}
use Rattle.std.specs.List.{All}
use Rattle.std.specs.Option.{option_and_then, option_map_or}
use Rattle.std.proofs.Common.{refl, ap, subst, ◌∙◌}
use Rattle.std.proofs.lemmas.List.{length-map}
use Rattle.std.proofs.lemmas.List.Elements.{All-nil, All-cons}
use Rattle.std.proofs.lemmas.List.Quantifiers.{position-Some}
use Rattle.ns_types.specs.declared.job.Job.{Job}
use Rattle.ns_types.specs.declared.plan.Demand.{Demand}
use Rattle.ns_types.specs.declared.plan.Placement.{Placement}
use Rattle.ns_types.specs.declared.resources.Resources.{Resources}
use Rattle.ns_types.specs.declared.snapshot.LiveAllocation.{LiveAllocation}
use Rattle.ns_types.specs.declared.snapshot.OwnAllocation.{OwnAllocation}
use Rattle.ns_types.specs.declared.snapshot.QuotaSeen.{QuotaSeen}
use Rattle.ns_types.specs.declared.snapshot.Snapshot.{Snapshot}
use Rattle.ns_types.specs.Placing.Choice.{best, is_unbeaten}
use Rattle.ns_types.specs.Placing.Placement.{Candidate, best_fit, better, fits}
use Rattle.ns_types.specs.Placing.Plan.{candidate_of, opening, plan, placing_of, quota_of}
use Rattle.ns_types.specs.Placing.Planning.{Choice, Site, after, choice, ended_by_quota, place, placed_on, placement_of, then_rest, update, without_one}
use Rattle.ns_types.specs.Placing.Preemption.{best_victims, cheaper, victims}
use Rattle.ns_types.specs.Placing.Wanted.{demands, stopping}
use Rattle.ns_types.specs.State.Names.{Name}
use Rattle.ns_types.specs.State.Resources.{limits_allow, plus}
use Rattle.ns_types.specs.State.Rows.{Tenant, World}
use Rattle.ns_types.specs.Validity.{IsSoundSnapshot}
use Rattle.ns_types.specs.Working.Worker.{Worker}
use Rattle.ns_types.proofs.Tests.{not_Some, same_Some}
use Rattle.ns_plan.specs.Laws.{KeptIsOnFewNodes}
use Rattle.ns_plan.specs.Looks.{IsOnFewNodes}

-- ---- the choice

best_inside : {X : Type 0} (passes : X → Bool) (beats : X → X → Bool) (xs : List X) (k : ℕ) → best passes beats xs ≡ Some k → k < length xs
best_inside passes beats [] k e = absurd (not_Some k e)
best_inside passes beats (x ∷ xs) k e = (position-Some (is_unbeaten passes beats (x ∷ xs)) (x ∷ xs) k x e).0

module _ (size : Resources) (cs : List Candidate) (ch : Choice) where
  abbrev at_place : ℕ → Option Choice
  at_place k = option_map (λ v. record { node = k; victims = v }) (option_and_then (victims size) (slice_get cs k))

  choice_inside : choice size cs ≡ Some ch → ch.node < length cs
  choice_inside e = by (best_fit size cs) refl (best_victims size cs) refl e
    where
      preempted : (k : ℕ) → k < length cs → (o : Option (List LiveAllocation)) →
          option_map (λ v. record { node = k; victims = v }) o ≡ Some ch → ch.node < length cs
      preempted k inside None e = absurd (not_Some ch e)
      preempted k inside (Some v) e = subst (λ (c : Choice). c.node < length cs) (same_Some (record { node = k; victims = v }) ch e) inside

      by : (b : Option ℕ) → best_fit size cs ≡ b → (v : Option ℕ) → best_victims size cs ≡ v →
          option_map_or (λ k. Some (record { node = k; victims = [] })) b (option_and_then at_place v) ≡ Some ch → ch.node < length cs
      by (Some k) f v g e = subst (λ (c : Choice). c.node < length cs) (same_Some (record { node = k; victims = [] }) ch e)
          (best_inside (fits size) (better size) cs k f)
      by None f (Some k) g e = preempted k
          (best_inside (λ c. is_some (victims size c)) (cheaper size) cs k g) (option_and_then (victims size) (slice_get cs k)) e
      by None f None g e = absurd (not_Some ch e)

-- ---- the plan

update_length : {X : Type 0} (i : ℕ) (f : X → X) (xs : List X) → length (update i f xs) ≡ length xs
update_length i f [] = refl
update_length zero f (x ∷ xs) = refl
update_length (suc i) f (x ∷ xs) = ap suc (update_length i f xs)

module _ (q : QuotaSeen) (n : ℕ) where
  placed_inside : (ds : List Demand) (w : Site) → length w.candidates ≡ n → All (λ p. p.node < n) (place q ds w).placements
  placed_inside [] w len = All-nil (λ (p : Placement). p.node < n)
  placed_inside (d ∷ ds) w len = by (placed_inside ds) (limits_allow q.limits (plus w.used d.size)) (choice d.size w.candidates) refl
    where
      by : ((x : Site) → length x.candidates ≡ n → All (λ p. p.node < n) (place q ds x).placements) → (b : Bool) (o : Option Choice) →
          choice d.size w.candidates ≡ o → All (λ p. p.node < n) (cond b (option_map_or (λ (s : Placement × Site). then_rest s.0 (place q ds s.1))
          (option_map (λ ch. (placement_of d ch, after q d.size ch w)) o) (without_one (place q ds w))) ended_by_quota).placements
      by rest false o e = All-nil (λ (p : Placement). p.node < n)
      by rest true None e = rest w len
      by rest true (Some ch) e = All-cons (λ (p : Placement). p.node < n) (placement_of d ch) (place q ds (after q d.size ch w)).placements
          (subst (λ m. ch.node < m) len (choice_inside d.size w.candidates ch e))
          (rest (after q d.size ch w) (update_length ch.node (placed_on d.size ch.victims) w.candidates ∙ len))

placing_inside : (kept : Snapshot) (o : Option Job) (stops : List OwnAllocation) → All (λ p. p.node < length kept.nodes) (placing_of kept o stops).placements
placing_inside kept None stops = All-nil (λ (p : Placement). p.node < length kept.nodes)
placing_inside kept (Some j) stops = placed_inside (quota_of kept) (length kept.nodes) (demands (Some j) kept.own) (opening kept j stops)
    (length-map kept.nodes (candidate_of j kept.namespace stops))

pub sound_is_on_few_nodes : (w : World) (ns : Name) (t : Tenant) (worker : Worker) (kept : Snapshot) → IsSoundSnapshot w ns t worker kept →
    IsOnFewNodes kept (plan kept)
unfolding plan
sound_is_on_few_nodes w ns t worker kept sound = record {
  few = sound.countable.few_nodes;
  once = sound.nodes_once;
  inside = placing_inside kept kept.job (stopping kept.job kept.own);
}

pub kept_is_on_few_nodes : KeptIsOnFewNodes
kept_is_on_few_nodes s ns t number worker kept valid is_tenant is_worker is_kept = sound_is_on_few_nodes s.world ns t worker kept
    (((valid.world.tenant ns t is_tenant).worker number worker is_worker).snapshot kept is_kept)
