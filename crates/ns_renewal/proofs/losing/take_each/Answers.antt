use Rattle.std.proofs.Common.{◌≡◌, ◌++◌, ◌+◌, ap, sym, ◌∙◌, append_assoc, append-nil, drop, map, List, ◌∷◌}
use Rattle.std.specs.Option.{option_and_then, option_to_list}
use Rattle.std.specs.Prelude.{Option}
use Rattle.std.specs.Borrow.{Bor}
use Rattle.keyed.proofs.Queues.{from_here}
use Rattle.ns_types.specs.declared.plan.Eviction.{Eviction}
use Rattle.ns_types.specs.State.Names.{Key}
use Rattle.ns_types.specs.Working.Commit.{victim_at}
use Rattle.ns_renewal.specs.Losing.{keys_left, victims_at}
use Rattle.ns_renewal.specs.Losses.{job_key, number_at}
use Rattle.ns_renewal.proofs.Least.{next_key}
use Rattle.ns_renewal.proofs.losing.take_each.Goals as goal
use Rattle.ns_renewal.proofs.losing.take_each.Goals.{in-Some+in_ok-push, in_default}
use Rattle.ns_tables.specs.World.{world_of}

pub loop-victim-preserved : goal.loop-victim-preserved
loop-victim-preserved c =
    let w = world_of c.args.tables.now in
    let old = c.loop-victim.losses in
    let new = c.take.new.losses in
    let e = c.victim-item.result in
    let later = drop (c.loop-victim.victim-index + 1) c.args.evictions.now in
    let here : drop c.loop-victim.victim-index c.args.evictions.now ≡ e ∷ later
    = from_here c.args.evictions.now c.loop-victim.victim-index e c.loop-victim-test.true c.victim-item.is in
    let added : c.match-branch-2.keys ≡ c.loop-victim.keys ++ option_to_list (option_and_then (job_key old) (victim_at w e.now))
    = elim c.match-branch-2.branch [
      | in-Some+in_ok-push v ↦ v.keys-is ∙ v.in_ok-push.ensures.ok
          ∙ ap (λ (o : Option Key). c.loop-victim.keys ++ option_to_list o) (sym v.in-Some.is ∙ c.in_ok-key.ensures.key)
      | in_default v ↦ v.keys-is ∙ sym (append-nil c.loop-victim.keys)
          ∙ ap (λ (o : Option Key). c.loop-victim.keys ++ option_to_list o) (sym v.in_default.is ∙ c.in_ok-key.ensures.key)
    ] in
    let rest : List Key = keys_left (number_at new) (victims_at w (map (λ e. e.now) later)) in
    ap (λ l. l ++ rest) added ∙ append_assoc c.loop-victim.keys (option_to_list (option_and_then (job_key old) (victim_at w e.now))) rest
    ∙ ap (λ l. c.loop-victim.keys ++ l) (sym (next_key (number_at old) (number_at new) w e.now (map (λ e. e.now) later) c.in_ok-key.ensures.others))
    ∙ ap (λ es. c.loop-victim.keys ++ keys_left (number_at old) (victims_at w (map (λ (e : Bor Eviction). e.now) es))) (sym here)
    ∙ c.loop-victim.invariant
