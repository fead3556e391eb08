-- The levels after a step.
use Rattle.std.specs.Prelude.{◌≡◌, ℕ, Bool, true, not, ◌&&◌, ◌++◌, nat_eq}
use Rattle.std.proofs.Common.{refl, sym, ap, ◌∙◌}
use Rattle.std.specs.List.{list_all}
use Rattle.std.proofs.Math.Bool.{and_comm}
use Rattle.std.proofs.lemmas.Bool.{eq-eqb, eqb-true}
use Rattle.keyed.proofs.Queues.{filter_alike, has_filter}
use Rattle.ns_change.specs.Changed.{changed_list, without_keys}
use Rattle.ns_change.specs.Settled.{settled_world}
use Rattle.ns_change.specs.declared.change.Settled.{Settled}
use Rattle.ns_types.proofs.Lists.{each, filter-append, filter_chosen}
use Rattle.ns_types.proofs.Named.{first_of_both}
use Rattle.ns_types.proofs.Tests.{and_yes, is_yes}
use Rattle.ns_types.specs.State.Names.{Key, has_key}
use Rattle.ns_types.specs.State.Rows.{World}
use Rattle.ns_types.specs.Working.Queue.{priority_at}
use Rattle.ns_queues.specs.After.{NoneMoves, StillUnmoved, any_moves}
use Rattle.ns_queues.specs.Ready.{AreArrivals, HoldsOnly, IsByPriority, Levels, SameKeys, group_at, keeps_priorities, level_at}
use Rattle.ns_queues.specs.Ready.{moves_ready, of_priority, priority_of}
use Rattle.ns_queues.specs.declared.ready.Arrivals.{Arrivals}
use Rattle.ns_queues.specs.declared.ready.ByPriority.{ByPriority}
use Rattle.ns_queues.proofs.Moved.{all_unless_moved}
use Rattle.ns_tables.specs.World.{world_of}
use Rattle.ns_tables.specs.declared.tables.Tables.{Tables}

pub ready_settled : (w : World) (s : Settled) → (settled_world w s).ready ≡ changed_list w.ready s.ready
unfolding settled_world
ready_settled w s = refl

pub ready_held : (t : Tables) → (world_of t).ready ≡ t.ready.items
unfolding world_of
ready_held t = refl

pub holds_its_own : (w : World) (b : ByPriority) → IsByPriority w b → (q : ℕ) → HoldsOnly w q (level_at b.levels q)
holds_its_own w b is q key has = eqb-true (priority_at w key) q (first_of_both _ _
    (sym (has_filter (λ key. nat_eq (priority_at w key) q) key w.ready) ∙ sym (ap (λ l. has_key l key) (is q)) ∙ has))

pub still_unmoved : (t : Tables) → StillUnmoved (moves_ready t.ready)
still_unmoved t key row = ap (λ b. not b && has_key t.ready.items key) (eq-eqb (priority_of row) (priority_of row) refl)

module _ (t : Tables) (s : Settled) where
  abbrev before : World
  before = world_of t

  abbrev after : World
  after = settled_world before s

  abbrev same_at : Key → Bool
  same_at key = nat_eq (priority_at before key) (priority_at after key)

  -- the priorities stay where no changed evaluation moves
  pub kept_priorities : keeps_priorities before after ≡ not (any_moves (moves_ready t.ready) t s)
  kept_priorities = ap (list_all same_at) (ready_held t)
      ∙ all_unless_moved t s (moves_ready t.ready) (still_unmoved t) t.ready.items same_at
      (λ key. and_comm (not (same_at key)) (has_key t.ready.items key))

  module _ (unmoved : NoneMoves (moves_ready t.ready) before after) where
    same_priority : (key : Key) → has_key before.ready key ≡ true → priority_at before key ≡ priority_at after key
    same_priority key has = eqb-true (priority_at before key) (priority_at after key) (is_yes _ (and_yes _
        (ap (λ b. not (nat_eq (priority_at before key) (priority_at after key)) && b) (sym (sym (ap (λ l. has_key l key) (ready_held t)) ∙ has))
        ∙ unmoved key)))

    alike : (q : ℕ) → of_priority before q before.ready ≡ of_priority after q before.ready
    alike q = filter_alike (λ key. nat_eq (priority_at before key) q) (λ key. nat_eq (priority_at after key) q) before.ready
        (λ key has. ap (λ n. nat_eq n q) (same_priority key has))

    left_after : (q : ℕ) → without_keys s.ready.taken (of_priority before q before.ready) ≡ of_priority after q (without_keys s.ready.taken before.ready)
    left_after q = ap (without_keys s.ready.taken) (alike q)
        ∙ filter_chosen (λ key. not (has_key s.ready.taken key)) (λ key. nat_eq (priority_at after key) q) (λ key. nat_eq (priority_at after key) q)
        before.ready (each (λ key. not (has_key s.ready.taken key) ≡ true → nat_eq (priority_at after key) q ≡ nat_eq (priority_at after key) q)
        (λ key chosen. refl) before.ready)

    pub followed : (b new : ByPriority) (taken put : Levels) (a : Arrivals) →
        ((q : ℕ) → HoldsOnly before q (level_at b.levels q) → level_at taken q ≡ without_keys s.ready.taken (level_at b.levels q)) →
        ((q : ℕ) → level_at put q ≡ level_at taken q ++ group_at a.by_priority q) → SameKeys put new.levels → AreArrivals after s.ready.added a →
        IsByPriority before b → IsByPriority after new
    followed b new taken put a out added same arrive is q = same q ∙ added q
        ∙ (λ i. (out q (holds_its_own before b is q) ∙ ap (without_keys s.ready.taken) (is q) ∙ left_after q) i ++ arrive q i)
        ∙ sym (filter-append (λ key. nat_eq (priority_at after key) q) (without_keys s.ready.taken before.ready) s.ready.added)
        ∙ ap (of_priority after q) (sym (ready_settled before s))
