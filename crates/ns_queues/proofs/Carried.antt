-- Where the work is the same in two worlds, so is what indexes say of it.
use Rattle.std.specs.Prelude.{◌≡◌, ℕ, Bool, true, nat_eq, List, [], ◌∷◌, ◌||◌, Option, filter, option_map}
use Rattle.std.proofs.Common.{refl, ap, ◌∙◌}
use Rattle.std.specs.List.{cons_option, filter_map}
use Rattle.std.specs.Option.{option_map_or}
use Rattle.std.proofs.lemmas.Bool.{or_right}
use Rattle.keyed.proofs.Queues.{filter_alike}
use Rattle.ns_types.specs.declared.evaluation.Evaluation.{Evaluation}
use Rattle.ns_types.specs.State.Names.{Key, has_key, same_key}
use Rattle.ns_types.specs.State.Rows.{World, evaluation_at}
use Rattle.ns_types.specs.Working.Queue.{priority_at}
use Rattle.ns_types.proofs.Named.{same_key_refl}
use Rattle.ns_blocked.specs.Waking.{entries_in, entry_of}
use Rattle.ns_queues.specs.Work.{SameWork}

-- what is given of each key of a list alike
pub filter_map_alike : {X : Type 0} (f g : Key → Option X) (keys : List Key) → ((key : Key) → has_key keys key ≡ true → f key ≡ g key) →
    filter_map f keys ≡ filter_map g keys
filter_map_alike f g [] alike = refl
filter_map_alike f g (key ∷ keys) alike = λ i. cons_option (alike key (ap (λ b. b || has_key keys key) (same_key_refl key)) i)
    (filter_map_alike f g keys (λ other has. alike other (or_right (same_key other key) _ has)) i)

module _ (w w' : World) (same : SameWork w w') where
  pub ready_row : (key : Key) → has_key w.ready key ≡ true → evaluation_at w' key ≡ evaluation_at w key
  ready_row key has = same.evaluation key (ap (λ b. b || has_key w.blocked key) has)

  pub blocked_row : (key : Key) → has_key w.blocked key ≡ true → evaluation_at w' key ≡ evaluation_at w key
  blocked_row key has = same.evaluation key (or_right (has_key w.ready key) _ has)

  -- the ready ones of which a row passes
  pub ready_passing : (passes : Option Evaluation → Bool) →
      filter (λ key. passes (evaluation_at w' key)) w'.ready ≡ filter (λ key. passes (evaluation_at w key)) w.ready
  ready_passing passes = ap (filter (λ key. passes (evaluation_at w' key))) same.ready
      ∙ filter_alike (λ key. passes (evaluation_at w' key)) (λ key. passes (evaluation_at w key)) w.ready
      (λ key has. ap passes (ready_row key has))

  -- those of one priority
  pub ready_of_priority : (priority : ℕ) →
      filter (λ key. nat_eq (priority_at w' key) priority) w'.ready ≡ filter (λ key. nat_eq (priority_at w key) priority) w.ready
  ready_of_priority priority = ready_passing (λ row. nat_eq (option_map_or (λ e. e.priority) row 0) priority)

  -- the entries of the blocked ones
  pub same_entries : entries_in w' ≡ entries_in w
  same_entries = ap (filter_map (λ key. option_map (entry_of key) (evaluation_at w' key))) same.blocked
      ∙ filter_map_alike (λ key. option_map (entry_of key) (evaluation_at w' key)) (λ key. option_map (entry_of key) (evaluation_at w key)) w.blocked
      (λ key has. ap (option_map (entry_of key)) (blocked_row key has))
