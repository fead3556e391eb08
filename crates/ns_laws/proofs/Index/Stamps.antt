-- Numbered rows that get a step's index where they are changed, and the topics that name them.
use Rattle.std.specs.Prelude.{◌≡◌, ℕ, Bool, true, false, cond, not, List, [], ◌∷◌, Some, filter, map, option_map}
use Rattle.std.proofs.Common.{refl, sym, ap, subst, ◌∙◌}
use Rattle.std.specs.FinMap.{get, entries}
use Rattle.std.specs.List.{list_any}
use Rattle.ns_types.specs.declared.allocation.Allocation.{Allocation}
use Rattle.ns_types.specs.declared.evaluation.Evaluation.{Evaluation}
use Rattle.ns_types.specs.declared.event.Topic.{Topic}
use Rattle.ns_types.specs.Settling.Settle.{is_changed, created_at}
use Rattle.ns_types.specs.State.Lists.{Each, is_empty}
use Rattle.ns_types.specs.State.Names.{ByNumber}
use Rattle.ns_types.specs.State.Tables.{any_row, map_rows}
use Rattle.ns_types.proofs.Elements.{each_kept, each_mapped}
use Rattle.ns_types.proofs.Lists.{not_both, each_map, any_is}
use Rattle.ns_types.proofs.Named.{numbers, one_number}
use Rattle.ns_types.proofs.Tables.{each_row, get-map_rows}
use Rattle.ns_types.proofs.Tests.{is_no, same_Some}
use Rattle.ns_audit.proofs.Steady.Keeping.{row_of_map}
use Rattle.ns_laws.proofs.Elements.{Has, filter_has, has_row, map_has}

-- ---- lists with no element

-- where nothing comes out of a map or a filter, nothing went in or passed
pub no_map : {X Y : Type 0} (f : X → Y) (xs : List X) → map f xs ≡ [] → xs ≡ []
no_map f [] e = refl
no_map f (x ∷ xs) e = not_both (ap is_empty e) refl

pub none_kept : {X : Type 0} (p : X → Bool) (xs : List X) → filter p xs ≡ [] → list_any p xs ≡ false
none_kept p xs e = any_is p xs ∙ ap (λ l. not (is_empty l)) e

-- ---- rows

-- an evaluation, and an allocation, with other indexes
abbrev pub dated_evaluation : (created modified : ℕ) → Evaluation → Evaluation
dated_evaluation created modified e = record e { create_index = created; modify_index = modified }

abbrev pub dated_allocation : (created modified : ℕ) → Allocation → Allocation
dated_allocation created modified a = record a { create_index = created; modify_index = modified }

module _ {X : Type 0} (same : X → X → Bool) (create_index : X → ℕ) (dated : (created modified : ℕ) → X → X) (index : ℕ) (old rows : ByNumber X) where
  abbrev changes : ℕ → X → Bool
  changes n x = is_changed same (get old n) x

  abbrev new : ℕ → X → X
  new n x = dated (created_at index (get old n) create_index) index x

  abbrev stamped_row : ℕ → X → X
  stamped_row n x = cond (changes n x) (new n x) x

  -- a changed row is there with the index
  pub changed_row : (n : ℕ) (x : X) → get rows n ≡ Some x → changes n x ≡ true → get (map_rows stamped_row rows) n ≡ Some (new n x)
  changed_row n x at changed = get-map_rows numbers one_number stamped_row rows n ∙ ap (option_map (stamped_row n)) at
      ∙ ap (λ b. Some (cond b (new n x) x)) changed

  -- a row that is there was changed and has the index, or is as it was
  pub row_changed : (P : X → Type 0) (n : ℕ) → ((x : X) → get rows n ≡ Some x → changes n x ≡ true → P (new n x)) →
      ((x : X) → get rows n ≡ Some x → changes n x ≡ false → P x) → (x : X) → get (map_rows stamped_row rows) n ≡ Some x → P x
  row_changed P n f g x at = let row = row_of_map numbers one_number stamped_row rows n x at in
      subst P row.2 (by row.0 row.1 (changes n row.0) refl)
    where
      by : (x : X) → get rows n ≡ Some x → (b : Bool) → changes n x ≡ b → P (cond b (new n x) x)
      by x is true e = f x is e
      by x is false e = g x is e

  -- a row that is the same as before, where the indexes do not count, is left
  pub row_kept : ((a b : X) (created modified : ℕ) → same a (dated created modified b) ≡ same a b) → (n : ℕ) (before d e : X) →
      get old n ≡ Some before → get rows n ≡ Some d → get (map_rows stamped_row rows) n ≡ Some e → same before e ≡ true → d ≡ e
  row_kept blind n before d e was own = row_changed (λ e. same before e ≡ true → d ≡ e) n
      (λ x _ changed alike. not_both (sym (blind before x (created_at index (get old n) create_index) index) ∙ alike)
      (is_no (same before x) (sym (ap (λ o. is_changed same o x) was) ∙ changed)))
      (λ x at _ _. same_Some d x (sym own ∙ at)) e

-- ---- topics

-- the topics that name the rows which changed
module _ {X : Type 0} (changes : ℕ → X → Bool) (topic : ℕ → Topic) (rows : ByNumber X) where
  abbrev changed_in : ℕ × X → Bool
  changed_in e = changes e.0 e.1

  abbrev topic_in : ℕ × X → Topic
  topic_in e = topic e.0

  abbrev row_topics : List Topic
  row_topics = map topic_in (filter changed_in (entries rows))

  pub no_row_topic : row_topics ≡ [] → any_row changes rows ≡ false
  unfolding any_row
  no_row_topic e = none_kept changed_in (entries rows) (no_map topic_in (filter changed_in (entries rows)) e)

  pub row_topic : (n : ℕ) (x : X) → get rows n ≡ Some x → changes n x ≡ true → Has row_topics (topic n)
  row_topic n x at changed = map_has topic_in (filter changed_in (entries rows)) (n, x)
      (filter_has changed_in (entries rows) (n, x) (has_row one_number rows n x at) changed)

  pub each_row_topic : (P : Topic → Type 0) → ((n : ℕ) (x : X) → get rows n ≡ Some x → changes n x ≡ true → P (topic n)) → Each P row_topics
  each_row_topic P f = each_mapped P topic_in (filter changed_in (entries rows))
      (each_map (λ e h. f e.0 e.1 h.0 h.1) (filter changed_in (entries rows))
      (each_kept (λ e. get rows e.0 ≡ Some e.1) changed_in (entries rows)
      (each_row numbers one_number (λ n x. get rows n ≡ Some x) rows (λ n x at. at))))
