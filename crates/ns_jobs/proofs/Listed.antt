-- The rows that a command lists.
use Rattle.std.specs.Prelude.{◌≡◌, ℕ, Bool, true, false, cond, List, [], ◌∷◌, ◌++◌, Option, Some, None, filter, map}
use Rattle.std.proofs.Common.{refl, sym, ap, append_assoc, ◌∙◌}
use Rattle.std.specs.FinMap.{entries}
use Rattle.keyed.proofs.Tables.{entries-rows}
use Rattle.keyed.specs.Table.{row_list}
use Rattle.ns_types.proofs.Elements.{filter_map}
use Rattle.ns_types.specs.State.Names.{ByNumber, Name}
use Rattle.ns_types.specs.declared.step.AskCommand.{AskCommand}
use Rattle.ns_tables.proofs.Under.{none_passing, passing_at}
use Rattle.ns_tables.specs.Filing.{AreNumbersUnder, slots_at}
use Rattle.ns_jobs.specs.Read.{IsAmongThoseOf, rows_shown}

module _ {X Shown : Type 0} (as_shown : Name → ℕ → X → Shown) (is_listed : AskCommand → Shown → Bool) (ns : Name) (command : AskCommand) where
  abbrev listed : List (ℕ × Option X) → List Shown
  listed = rows_shown as_shown is_listed ns command

  -- ---- slot by slot

  listed_first : (slot : ℕ × Option X) (slots : List (ℕ × Option X)) → listed (slot ∷ slots) ≡ listed (slot ∷ []) ++ listed slots
  listed_first (n, None) slots = refl
  listed_first (n, Some x) slots = by (is_listed command (as_shown ns n x))
    where
      by : (b : Bool) → cond b (as_shown ns n x ∷ listed slots) (listed slots) ≡ cond b (as_shown ns n x ∷ []) [] ++ listed slots
      by true = refl
      by false = refl

  pub listed_next : (found new : List Shown) (slot : ℕ × Option X) (rest left all : List (ℕ × Option X)) → rest ≡ slot ∷ left →
      new ≡ found ++ listed (slot ∷ []) → found ++ listed rest ≡ listed all → new ++ listed left ≡ listed all
  listed_next found new slot rest left all steps is h = ap (λ l. l ++ listed left) is
      ∙ append_assoc found (listed (slot ∷ [])) (listed left) ∙ sym (ap (λ l. found ++ l) (ap listed steps ∙ listed_first slot left)) ∙ h

  -- ---- those of a job, by its numbers

  module _ (job_of : X → Option Name) (job : Name) (slots : ByNumber (Option X)) (among : IsAmongThoseOf as_shown is_listed job_of command job) where
    abbrev passes : ℕ → X → Bool
    passes n x = is_listed command (as_shown ns n x)

    shown_is : (es : List (ℕ × Option X)) → listed es ≡ map (λ e. as_shown ns e.0 e.1) (filter (λ e. passes e.0 e.1) (row_list es))
    shown_is es = filter_map (is_listed command) (λ e. as_shown ns e.0 e.1) (row_list es)

    pub listed_at : (m : ByNumber (Option Unit)) → AreNumbersUnder job_of job slots (Some m) → listed (slots_at slots (entries m)) ≡ listed (entries slots)
    listed_at m has = shown_is (slots_at slots (entries m))
        ∙ ap (map (λ e. as_shown ns e.0 e.1)) (passing_at job_of job slots passes (among ns) m has ∙ ap (filter (λ e. passes e.0 e.1)) (entries-rows slots))
        ∙ sym (shown_is (entries slots))

    pub listed_none : AreNumbersUnder job_of job slots None → listed (entries slots) ≡ []
    listed_none has = shown_is (entries slots) ∙ ap (map (λ e. as_shown ns e.0 e.1))
        (ap (filter (λ e. passes e.0 e.1)) (sym (entries-rows slots)) ∙ none_passing job_of job slots passes (among ns) has)
