-- Rows under a name that pass a test, by the numbers under it.
use Rattle.std.specs.Prelude.{◌≡◌, ℕ, Bool, true, false, [], Option, Some, None, filter, is_some, map}
use Rattle.std.proofs.Common.{refl, sym, ap, ◌∙◌}
use Rattle.std.specs.FinMap.{contains_key, entries, get}
use Rattle.std.specs.List.{list_any}
use Rattle.std.specs.Option.{option_map_or}
use Rattle.keyed.proofs.Over.{any_row-before, passed}
use Rattle.keyed.proofs.Tables.{get-rows}
use Rattle.keyed.specs.Levels.{holds_number}
use Rattle.keyed.specs.Table.{flat, row_at, row_list, rows}
use Rattle.ns_types.proofs.Lists.{not_both}
use Rattle.ns_types.proofs.Named.{numbers, one_number}
use Rattle.ns_types.proofs.TableRows.{filter_no_row}
use Rattle.ns_types.proofs.Tables.{any_row-none, filter-retain}
use Rattle.ns_types.specs.State.Names.{ByNumber, Name}
use Rattle.ns_types.specs.State.Tables.{any_row}
use Rattle.keyed.proofs.RowsAtKeys.{entries_looked}
use Rattle.ns_tables.specs.Filing.{AreNumbersUnder, slots_at, stands_under}

module _ {X : Type 0} (name_of : X → Option Name) (name : Name) (slots : ByNumber (Option X)) (p : ℕ → X → Bool)
    (asks : (n : ℕ) (x : X) → p n x ≡ true → stands_under name_of name (Some x) ≡ true) where
  -- a row outside the numbers does not pass
  outside : (m : Option (ByNumber (Option Unit))) → AreNumbersUnder name_of name slots m → (n : ℕ) (x : X) → get (rows slots) n ≡ Some x →
      option_map_or (λ m. holds_number m n) m false ≡ false → p n x ≡ false
  outside m has n x is out = by (p n x) refl
    where
      by : (b : Bool) → p n x ≡ b → p n x ≡ false
      by false passes = passes
      by true passes = not_both (has n ∙ ap (stands_under name_of name) (sym (get-rows numbers slots n) ∙ is) ∙ asks n x passes) out

  not_held : (m : ByNumber (Option Unit)) (n : ℕ) → contains_key m n ≡ false → holds_number m n ≡ false
  not_held m n out = by (get m n) out
    where
      by : (r : Option (Option Unit)) → is_some r ≡ false → is_some (flat r) ≡ false
      by None out = refl
      by (Some r) out = not_both refl out

  module _ (m : ByNumber (Option Unit)) (has : AreNumbersUnder name_of name slots (Some m)) where
    -- those of the table are those at the numbers, in the order of the table
    pub passing_at : filter (λ e. p e.0 e.1) (row_list (slots_at slots (entries m))) ≡ filter (λ e. p e.0 e.1) (entries (rows slots))
    passing_at = sym (filter-retain numbers one_number p (rows slots) (contains_key m) (λ n x is out. outside (Some m) has n x is (not_held m n out))
        ∙ ap (filter (λ e. p e.0 e.1)) (entries_looked numbers one_number (rows slots) m
        ∙ (λ i. row_list (map (λ e. (e.0, get-rows numbers slots e.0 i)) (entries m)))))

    pub any_at : any_row p (rows slots) ≡ list_any (λ e. passed p (row_at slots) e.0) (entries m)
    any_at = any_row-before numbers one_number p (rows slots) m (λ n x is out. outside (Some m) has n x is (not_held m n out))
        ∙ (λ i. list_any (λ e. option_map_or (p e.0) (get-rows numbers slots e.0 i) false) (entries m))

  module _ (has : AreNumbersUnder name_of name slots None) where
    pub none_passing : filter (λ e. p e.0 e.1) (entries (rows slots)) ≡ []
    none_passing = filter_no_row numbers one_number p (rows slots) (λ n x is. outside None has n x is refl)

    pub none_at : any_row p (rows slots) ≡ false
    none_at = any_row-none numbers one_number p (rows slots) (λ n x is. outside None has n x is refl)
