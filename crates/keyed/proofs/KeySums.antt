-- Sums over the keys of a set, each of which counts for something: which keys are held says what they are.
use Rattle.std.specs.Prelude.{◌≡◌, ℕ, ◌+◌, Bool, true, false, cond, ◌&&◌, Option, Some, None, is_some, sum_by, unwrap_or, []}
use Rattle.std.proofs.Common.{refl, sym, ap, arith, ◌∙◌}
use Rattle.std.specs.FinMap.{empty, entries, get}
use Rattle.std.specs.Option.{option_map_or}
use Rattle.keyed.specs.Levels.{holds_key, holds_number}
use Rattle.keyed.specs.Table.{flat, row_at}
use Rattle.keyed.specs.declared.key_set.KeySet.{KeySet}
use Rattle.keyed.proofs.Levels.{no_number}
use Rattle.keyed.proofs.RowSums.{sum_moved, sums_alike}
use Rattle.ns_types.specs.State.Names.{ByNumber, Key, Name, same_key, same_name, same_number}
use Rattle.ns_types.proofs.Named.{names, numbers, one_name, one_number}
use Rattle.ns_types.proofs.TableRows.{entries_empty}

abbrev pub Numbers : Type 0
Numbers = ByNumber (Option Unit)

abbrev pub numbers_in : KeySet → Name → Numbers
numbers_in keys name = unwrap_or (row_at keys.numbers name) empty

-- ---- one number, one name, and all

module _ (weight : Key → ℕ) where
  -- what the key counts for, where it is held
  abbrev pub key_part : KeySet → Key → ℕ
  key_part keys key = cond (holds_key keys key) (weight key) 0

  abbrev pub number_part : Name → Numbers → ℕ → ℕ
  number_part name held n = cond (holds_number held n) (weight (name, n)) 0

  -- a vacant slot is no key
  abbrev pub slot_part : Name → ℕ → Option Unit → ℕ
  slot_part name n None = 0
  slot_part name n (Some held) = weight (name, n)

  abbrev pub numbers_sum : Name → Numbers → ℕ
  numbers_sum name held = sum_by (λ e. slot_part name e.0 e.1) (entries held)

  abbrev pub name_part : Name → Option Numbers → ℕ
  name_part name None = 0
  name_part name (Some held) = numbers_sum name held

  abbrev pub keys_sum : KeySet → ℕ
  keys_sum keys = sum_by (λ e. name_part e.0 e.1) (entries keys.numbers)

  pub at_number : (name : Name) (held : Numbers) (n : ℕ) → option_map_or (slot_part name n) (get held n) 0 ≡ number_part name held n
  at_number name held n = by (get held n)
    where
      by : (r : Option (Option Unit)) → option_map_or (slot_part name n) r 0 ≡ cond (is_some (flat r)) (weight (name, n)) 0
      by None = refl
      by (Some None) = refl
      by (Some (Some u)) = refl

  pub at_name : (keys : KeySet) (name : Name) → option_map_or (name_part name) (get keys.numbers name) 0 ≡ numbers_sum name (numbers_in keys name)
  at_name keys name = by (get keys.numbers name)
    where
      none : 0 ≡ numbers_sum name empty
      none = sym (ap (sum_by (λ (e : ℕ × Option Unit). slot_part name e.0 e.1)) (entries_empty numbers one_number))

      by : (r : Option (Option Numbers)) → option_map_or (name_part name) r 0 ≡ numbers_sum name (unwrap_or (flat r) empty)
      by None = none
      by (Some None) = none
      by (Some (Some held)) = refl

  pub held_in : (keys : KeySet) (name : Name) (n : ℕ) → number_part name (numbers_in keys name) n ≡ key_part keys (name, n)
  held_in keys name n = ap (λ b. cond b (weight (name, n)) 0) (by (row_at keys.numbers name))
    where
      by : (r : Option Numbers) → holds_number (unwrap_or r empty) n ≡ option_map_or (λ held. holds_number held n) r false
      by None = no_number empty refl n
      by (Some held) = refl

  pub no_keys_sum : (keys : KeySet) → keys.numbers ≡ empty → keys_sum keys ≡ 0
  no_keys_sum keys none = ap (λ m. sum_by (λ (e : Name × Option Numbers). name_part e.0 e.1) (entries m)) none
      ∙ ap (sum_by (λ (e : Name × Option Numbers). name_part e.0 e.1)) (entries_empty names one_name)

-- ---- two sets, whose keys may count for other things

module _ (before after : Key → ℕ) where
  module _ (name : Name) (old new : Numbers) where
    numbers_moved : (k : ℕ) → ((n : ℕ) → same_number n k ≡ false → number_part after name new n ≡ number_part before name old n)
        → numbers_sum after name new + number_part before name old k ≡ numbers_sum before name old + number_part after name new k
    numbers_moved k alike =
        let moved = sum_moved numbers one_number (slot_part before name) (slot_part after name) old new k
        (λ n apart. at_number after name new n ∙ alike n apart ∙ sym (at_number before name old n)) in
        let was = at_number before name old k in
        let is = at_number after name new k in
        omega (arith, moved, was, is)

    numbers_alike : ((n : ℕ) → number_part after name new n ≡ number_part before name old n) → numbers_sum after name new ≡ numbers_sum before name old
    numbers_alike alike = sums_alike numbers one_number (slot_part after name) (slot_part before name) new old
        (λ n. at_number after name new n ∙ alike n ∙ sym (at_number before name old n))

  module _ (old new : KeySet) where
    -- where no other key's part changes, the sum has the one part in the place of the other
    pub keys_moved : (key : Key) → ((q : Key) → same_key q key ≡ false → key_part after new q ≡ key_part before old q)
        → keys_sum after new + key_part before old key ≡ keys_sum before old + key_part after new key
    keys_moved key alike =
        let outer = sum_moved names one_name (name_part before) (name_part after) old.numbers new.numbers key.0 others in
        let inner = numbers_moved key.0 (numbers_in old key.0) (numbers_in new key.0) key.1
        (λ n apart. in_all key.0 n (ap (λ b. same_name key.0 key.0 && b) apart ∙ at_most_one (same_name key.0 key.0))) in
        let old_name = at_name before old key.0 in
        let new_name = at_name after new key.0 in
        let old_part = held_in before old key.0 key.1 in
        let new_part = held_in after new key.0 key.1 in
        omega (arith, outer, inner, old_name, new_name, old_part, new_part)
      where
        at_most_one : (b : Bool) → (b && false) ≡ false
        at_most_one true = refl
        at_most_one false = refl

        in_all : (name : Name) (n : ℕ) → same_key (name, n) key ≡ false →
            number_part after name (numbers_in new name) n ≡ number_part before name (numbers_in old name) n
        in_all name n apart = held_in after new name n ∙ alike (name, n) apart ∙ sym (held_in before old name n)

        others : (name : Name) → same_name name key.0 ≡ false →
            option_map_or (name_part after name) (get new.numbers name) 0 ≡ option_map_or (name_part before name) (get old.numbers name) 0
        others name apart = at_name after new name
            ∙ numbers_alike name (numbers_in old name) (numbers_in new name)
            (λ n. in_all name n (ap (λ b. b && same_number n key.1) apart))
            ∙ sym (at_name before old name)

    pub keys_alike : ((q : Key) → key_part after new q ≡ key_part before old q) → keys_sum after new ≡ keys_sum before old
    keys_alike alike =
        let moved = keys_moved ([], 0) (λ q _. alike q) in
        let here = alike ([], 0) in
        omega (arith, moved, here)
