-- What changes of the shown nodes leave kept.
use Rattle.std.specs.Prelude.{◌≡◌, ℕ, Bool, true, false, cond, ◌&&◌, if◌then◌else◌, Option, Some, None, option_map}
use Rattle.std.proofs.Common.{refl, sym, ap, subst, ◌∙◌}
use Rattle.std.specs.FinMap.{empty, get, get-empty, get-insert, get-remove, insert, remove}
use Rattle.std.specs.Option.{option_and_then}
use Rattle.keyed.specs.Table.{emptied, flat, row_at, rows, with_slot}
use Rattle.keyed.proofs.Tables.{get-rows, rows-emptied, rows-remove, rows-set, rows-with_slot}
use Rattle.ns_types.specs.State.Names.{Name, ByName, name_cmp, same_name}
use Rattle.ns_types.proofs.Named.{names, one_name, same_name_is}
use Rattle.ns_live_index.specs.declared.shown.ShownNode.{ShownNode}
use Rattle.ns_live_index.specs.declared.shown.ShownNodes.{ShownNodes}
use Rattle.ns_live_index.specs.Shown.{ShowsSame, ShowsThere, as_behind, is_base_for, kept_in, left_by}

-- ---- rows of a table

row_written : {X : Type 0} (m : ByName (Option X)) (k : Name) (x : X) (q : Name) → row_at (insert m k (Some x)) q ≡ cond (same_name q k) (Some x) (row_at m q)
row_written m k x q = sym (get-rows names (insert m k (Some x)) q) ∙ ap (λ r. get r q) (rows-set names one_name m k x) ∙ get-insert names (rows m) k x q
    ∙ ap (cond (same_name q k) (Some x)) (get-rows names m q)

row_removed : {X : Type 0} (m : ByName (Option X)) (k q : Name) → row_at (remove m k) q ≡ cond (same_name q k) None (row_at m q)
row_removed m k q = sym (get-rows names (remove m k) q) ∙ ap (λ r. get r q) (rows-remove names one_name m k) ∙ get-remove names (rows m) k q
    ∙ ap (cond (same_name q k) None) (get-rows names m q)

row_emptied : {X : Type 0} (m : ByName (Option X)) (k q : Name) → row_at (emptied m k) q ≡ cond (same_name q k) None (row_at m q)
row_emptied m k q = sym (get-rows names (emptied m k) q) ∙ ap (λ r. get r q) (rows-emptied names one_name m k) ∙ get-remove names (rows m) k q
    ∙ ap (cond (same_name q k) None) (get-rows names m q)

row_slotted : {X : Type 0} (m : ByName (Option X)) (k q : Name) → row_at (with_slot m k) q ≡ row_at m q
row_slotted m k q = sym (get-rows names (with_slot m k) q) ∙ ap (λ r. get r q) (rows-with_slot names one_name m k) ∙ get-rows names m q

abbrev Nodes : Type 0
Nodes = ByName (Option ShownNode)

pub node_written : (its made now : Nodes) (name : Name) (node : ShownNode) → made ≡ with_slot its name → now ≡ insert made name (Some node) →
    (n : Name) → row_at now n ≡ (if same_name n name then Some node else row_at its n)
node_written its made now name node slot put n = ap (λ m. row_at m n) put ∙ row_written made name node n
    ∙ ap (cond (same_name n name) (Some node)) (ap (λ m. row_at m n) slot ∙ row_slotted its name n)

pub node_removed : (its now : Nodes) (name : Name) → now ≡ remove its name → (n : Name) →
    row_at now n ≡ (if same_name n name then None else row_at its n)
node_removed its now name gone n = ap (λ m. row_at m n) gone ∙ row_removed its name n

pub node_emptied : (its now : Nodes) (name : Name) → now ≡ emptied its name → (n : Name) →
    row_at now n ≡ (if same_name n name then None else row_at its n)
node_emptied its now name gone n = ap (λ m. row_at m n) gone ∙ row_emptied its name n

-- ---- a node that is behind

pub node_marked : (its now : Nodes) (name : Name) (kept : ShownNode) → row_at its name ≡ Some kept → now ≡ insert its name (Some (as_behind kept)) →
    (n : Name) → row_at now n ≡ (if same_name n name then option_map as_behind (row_at its name) else row_at its n)
node_marked its now name kept at put n = ap (λ m. row_at m n) put ∙ row_written its name (as_behind kept) n
    ∙ ap (λ r. cond (same_name n name) (option_map as_behind r) (row_at its n)) (sym at)

pub none_marked : (its : Nodes) (name : Name) → row_at its name ≡ None → (n : Name) →
    row_at its n ≡ (if same_name n name then option_map as_behind (row_at its name) else row_at its n)
none_marked its name none n = by (same_name n name) refl
  where
    by : (b : Bool) → same_name n name ≡ b → row_at its n ≡ (if b then option_map as_behind (row_at its name) else row_at its n)
    by true t = ap (row_at its) (same_name_is n name t) ∙ none ∙ sym (ap (option_map as_behind) none)
    by false t = refl

pub left_marked : (place : ℕ) (r : Option ShownNode) → is_base_for place r ≡ true → option_map as_behind r ≡ left_by place r
left_marked place None e = refl
left_marked place (Some kept) e = sym (ap (λ b. if b then Some (as_behind kept) else None) e)

pub left_none : (place : ℕ) (r : Option ShownNode) → is_base_for place r ≡ false → None ≡ left_by place r
left_none place None e = refl
left_none place (Some kept) e = sym (ap (λ b. if b then Some (as_behind kept) else None) e)

-- ---- a change after one that leaves all

pub then_same : (a b c : ShownNodes) → ShowsSame a b → ShowsSame b c → ShowsSame a c
then_same a b c first later p n = later p n ∙ first p n

pub then_there : (a b c : ShownNodes) (pool name : Name) (seen : Option ShownNode) → ShowsSame a b → ShowsThere pool name seen b c →
    ShowsThere pool name seen a c
then_there a b c pool name seen first later p n = later p n
    ∙ ap (λ r. if same_name p pool && same_name n name then seen else r) (first p n)

-- ---- one pool

module _ (pool : Name) where
  abbrev inside : Name → Option Nodes → Option ShownNode
  inside n nodes = option_and_then (λ nodes. row_at nodes n) nodes

  in_pool : (shown : ShownNodes) (p n : Name) → same_name p pool ≡ true → kept_in shown p n ≡ inside n (row_at shown.pools pool)
  in_pool shown p n t = ap (λ p. kept_in shown p n) (same_name_is p pool t)

  -- its table is another
  module _ (old new : ShownNodes) (its : Nodes) (at : row_at old.pools pool ≡ Some its) (now : Nodes)
      (put : new.pools ≡ insert old.pools pool (Some now)) where
    put_in : (p n : Name) → kept_in new p n ≡ (if same_name p pool then row_at now n else kept_in old p n)
    put_in p n = ap (inside n) (ap (λ m. row_at m p) put ∙ row_written old.pools pool now p) ∙ by (same_name p pool)
      where
        by : (b : Bool) → inside n (cond b (Some now) (row_at old.pools p)) ≡ (if b then row_at now n else kept_in old p n)
        by true = refl
        by false = refl

    was : (p n : Name) → same_name p pool ≡ true → kept_in old p n ≡ row_at its n
    was p n t = in_pool old p n t ∙ ap (inside n) at

    pub put_there : (name : Name) (seen : Option ShownNode) → ((n : Name) → row_at now n ≡ (if same_name n name then seen else row_at its n)) →
        ShowsThere pool name seen old new
    put_there name seen row p n = put_in p n ∙ by (same_name p pool) refl
      where
        by : (b : Bool) → same_name p pool ≡ b → (if b then row_at now n else kept_in old p n)
            ≡ (if b && same_name n name then seen else kept_in old p n)
        by true t = row n ∙ ap (λ r. if same_name n name then seen else r) (sym (was p n t))
        by false t = refl

    -- what is kept of one node changes
    pub changed_there : (f : Option ShownNode → Option ShownNode) (name : Name) →
        ((n : Name) → row_at now n ≡ (if same_name n name then f (row_at its name) else row_at its n)) →
        ShowsThere pool name (f (kept_in old pool name)) old new
    changed_there f name row = put_there name (f (kept_in old pool name))
        (λ n. row n ∙ ap (λ r. if same_name n name then f r else row_at its n) (sym (ap (inside name) at)))

    pub put_same : now ≡ its → ShowsSame old new
    put_same same p n = put_in p n ∙ by (same_name p pool) refl
      where
        by : (b : Bool) → same_name p pool ≡ b → (if b then row_at now n else kept_in old p n) ≡ kept_in old p n
        by true t = ap (λ m. row_at m n) same ∙ sym (was p n t)
        by false t = refl

  -- it has a slot alone
  pub slotted : (old made : ShownNodes) → made.pools ≡ with_slot old.pools pool → ShowsSame old made
  slotted old made slot p n = ap (inside n) (ap (λ m. row_at m p) slot ∙ row_slotted old.pools pool p)

  -- its table is new
  pub opened : (old made new : ShownNodes) → made.pools ≡ with_slot old.pools pool → row_at made.pools pool ≡ None → (its : Nodes) → its ≡ empty →
      new.pools ≡ insert made.pools pool (Some its) → ShowsSame old new
  opened old made new slot none its bare put p n = ap (inside n) (ap (λ m. row_at m p) put ∙ row_written made.pools pool its p) ∙ by (same_name p pool) refl
      ∙ slotted old made slot p n
    where
      by : (b : Bool) → same_name p pool ≡ b → inside n (cond b (Some its) (row_at made.pools p)) ≡ kept_in made p n
      by true t = ap (λ m. row_at m n) bare ∙ ap flat (get-empty name_cmp n) ∙ sym (in_pool made p n t ∙ ap (inside n) none)
      by false t = refl

  -- it has none
  pub nothing_there : (shown : ShownNodes) (name : Name) → row_at shown.pools pool ≡ None → ShowsThere pool name None shown shown
  nothing_there shown name none p n = by (same_name p pool) (same_name n name) refl
    where
      by : (b c : Bool) → same_name p pool ≡ b → kept_in shown p n ≡ (if b && c then None else kept_in shown p n)
      by true true t = in_pool shown p n t ∙ ap (inside n) none
      by true false t = refl
      by false c t = refl

  -- nothing is kept that could change
  pub nothing_changes : (f : Option ShownNode → Option ShownNode) → f None ≡ None → (shown : ShownNodes) (name : Name) → row_at shown.pools pool ≡ None →
      ShowsThere pool name (f (kept_in shown pool name)) shown shown
  nothing_changes f idle shown name none = subst (λ kept. ShowsThere pool name kept shown shown) (sym (ap f (ap (inside name) none) ∙ idle))
      (nothing_there shown name none)

  -- its table goes, which has none
  pub table_gone : (old mid new : ShownNodes) (name : Name) (seen : Option ShownNode) → ShowsThere pool name seen old mid → (its : Nodes) →
      row_at mid.pools pool ≡ Some its → its ≡ empty → new.pools ≡ remove mid.pools pool → ShowsThere pool name seen old new
  table_gone old mid new name seen there its at none gone p n = ap (inside n) (ap (λ m. row_at m p) gone ∙ row_removed mid.pools pool p)
      ∙ by (same_name p pool) refl ∙ there p n
    where
      by : (b : Bool) → same_name p pool ≡ b → inside n (cond b None (row_at mid.pools p)) ≡ kept_in mid p n
      by true t = sym (in_pool mid p n t ∙ ap (inside n) at ∙ ap (λ m. row_at m n) none ∙ ap flat (get-empty name_cmp n))
      by false t = refl

-- nothing is shown where there are no tables
pub shows_none : (shown : ShownNodes) → shown.pools ≡ empty → (p n : Name) → kept_in shown p n ≡ None
shows_none shown none p n = ap (option_and_then (λ nodes. row_at nodes n)) (ap (λ m. row_at m p) none ∙ ap flat (get-empty name_cmp p))
