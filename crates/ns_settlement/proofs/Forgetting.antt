-- The loop that forgets the nodes that change.
use Rattle.std.specs.Prelude.{◌≡◌, ℕ, ◌+◌, ◌<◌, Bool, true, false, cond, List, [], ◌∷◌, ◌++◌, Option, Some, None, length}
use Rattle.std.proofs.Common.{refl, sym, ap, subst, ◌∙◌, get_or, take}
use Rattle.std.proofs.lemmas.List.{take_more}
use Rattle.std.specs.FinMap.{FinMap, entries, get, get-entries}
use Rattle.std.specs.FinMap.Entries.{find}
use Rattle.keyed.specs.Table.{flat}
use Rattle.ns_types.specs.declared.snapshot.PoolNode.{PoolNode}
use Rattle.ns_types.specs.State.Lists.{Each}
use Rattle.ns_types.specs.State.Names.{Name, name_cmp, same_name}
use Rattle.ns_types.proofs.Elements.{each_append}
use Rattle.ns_types.proofs.Tests.{not_Some, same_Some}
use Rattle.ns_change.specs.declared.change.PoolChange.{PoolChange}
use Rattle.ns_settlement.specs.Indexed.{ForgetsChanged}
use Rattle.ns_live_index.specs.declared.live.Live.{Live}
use Rattle.ns_live_index.specs.Index.{KeepsKeys}
use Rattle.ns_live_index.specs.Naming.{KeepsNames}
use Rattle.ns_live_index.specs.Shown.{ForgetsNodes, KeepsBases, shown_at}
use Rattle.ns_live_index.proofs.Kept.{kept_same, kept_then}

abbrev Slots : Type 0
Slots = List (Name × Option PoolChange)

-- the slot is of another pool, or its change has no such node
abbrev IsOther : Name → Name → Name × Option PoolChange → Type 0
IsOther pool name slot = (x : PoolChange) → slot.1 ≡ Some x → same_name pool slot.0 ≡ true → get x.nodes name ≡ None

pub record IsForgetting (old now : Live) (done : Slots) : Type 0 where
  pub keys : KeepsKeys old now
  pub names : KeepsNames old now
  pub shown : (pool name : Name) (node : PoolNode) → shown_at now pool name ≡ Some node →
      (shown_at old pool name ≡ Some node) × Each (IsOther pool name) done
  pub bases : KeepsBases old now

pub begun : (live : Live) → IsForgetting live live []
begun live = record { keys = kept_same live; names = refl; shown = λ pool name node is. (is, tt); bases = λ pool name seen is. is }

module _ (slots : Slots) (i : ℕ) (e : Name × Option PoolChange) (lt : i < length slots) (is : e ≡ get_or slots i e) (old now : Live)
    (h : IsForgetting old now (take i slots)) where
  one_more : (new : Live) → KeepsKeys now new → KeepsNames now new → ((pool name : Name) (node : PoolNode) → shown_at new pool name ≡ Some node →
      (shown_at now pool name ≡ Some node) × IsOther pool name e) → KeepsBases now new → IsForgetting old new (take (i + 1) slots)
  one_more new keys names forgets bases = record {
    keys = kept_then old now new h.keys keys;
    names = names ∙ h.names;
    shown = λ pool name node at.
        let g = forgets pool name node at in
        let before = h.shown pool name node g.0 in (
          before.0,
          subst (Each (IsOther pool name)) (sym (take_more slots i e lt ∙ ap (λ x. take i slots ++ x ∷ []) (sym is)))
              (each_append (IsOther pool name) (take i slots) (e ∷ []) before.1 (g.1, tt)),
        );
    bases = λ pool name seen at. h.bases pool name seen (bases pool name seen at);
  }

  pub one_forgotten : (new : Live) (x : PoolChange) → e.1 ≡ Some x → KeepsKeys now new → KeepsNames now new → ForgetsNodes e.0 x.nodes now new →
      IsForgetting old new (take (i + 1) slots)
  one_forgotten new x some keys names forgets = one_more new keys names (λ pool name node at.
      let g = forgets.nodes pool name node at in
      (g.0, λ y there own. subst (λ x. get x.nodes name ≡ None) (same_Some x y (sym some ∙ there)) (g.1 own))) forgets.bases

  pub none_forgotten : (new : Live) → e.1 ≡ None → new ≡ now → IsForgetting old new (take (i + 1) slots)
  none_forgotten new none stays = subst (λ live. IsForgetting old live (take (i + 1) slots)) (sym stays)
      (one_more now (kept_same now) refl (λ pool name node at. (at, λ y there own. absurd (not_Some y (sym none ∙ there))))
      (λ pool name seen at. at))

other_all : (pool name : Name) (es : Slots) → Each (IsOther pool name) es → (x : PoolChange) → flat (find name_cmp pool es) ≡ Some x →
    get x.nodes name ≡ None
other_all pool name [] h x at = absurd (not_Some x at)
other_all pool name (e ∷ es) h x at = by (other_all pool name es h.1 x) (same_name pool e.0) refl at
  where
    by : (flat (find name_cmp pool es) ≡ Some x → get x.nodes name ≡ None) → (b : Bool) → same_name pool e.0 ≡ b →
        flat (cond b (Some e.1) (find name_cmp pool es)) ≡ Some x → get x.nodes name ≡ None
    by later true t at = h.0 x at t
    by later false t at = later at

pub all_forgotten : (changes : FinMap name_cmp (Option PoolChange)) (slots : Slots) → slots ≡ entries changes → (old now : Live) →
    IsForgetting old now slots → ForgetsChanged changes old now
all_forgotten changes slots is old now h = record {
  nodes = λ pool name node at.
      let g = h.shown pool name node at in (
        g.0,
        λ x there. other_all pool name (entries changes) (subst (Each (IsOther pool name)) is g.1) x (sym (ap flat (get-entries changes pool)) ∙ there),
      );
  bases = h.bases;
}
