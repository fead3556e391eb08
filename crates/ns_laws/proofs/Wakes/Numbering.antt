-- What gives room is numbered.
use Rattle.std.specs.Prelude.{◌≡◌, ◌⊎◌, ℕ, ◌+◌, Bool, true, false, cond, not, ◌&&◌, ◌||◌, List, [], ◌∷◌, Some, fold, filter, option_map}
use Rattle.std.proofs.Common.{refl, sym, ap, subst, ◌∙◌, inl, inr}
use Rattle.std.specs.Cmp.{tied_itself}
use Rattle.std.specs.FinMap.{get, get-insert, insert, entries}
use Rattle.std.specs.Option.{option_map_or}
use Rattle.std.specs.Ordering.{is_eq}
use Rattle.ns_types.specs.declared.node.Class.{Class}
use Rattle.ns_types.specs.declared.node.Node.{Node}
use Rattle.ns_types.specs.Settling.Releases.{ends, gives_room, is_on, released_classes, releases_quota, same_offer}
use Rattle.ns_types.specs.Settling.Settle.{after_release, after_quota_release, settle}
use Rattle.ns_types.specs.State.Names.{ByClass, Name, has_class, same_class}
use Rattle.ns_types.specs.State.Rows.{World, PoolRows, QuotaRows, class_of, is_free, node_at}
use Rattle.ns_types.specs.State.Tables.{any_row}
use Rattle.ns_types.proofs.Classes.{by_class}
use Rattle.ns_types.proofs.Elements.{any_map}
use Rattle.ns_types.proofs.Lists.{left_none, not_both, right_none}
use Rattle.ns_types.proofs.Named.{one_name}
use Rattle.ns_types.proofs.Tables.{none_of_any}
use Rattle.ns_types.proofs.Tests.{same_Some}
use Rattle.ns_audit.proofs.ValidAllocations.Going.{release_nodes}
use Rattle.ns_laws.specs.Waking.{GotNoRoom, GotNoQuota, RoomIsNumbered, QuotaRoomIsNumbered}
use Rattle.ns_laws.proofs.Wakes.Waking.{any_filtered, free_of, quota_same, settled_pools, settled_quotas, was_there}

-- ---- classes

-- a class that has the number keeps it, and one of the list gets it
keeps_number : (n : ℕ) (classes : List Class) (known : ByClass ℕ) (class : Class) → get known class ≡ Some n →
    get (fold (λ known c. insert known c n) known classes) class ≡ Some n
keeps_number n [] known class is = is
keeps_number n (c ∷ classes) known class is = keeps_number n classes (insert known c n) class (get-insert by_class known c n class ∙ by (same_class class c))
  where
    by : (b : Bool) → cond b (Some n) (get known class) ≡ Some n
    by true = refl
    by false = is

gets_number : (n : ℕ) (classes : List Class) (known : ByClass ℕ) (class : Class) → has_class classes class ≡ true →
    get (fold (λ known c. insert known c n) known classes) class ≡ Some n
gets_number n [] known class has = not_both has refl
gets_number n (c ∷ classes) known class has = by (gets_number n classes (insert known c n) class) (same_class class c) refl has
  where
    by : (has_class classes class ≡ true → get (fold (λ known c. insert known c n) (insert known c n) classes) class ≡ Some n) → (b : Bool) →
        same_class class c ≡ b → (b || has_class classes class) ≡ true → get (fold (λ known c. insert known c n) (insert known c n) classes) class ≡ Some n
    by later true same has = keeps_number n classes (insert known c n) class
        (get-insert by_class known c n class ∙ ap (λ b. cond b (Some n) (get known class)) same)
    by later false same has = later has

-- the class of a node that gives room is released
is_released : (w x : World) (pool name : Name) (p : PoolRows) (row : Node) → get p.nodes name ≡ Some row → gives_room w x pool name row ≡ true →
    has_class (released_classes w x pool p) (class_of row) ≡ true
unfolding released_classes any_row
is_released w x pool name p row at gives = by (has_class (released_classes w x pool p) (class_of row)) refl
  where
    by : (b : Bool) → has_class (released_classes w x pool p) (class_of row) ≡ b → b ≡ true
    by true is = refl
    by false is = not_both (λ i. gives i && ap is_eq (tied_itself by_class (class_of row)) i)
        (none_of_any one_name (λ n node. gives_room w x pool n node && same_class (class_of row) (class_of node)) p.nodes name row
        (sym (any_map (same_class (class_of row)) (λ n. class_of n.1) (filter (λ n. gives_room w x pool n.0 n.1) (entries p.nodes))
        ∙ any_filtered (λ n. same_class (class_of row) (class_of n.1)) (λ n. gives_room w x pool n.0 n.1) (entries p.nodes)) ∙ is) at)

numbered : (classes : List Class) (p : PoolRows) (class : Class) → has_class classes class ≡ true →
    ((after_release classes p).release ≡ p.release + 1) × (get (after_release classes p).classes class ≡ Some (after_release classes p).release)
numbered [] p class has = not_both has refl
numbered (c ∷ classes) p class has = (refl, gets_number (p.release + 1) (c ∷ classes) p.classes class has)

pub room_is_numbered : RoomIsNumbered
room_is_numbered w x pool name own later row is after at opens =
    let same = same_Some (after_release (released_classes w x pool own) own) later
    (sym (settled_pools w x pool ∙ ap (option_map (λ p. after_release (released_classes w x pool p) p)) is) ∙ after) in
    let there = ap (λ m. get m name) (sym (release_nodes (released_classes w x pool own) own)) ∙ ap (λ (p : PoolRows). get p.nodes name) same ∙ at in
    by same there (gives_room w x pool name row) refl
  where
    by : after_release (released_classes w x pool own) own ≡ later → get own.nodes name ≡ Some row → (b : Bool) → gives_room w x pool name row ≡ b →
        GotNoRoom w (settle w x) pool name row ⊎ ((later.release ≡ own.release + 1) × (get later.classes (class_of row) ≡ Some later.release))
    by same there true gives = inr (subst (λ (p : PoolRows). (p.release ≡ own.release + 1) × (get p.classes (class_of row) ≡ Some p.release)) same
        (numbered (released_classes w x pool own) own (class_of row) (is_released w x pool name own row there gives)))
    by same there false none =
        let why = ap (λ b. b && (option_map_or (λ old. not (is_free old) || not (same_offer old.offer row.offer)) (node_at w pool name) true
        || ends w x (is_on pool name))) (sym (free_of row opens)) ∙ none in
        inl (was_there w x pool name row (node_at w pool name) refl (left_none _ _ why) (right_none _ (ends w x (is_on pool name)) why))

-- ---- quotas

pub quota_room_is_numbered : QuotaRoomIsNumbered
quota_room_is_numbered w x quota old own later was is after =
    by (releases_quota w x quota own) refl (same_Some (after_quota_release (releases_quota w x quota own) own) later
    (sym (settled_quotas w x quota ∙ ap (option_map (λ q. after_quota_release (releases_quota w x quota q) q)) is) ∙ after))
  where
    by : (b : Bool) → releases_quota w x quota own ≡ b → after_quota_release b own ≡ later →
        GotNoQuota w (settle w x) quota old later ⊎ (later.release ≡ own.release + 1)
    by true gives same = inr (ap (λ (q : QuotaRows). q.release) (sym same))
    by false none same = inl (quota_same w x quota old own was none later (ap (λ (q : QuotaRows). q.quota) same))
