-- The loop that forgets the changed nodes of a pool.
use Rattle.std.specs.Prelude.{◌≡◌, ℕ, ◌+◌, ◌<◌, Bool, true, false, cond, ◌&&◌, if◌then◌else◌, List, [], ◌∷◌, ◌++◌, Option, Some, None, length, option_map}
use Rattle.std.proofs.Common.{refl, sym, ap, subst, ◌∙◌, get_or, take}
use Rattle.std.proofs.lemmas.List.{take_more}
use Rattle.std.specs.FinMap.{entries, get-entries}
use Rattle.std.specs.FinMap.Entries.{find}
use Rattle.ns_types.specs.declared.node.Node.{Node}
use Rattle.ns_types.specs.declared.snapshot.PoolNode.{PoolNode}
use Rattle.ns_types.specs.State.Lists.{Each}
use Rattle.ns_types.specs.State.Names.{Name, ByName, name_cmp, same_name}
use Rattle.ns_types.proofs.Elements.{each_append}
use Rattle.ns_types.proofs.Lists.{not_both}
use Rattle.ns_types.proofs.Named.{same_name_is}
use Rattle.ns_types.proofs.Tests.{not_Some}
use Rattle.ns_live_index.specs.declared.live.Live.{Live}
use Rattle.ns_live_index.specs.Index.{KeepsKeys}
use Rattle.ns_live_index.specs.Naming.{KeepsNames}
use Rattle.ns_live_index.proofs.Kept.{kept_same, kept_then}
use Rattle.ns_live_index.specs.declared.shown.SeenNode.{SeenNode}
use Rattle.ns_live_index.specs.declared.shown.ShownNode.{ShownNode}
use Rattle.ns_live_index.specs.Shown.{ForgetsNodes, KeepsBases, ShowsThere, as_behind, base_at, if_seen, if_shown, kept_in, shown_at}

abbrev Slots : Type 0
Slots = List (Name × Option Node)

unfound : (n : Name) (es : Slots) → Each (λ e. same_name n e.0 ≡ false) es → find name_cmp n es ≡ None
unfound n [] h = refl
unfound n (e ∷ es) h = ap (λ b. cond b (Some e.1) (find name_cmp n es)) h.0 ∙ unfound n es h.1

-- what is left of a node whose row changed, if it stays
abbrev left_of : Bool → Option ShownNode → Option ShownNode
left_of stays kept = if stays then option_map as_behind kept else None

unshown : (stays : Bool) (kept : Option ShownNode) → if_shown (left_of stays kept) ≡ None
unshown true None = refl
unshown true (Some kept) = refl
unshown false kept = refl

still_seen : (stays : Bool) (kept : Option ShownNode) (seen : SeenNode) → if_seen (left_of stays kept) ≡ Some seen → if_seen kept ≡ Some seen
still_seen true None seen is = is
still_seen true (Some kept) seen is = is
still_seen false kept seen is = absurd (not_Some seen is)

module _ (pool : Name) where
  pub record IsForgetting (old now : Live) (done : Slots) : Type 0 where
    pub keys : KeepsKeys old now
    pub names : KeepsNames old now
    pub shown : (p n : Name) (node : PoolNode) → shown_at now p n ≡ Some node →
        (shown_at old p n ≡ Some node) × (same_name p pool ≡ true → Each (λ e. same_name n e.0 ≡ false) done)
    pub bases : KeepsBases old now

  pub begun : (live : Live) → IsForgetting live live []
  begun live = record { keys = kept_same live; names = refl; shown = λ p n node is. (is, λ own. tt); bases = λ p n seen is. is }

  module _ (slots : Slots) (i : ℕ) (e : Name × Option Node) (lt : i < length slots) (is : e ≡ get_or slots i e) where
    pub one_forgotten : (old now new : Live) (stays : Bool) → KeepsKeys now new → KeepsNames now new →
        ShowsThere pool e.0 (if stays then option_map as_behind (kept_in now.shown pool e.0) else None) now.shown new.shown →
        IsForgetting old now (take i slots) → IsForgetting old new (take (i + 1) slots)
    one_forgotten old now new stays keys names there h = record {
      keys = kept_then old now new h.keys keys;
      names = names ∙ h.names;
      shown = λ p n node at. by p n node (same_name p pool) refl (same_name n e.0) refl (sym (ap if_shown (there p n)) ∙ at);
      bases = λ p n seen at. seen_by p n seen (same_name p pool) refl (same_name n e.0) refl (sym (ap if_seen (there p n)) ∙ at);
    }
      where
        more : take (i + 1) slots ≡ take i slots ++ e ∷ []
        more = take_more slots i e lt ∙ ap (λ x. take i slots ++ x ∷ []) (sym is)

        by : (p n : Name) (node : PoolNode) (b : Bool) → same_name p pool ≡ b → (c : Bool) → same_name n e.0 ≡ c →
            if_shown (if b && c then left_of stays (kept_in now.shown pool e.0) else kept_in now.shown p n) ≡ Some node →
            (shown_at old p n ≡ Some node) × (same_name p pool ≡ true → Each (λ e. same_name n e.0 ≡ false) (take (i + 1) slots))
        by p n node true t true u at = absurd (not_Some node (sym (unshown stays (kept_in now.shown pool e.0)) ∙ at))
        by p n node true t false u at =
            let g = h.shown p n node at in (
              g.0,
              λ own. subst (Each (λ e. same_name n e.0 ≡ false)) (sym more)
                  (each_append (λ e. same_name n e.0 ≡ false) (take i slots) (e ∷ []) (g.1 own) (u, tt)),
            )
        by p n node false t c u at = ((h.shown p n node at).0, λ own. not_both own t)

        seen_by : (p n : Name) (seen : SeenNode) (b : Bool) → same_name p pool ≡ b → (c : Bool) → same_name n e.0 ≡ c →
            if_seen (if b && c then left_of stays (kept_in now.shown pool e.0) else kept_in now.shown p n) ≡ Some seen → base_at old p n ≡ Some seen
        seen_by p n seen true t true u at = h.bases p n seen (ap if_seen (λ i. kept_in now.shown (same_name_is p pool t i) (same_name_is n e.0 u i))
            ∙ still_seen stays (kept_in now.shown pool e.0) seen at)
        seen_by p n seen true t false u at = h.bases p n seen at
        seen_by p n seen false t c u at = h.bases p n seen at

  pub all_forgotten : (changes : ByName (Option Node)) (slots : Slots) → slots ≡ entries changes → (old now : Live) → IsForgetting old now slots →
      ForgetsNodes pool changes old now
  all_forgotten changes slots is old now h = record {
    nodes = λ p n node at.
        let g = h.shown p n node at in (
          g.0,
          λ own. get-entries changes n ∙ unfound n (entries changes) (subst (Each (λ e. same_name n e.0 ≡ false)) is (g.1 own)),
        );
    bases = h.bases;
  }
