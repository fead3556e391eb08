-- The names of a table are in their order, each once.
use Rattle.std.specs.Prelude.{◌≡◌, ℕ, Bool, true, false, cond, ◌||◌, List, [], ◌∷◌, Option, Some, None, fold, map, option_map}
use Rattle.std.proofs.Common.{refl, sym, ap, ◌∙◌}
use Rattle.std.specs.FinMap.{empty, entries, find, from_entries, get, get-empty, get-from_entries, get-insert, insert, same_map}
use Rattle.keyed.specs.Table.{has_slot, with_slot}
use Rattle.ns_types.specs.declared.snapshot.Snapshot.{Snapshot}
use Rattle.ns_types.specs.State.Lists.{sorted_names}
use Rattle.ns_types.specs.State.Names.{ByName, Name, has_name, name_cmp, same_name}
use Rattle.ns_types.specs.State.Tables.{table_of}
use Rattle.ns_types.specs.Working.Commit.{names_in, node_name}
use Rattle.ns_types.proofs.Elements.{map_map}
use Rattle.ns_types.proofs.Lists.{cond_same}
use Rattle.ns_types.proofs.Named.{names, one_name}
use Rattle.ns_types.proofs.Tables.{entries-table_of, get-table_of}
use Rattle.ns_plan_result.specs.Answering.{with_name}

abbrev here : Name → Option Unit
here name = Some tt

get_with : (m : ByName (Option Unit)) (n q : Name) → get (with_name m n) q ≡ cond (same_name q n) (Some (Some tt)) (get m q)
get_with m n q = get-insert names (with_slot m n) n (Some tt) q ∙ by (same_name q n) refl
  where
    room : (b : Bool) → same_name q n ≡ false → get (cond b m (insert m n None)) q ≡ get m q
    room true other = refl
    room false other = get-insert names m n None q ∙ ap (λ b. cond b (Some None) (get m q)) other

    by : (b : Bool) → same_name q n ≡ b → cond b (Some (Some tt)) (get (with_slot m n) q) ≡ cond b (Some (Some tt)) (get m q)
    by true same = refl
    by false other = room (has_slot m n) other

abbrev pub names_put : ByName (Option Unit) → List Name → ByName (Option Unit)
names_put m ns = fold with_name m ns

get_put : (ns : List Name) (m : ByName (Option Unit)) (q : Name) → get (names_put m ns) q ≡ cond (has_name ns q) (Some (Some tt)) (get m q)
get_put [] m q = refl
get_put (n ∷ ns) m q = get_put ns (with_name m n) q ∙ ap (cond (has_name ns q) (Some (Some tt))) (get_with m n q) ∙ by (same_name q n) (has_name ns q)
  where
    by : (s h : Bool) → cond h (Some (Some tt)) (cond s (Some (Some tt)) (get m q)) ≡ cond (s || h) (Some (Some tt)) (get m q)
    by true h = cond_same h (Some (Some tt))
    by false h = refl

abbrev named : List Name → ByName Name
named ns = from_entries {R = name_cmp} (map (λ n. (n, n)) ns)

found : (ns : List Name) (q : Name) → option_map here (find name_cmp q (map (λ n. (n, n)) ns)) ≡ cond (has_name ns q) (Some (Some tt)) None
found [] q = refl
found (n ∷ ns) q = by (same_name q n) (found ns q)
  where
    by : (s : Bool) → option_map here (find name_cmp q (map (λ n. (n, n)) ns)) ≡ cond (has_name ns q) (Some (Some tt)) None →
        option_map here (cond s (Some n) (find name_cmp q (map (λ n. (n, n)) ns))) ≡ cond (s || has_name ns q) (Some (Some tt)) None
    by true rest = refl
    by false rest = rest

put_is : (ns : List Name) → names_put empty ns ≡ table_of (λ _. here) (named ns)
put_is ns = same_map names one_name _ _ (λ q. get_put ns empty q ∙ ap (cond (has_name ns q) (Some (Some tt))) (get-empty name_cmp q) ∙ sym (found ns q)
    ∙ ap (option_map here) (sym (get-from_entries names (map (λ n. (n, n)) ns) q))
    ∙ sym (get-table_of names one_name (λ _. here) (named ns) q))

sorted_is : (ns : List Name) → map (λ e. e.0) (entries (names_put empty ns)) ≡ sorted_names ns
sorted_is ns = ap (λ m. map (λ (e : Name × Option Unit). e.0) (entries m)) (put_is ns)
    ∙ ap (map (λ (e : Name × Option Unit). e.0)) (entries-table_of (λ _. here) (named ns))
    ∙ map_map (λ (e : Name × Option Unit). e.0) (λ (e : Name × Name). (e.0, here e.1)) (entries (named ns))

-- one place after another
each_name : (kept : Snapshot) (ks : List ℕ) (m : ByName (Option Unit)) →
    fold (λ m k. with_name m (node_name kept k)) m ks ≡ names_put m (map (node_name kept) ks)
each_name kept [] m = refl
each_name kept (k ∷ ks) m = each_name kept ks (with_name m (node_name kept k))

pub names_are : (kept : Snapshot) (ks : List ℕ) → map (λ e. e.0) (entries (fold (λ m k. with_name m (node_name kept k)) empty ks)) ≡ names_in kept ks
names_are kept ks = ap (λ m. map (λ (e : Name × Option Unit). e.0) (entries m)) (each_name kept ks empty) ∙ sorted_is (map (node_name kept) ks)
