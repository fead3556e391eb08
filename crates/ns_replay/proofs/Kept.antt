-- A run by one entry more, or one that does not fit.
use Rattle.std.specs.Prelude.{◌≡◌, ℕ, ◌+◌, ◌<◌, List, [], ◌∷◌, ◌++◌, get_or, length, map, take, Result, Ok, Err, IfErr, IsErrAnd}
use Rattle.std.proofs.Common.{refl, ap, sym, subst, ◌∙◌}
use Rattle.std.proofs.lemmas.List.{map-append, take_more}
use Rattle.std.proofs.lemmas.Option.{slice_get_read}
use Rattle.ns_types.specs.State.Rows.{State}
use Rattle.ns_types.specs.Steps.{Run}
use Rattle.ns_json.specs.Replies.{Entry, IsKept, rendered}
use Rattle.ns_steps.proofs.Runs.{run_then}
use Rattle.ns_replay.specs.Replying.{Fits, FitsIn}
use Rattle.ns_replay.specs.declared.rerun.rerunning.RerunFault.{RerunFault}
use Rattle.ns_replay.specs.declared.rerun.rerunning.RerunFault.TheVariants.{Memory}
use Rattle.ns_replay.specs.Rerunning.{IsNoRunAt, IsRerunFault}

kept_then : (s mid s' : State) (log : List Entry) (entry : Entry) → IsKept s log mid → Fits entry mid s' → IsKept s (log ++ entry ∷ []) s'
kept_then s mid s' log entry k f = record {
  answers = k.answers ++ f.answer ∷ [];
  run = subst (λ steps. Run s steps (k.answers ++ f.answer ∷ []) s') (sym (map-append (λ e. e.0) log (entry ∷ [])))
      (run_then s mid s' (map (λ e. e.0) log) k.answers entry.0 f.answer k.run f.made);
  rendering = map-append rendered k.answers (f.answer ∷ []) ∙ ap (λ xs. xs ++ rendered f.answer ∷ []) k.rendering
      ∙ ap (λ r. map (λ e. e.1) log ++ r ∷ []) f.logged ∙ sym (map-append (λ e. e.1) log (entry ∷ []));
}

module _ (s mid : State) (entries : List Entry) (i : ℕ) (entry : Entry) (within : i < length entries) (is : entry ≡ get_or entries i entry)
    (before : IsKept s (take i entries) mid) where
  pub kept_more : (s' : State) → Fits entry mid s' → IsKept s (take (i + 1) entries) s'
  kept_more s' fits = subst (λ log. IsKept s log s') (ap (λ e. take i entries ++ e ∷ []) is ∙ sym (take_more entries i entry within))
      (kept_then s mid s' (take i entries) entry before fits)

  pub no_run_at : (FitsIn entry mid → ⊥) → IsNoRunAt s entries i
  no_run_at unfit = record {
    entry = entry;
    state = mid;
    is_entry = slice_get_read entries (length entries) i entry refl within is;
    before = before;
    unfit = unfit;
  }

-- want of memory is a fault of any log
pub no_memory : {T : Type 0} (s : State) (entries : List Entry) (r : Result T RerunFault) → IsErrAnd r (λ fault. fault ≡ Memory) →
    IfErr r (IsRerunFault s entries)
no_memory s entries (Ok x) is = tt
no_memory s entries (Err fault) is = subst (IsRerunFault s entries) (sym is) tt
