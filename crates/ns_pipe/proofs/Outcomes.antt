-- What a log comes to, by what its parts are.
use Rattle.std.specs.Prelude.{◌≡◌, ℕ, List, [], take, drop, Some}
use Rattle.std.proofs.Common.{subst, sym, ◌∙◌, ap}
use Rattle.ns_types.specs.Isolation.{Part, part_of}
use Rattle.ns_types.specs.State.Names.{Name}
use Rattle.ns_types.specs.State.Rows.{State}
use Rattle.ns_types.specs.Steps.{opening}
use Rattle.ns_types.specs.declared.reply.Rendered.{Rendered}
use Rattle.ns_json.specs.Replies.{Entry, IsKept}
use Rattle.ns_log_reader.specs.Lines as lines
use Rattle.ns_log_reader.specs.Lines.{IsLogOf}
use Rattle.ns_replay.specs.declared.fault.ReplayFault.{ReplayFault}
use Rattle.ns_replay.specs.Replay.{IsFault, RepliesAlone, own_entries, replies_of}
use Rattle.ns_pipe.specs.Claimed.{pools_for, quotas_for}
use Rattle.ns_pipe.specs.declared.replay.ending.ReplayEnd.{ReplayEnd}
use Rattle.ns_pipe.specs.declared.replay.replay.Replay.{Replay}
use Rattle.ns_replay.specs.Rerunning.{IsNoRunAt}
use Rattle.ns_pipe.specs.Outcome.{ComesTo, ReplaysTo, base_len, ending_of, place_of}
use Rattle.ns_pipe.specs.Text.{own_lines}

-- ---- entries that are replayed

module _ (ns : Name) (pools quotas : List Name) (base : State) (first : ℕ) (entries : List Entry) where
  abbrev pub part : Part
  part = part_of ns pools quotas

  pub replays_same : (replies : List Rendered) (text : Name) → RepliesAlone ns pools quotas base entries replies →
      replies ≡ replies_of (own_entries part entries) → text ≡ own_lines part first entries →
      ReplaysTo ns pools quotas base first entries text ReplayEnd.Same
  replays_same replies text alone logged e =
      subst (λ t. ReplaysTo ns pools quotas base first entries t ReplayEnd.Same) (sym e)
      (ReplaysTo.same (subst (RepliesAlone ns pools quotas base entries) logged alone))

  pub replays_fault : (fault : ReplayFault) (ending : ReplayEnd) (text : Name) → IsFault ns pools quotas base entries fault →
      ending_of first fault ≡ Some ending → text ≡ own_lines part first (take (place_of fault) entries) →
      ReplaysTo ns pools quotas base first entries text ending
  replays_fault fault ending text is ends e =
      subst (λ t. ReplaysTo ns pools quotas base first entries t ending) (sym e) (ReplaysTo.fault fault ending is ends)

-- ---- the whole

module _ (bytes : Name) (replay : Replay) (text : Name) where
  pub bad_line : (line : ℕ) → text ≡ [] → lines.IsFault bytes line → ComesTo bytes replay text (ReplayEnd.BadLine line)
  bad_line line e is = subst (λ t. ComesTo bytes replay t (ReplayEnd.BadLine line)) (sym e) (ComesTo.bad_line line is)

  module _ (secret : Name) (entries : List Entry) (is_log : IsLogOf bytes secret entries) (first : ℕ) (is_first : first ≡ base_len replay.from entries)
      (front rest : List Entry) (is_front : front ≡ take first entries) (is_rest : rest ≡ drop first entries) where
    pub no_base : (place : ℕ) → text ≡ [] → IsNoRunAt (opening secret) front place → ComesTo bytes replay text (ReplayEnd.NotARun place)
    no_base place e is = subst (λ t. ComesTo bytes replay t (ReplayEnd.NotARun place)) (sym e)
        (ComesTo.no_base secret entries place is_log
        (subst (λ log. IsNoRunAt (opening secret) log place) (is_front ∙ ap (λ n. take n entries) is_first) is))

    abbrev pub ReplaysBehind : State → ℕ → List Entry → Name → ReplayEnd → Type 0
    ReplaysBehind base = ReplaysTo replay.namespace (pools_for replay base) (quotas_for replay base) base

    pub replayed : (base : State) (ending : ReplayEnd) → IsKept (opening secret) front base → ReplaysBehind base first rest text ending →
        ComesTo bytes replay text ending
    replayed base ending kept is = ComesTo.replayed secret entries base text ending is_log
        (subst (λ log. IsKept (opening secret) log base) (is_front ∙ ap (λ n. take n entries) is_first) kept)
        (subst (λ log. ReplaysBehind base (base_len replay.from entries) log text ending) (is_rest ∙ ap (λ n. drop n entries) is_first)
        (subst (λ n. ReplaysBehind base n rest text ending) is_first is))
