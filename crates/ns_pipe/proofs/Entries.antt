-- Entries that were read so far have what their types keep.
use Rattle.std.proofs.Common.{◌≡◌, ℕ, ◌+◌, ◌<◌, List, [], ◌∷◌, length, take, get_or, sym, subst}
use Rattle.std.specs.Prelude.{IsTrue}
use Rattle.std.proofs.lemmas.List.{take_more}
use Rattle.ns_types.specs.declared.reply.Rendered.{Rendered}
use Rattle.ns_types.specs.declared.step.Step.{Step}
use Rattle.ns_types.specs.State.Lists.{Each}
use Rattle.ns_types.specs.Within.{IsGoodStep}
use Rattle.ns_types.proofs.Elements.{each_append}
use Rattle.ns_json.specs.Replies.{Entry}
use Rattle.ns_log_reader.specs.Lines.{answer_fits, step_fits}
use Rattle.ns_pipe.specs.Readable.{IsTyped}

pub entry_typed : (e : Entry) (step : Step) (rendered : Rendered) → step ≡ e.0 → rendered ≡ e.1 → IsGoodStep step →
    IsTrue (step_fits step) → IsTrue (answer_fits rendered) → IsTyped e
entry_typed e step rendered a b good fits answer = record {
  good = subst IsGoodStep a good;
  step = subst (λ s. IsTrue (step_fits s)) a fits;
  answer = subst (λ r. IsTrue (answer_fits r)) b answer;
}

-- one more
pub typed_more : (es : List Entry) (i : ℕ) (e : Entry) → i < length es → e ≡ get_or es i e → Each IsTyped (take i es) → IsTyped e →
    Each IsTyped (take (i + 1) es)
typed_more es i e within is h k =
    subst (Each IsTyped) (sym (take_more es i e within))
    (each_append IsTyped (take i es) (get_or es i e ∷ []) h (subst IsTyped is k, tt))
