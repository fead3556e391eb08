-- A line for each event.
use Rattle.std.proofs.Common.{◌≡◌, ℕ, ◌+◌, ◌<◌, List, [], ◌∷◌, ◌++◌, take, length, get_or, refl, sym, ap, ◌∙◌, append_assoc}
use Rattle.std.specs.List.{flat_map}
use Rattle.std.proofs.lemmas.List.{append-nil, take_more}
use Rattle.std.proofs.lemmas.List.Concat.{flat_map-append, flat_map-cons}
use Rattle.serde_json.specs.Written.{compact_text}
use Rattle.ns_types.specs.declared.event.Event.{Event}
use Rattle.ns_types.specs.State.Names.{Name}
use Rattle.ns_json.specs.Replies.{event_line}
use Rattle.ns_replies.specs.Events.{shown_json}

-- one line more
pub lines_more : (ns : Name) (es : List Event) (i : ℕ) (e : Event) (before text after : List ℕ) → i < length es → e ≡ get_or es i e →
    before ≡ flat_map (event_line ns) (take i es) → text ≡ compact_text (shown_json ns e) → after ≡ (before ++ text) ++ 10 ∷ [] →
    after ≡ flat_map (event_line ns) (take (i + 1) es)
unfolding event_line
lines_more ns es i e before text after inside is first shows added =
    let more : flat_map (event_line ns) (take (i + 1) es) ≡ flat_map (event_line ns) (take i es) ++ event_line ns e =
    ap (flat_map (event_line ns)) (take_more es i e inside ∙ rw (← is) refl) ∙ flat_map-append (event_line ns) (take i es) (e ∷ []) ∙
    ap (λ y. flat_map (event_line ns) (take i es) ++ y) (flat_map-cons (event_line ns) e [] ∙ append-nil (event_line ns e)) in
    added ∙ append_assoc before text (10 ∷ []) ∙ ap (λ x. before ++ (x ++ 10 ∷ [])) shows ∙ ap (λ x. x ++ event_line ns e) first ∙ sym more
