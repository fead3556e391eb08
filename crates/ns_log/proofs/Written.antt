-- The tokens of members and of steps.
use Rattle.std.proofs.Common.{◌≡◌, ℕ, ◌+◌, ◌<◌, List, [], ◌∷◌, ◌++◌, length, get_or, take, map, refl, sym, ap, ◌∙◌}
use Rattle.std.proofs.Common.{append_assoc, codes, decimal}
use Rattle.std.specs.Option.{option_map_or}
use Rattle.std.specs.List.{flat_map}
use Rattle.std.proofs.lemmas.List.{append-nil, take_more}
use Rattle.std.proofs.lemmas.List.Concat.{flat_map-cons, flat_map-append}
use Rattle.json.specs.Token.{Token, begin_object, end_object, begin_array, end_array, key, string, number}
use Rattle.json.specs.Tree.{items_tokens}
use Rattle.serde_json.specs.Data.{Data}
use Rattle.serde_json.specs.View.{items_of}
use Rattle.serde_json.specs.Written.{compact_text, items_outline}
use Rattle.ns_types.specs.declared.job.Constraint.{Constraint}
use Rattle.ns_types.specs.declared.job.Group.{Group}
use Rattle.ns_types.specs.declared.job.Registration.{Registration}
use Rattle.ns_types.specs.declared.reply.Rendered.{Rendered}
use Rattle.ns_types.specs.declared.step.Step.{Step}
use Rattle.ns_types.specs.State.Names.{Name}
use Rattle.ns_types.specs.Wire.Words.{kind_text}
use Rattle.ns_json.specs.Part.{tokens_of}
use Rattle.ns_json.specs.Rendering.{object_of, constraint_json, group_json}
use Rattle.ns_json.specs.Logs.{Call, call_members, registration_json, entry_json, line_of}
use Rattle.ns_json.specs.Replies.{Entry}
use Rattle.ns_json.proofs.JobParts.{constraint_tokens, group_tokens, list_then, regroup}
use Rattle.ns_log.specs.declared.member.Member.{Member}
use Rattle.ns_log.specs.Members.{member_of, member_tokens, end_tokens, call_tokens}

-- the tokens of the last members, one after the other
pub members_end : (ms : List Member) → end_tokens (map member_of ms) ≡ flat_map (λ m. member_tokens (member_of m)) ms ++ end_object ∷ []
members_end [] = refl
members_end (m ∷ ms) =
    let f = λ (x : Member). member_tokens (member_of x) in
    ap (λ ts. f m ++ ts) (members_end ms) ∙ sym (append_assoc (f m) (flat_map f ms) (end_object ∷ [])) ∙
    ap (λ ts. ts ++ end_object ∷ []) (sym (flat_map-cons f m ms))

-- the tokens of a step that asks or tells
pub step_tokens : (call : Call) (others : List (Name × Data)) → begin_object ∷ (call_tokens call ++ end_tokens others) ≡ tokens_of
    (object_of (call_members call others))
step_tokens call others = ap (λ ts. begin_object ∷ key (codes "Args") ∷ ts)
    (append_assoc (tokens_of (object_of call.1)) (key (codes "Do") ∷ string call.0 ∷ []) (end_tokens others))

abbrev head : List Token
head = begin_object ∷ key (codes "Constraints") ∷ begin_array ∷ []

abbrev middle : Registration → Name → Name → List Token
middle r id pool =
    end_array ∷ key (codes "ID") ∷ string id ∷ key (codes "NodePool") ∷ string pool ∷ key (codes "Priority") ∷ number (decimal r.priority)
    ∷ key (codes "TaskGroups") ∷ begin_array ∷ []

abbrev tail : Name → List Token
tail kind = end_array ∷ key (codes "Type") ∷ string kind ∷ end_object ∷ []

-- the tokens of a registration, as they are written
pub registration_tokens : (r : Registration) (cs : List Constraint) (gs : List Group) (id pool kind : Name) → cs ≡ r.constraints → gs ≡ r.groups →
    id ≡ r.id → pool ≡ option_map_or (λ t. t) r.pool [] → kind ≡ kind_text r.kind
    → (((head ++ constraint_tokens cs) ++ middle r id pool) ++ group_tokens gs) ++ tail kind ≡ tokens_of (registration_json r)
unfolding registration_json
registration_tokens r cs gs id pool kind e1 e2 e3 e4 e5 =
    regroup head (constraint_tokens cs) (middle r id pool) (group_tokens gs) (tail kind)
    ∙ rw (e1, e2, e3, e4, e5, list_then constraint_json r.constraints, list_then group_json r.groups) refl

-- one more line
pub lines_more : {X : Type 0} (f : X → Name) (old text new : Name) (xs : List X) (i : ℕ) (x : X) → i < length xs → x ≡ get_or xs i x →
    text ≡ old ++ flat_map f (take i xs) → new ≡ text ++ f x → new ≡ old ++ flat_map f (take (i + 1) xs)
lines_more f old text new xs i x lt is p q =
    let e : flat_map f (take (i + 1) xs) ≡ flat_map f (take i xs) ++ f x = ap (flat_map f) (take_more xs i x lt ∙ rw (← is) refl) ∙
    flat_map-append f (take i xs) (x ∷ []) ∙ ap (λ y. flat_map f (take i xs) ++ y) (flat_map-cons f x [] ∙ append-nil (f x)) in
    q ∙ ap (λ t. t ++ f x) p ∙ append_assoc old (flat_map f (take i xs)) (f x) ∙ ap (λ t. old ++ t) (sym e)

-- the line of an entry by its parts
pub entry_line : (e : Entry) (step : Step) (rendered : Rendered) → step ≡ e.0 → rendered ≡ e.1 →
    line_of (compact_text (entry_json (step, rendered))) ≡ line_of (compact_text (entry_json e))
entry_line e step rendered a b = rw (a, b) refl
