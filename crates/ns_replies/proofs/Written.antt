-- The tokens of what replies show, and their texts.
use Rattle.std.proofs.Common.{◌≡◌, ℕ, ◌≤◌, ◌<◌, ◌^◌, List, [], ◌∷◌, ◌++◌, map, length, refl, sym, ap, ◌∙◌, arith, append_assoc, Result, Ok, Err, codes, decimal}
use Rattle.std.specs.Prelude.{OnOk}
use Rattle.std.specs.List.{flat_map}
use Rattle.std.proofs.lemmas.List.Concat.{flat_map-cons}
use Rattle.json.specs.Token.{Token, begin_object, end_object, begin_array, end_array, key, string, number}
use Rattle.json.specs.Print.{print, escape_byte}
use Rattle.json.specs.Tree.{room, members_tokens}
use Rattle.json.specs.Written.{Written}
use Rattle.serde_json.specs.Data
use Rattle.serde_json.specs.Written.{compact_text, members_outline}
use Rattle.serde_json.proofs.Texts.{print-outline}
use Rattle.ns_types.specs.declared.node.Attribute.{Attribute}
use Rattle.ns_types.specs.declared.records.Namespace.{Namespace}
use Rattle.ns_types.specs.declared.id.IdKind.TheVariants as IdKind
use Rattle.ns_types.specs.declared.reply.NodeShown.{NodeShown}
use Rattle.ns_types.specs.Wire.Words.{eligibility_text, node_status_text}
use Rattle.ns_types.specs.State.Id.{id_text}
use Rattle.ns_json.specs.Part.{Follows, tokens_of}
use Rattle.ns_json.specs.Rendering.{list_of, texts_of, members_of, resources_json, attributes_json, node_json, allowed_json, pools_json, stopped_json}
use Rattle.ns_json.proofs.Parts.{follows_more, list_tokens}
use Rattle.ns_json.proofs.Replies.{length-quoted, length-number, length-id}

-- the last of what is written, where nothing is said of a failure
pub follows_then : {E : Type 0} (r : Result (Unit {0}) E) (a b c : Written) (ts us all : List Token) → ts ++ us ≡ all → Follows a b ts →
    OnOk r (Follows b c us) → OnOk r (Follows a c all)
follows_then (Ok u) a b c ts us all e p q = let f = follows_more a b c ts us p q in record { tokens = f.tokens ∙ ap (λ x. a.tokens ++ x) e; before = f.before }
follows_then (Err x) a b c ts us all e p q = tt

-- the tokens of a list
pub array_tokens : {X : Type 0} (json : X → Data.Data) (xs : List X) → begin_array ∷ (flat_map (λ x. tokens_of (json x)) xs ++ end_array ∷ []) ≡ tokens_of
    (list_of json xs)
array_tokens json xs = ap (λ ts. begin_array ∷ ts) (sym (list_tokens json xs))

attribute_members : (attributes : List Attribute)
    → members_tokens (members_outline (members_of (map (λ a. (a.key, Data.string a.value)) attributes))) ≡ flat_map (λ a. key a.key ∷ string a.value ∷ [])
    attributes ++ end_object ∷ []
attribute_members [] = refl
attribute_members (a ∷ attributes) =
    let f = λ (x : Attribute). key x.key ∷ string x.value ∷ [] in
    ap (λ ts. f a ++ ts) (attribute_members attributes) ∙ sym (append_assoc (f a) (flat_map f attributes) (end_object ∷ [])) ∙
    ap (λ ts. ts ++ end_object ∷ []) (sym (flat_map-cons f a attributes))

-- the tokens of a node's attributes
pub attribute_tokens : (attributes : List Attribute) → begin_object ∷ (flat_map (λ a. key a.key ∷ string a.value ∷ []) attributes ++ end_object ∷ [])
    ≡ tokens_of (attributes_json attributes)
attribute_tokens attributes = ap (λ ts. begin_object ∷ ts) (sym (attribute_members attributes))

regrouped : (a b c d : List Token) → ((a ++ b) ++ c) ++ d ≡ a ++ (b ++ (c ++ d))
regrouped a b c d = append_assoc (a ++ b) c d ∙ append_assoc a b (c ++ d)

-- the tokens of a namespace's pools, as they are written
pub pools_tokens : (n : Namespace) (default : List ℕ) → default ≡ n.default_pool
    → begin_object ∷ key (codes "Allowed") ∷ (((tokens_of (allowed_json n.allowed) ++ key (codes "Default") ∷ string default ∷ key (codes "Denied") ∷ []) ++
    tokens_of (texts_of n.denied)) ++ end_object ∷ [])
    ≡ tokens_of (pools_json n)
unfolding pools_json
pools_tokens n default e =
    ap (λ ts. begin_object ∷ key (codes "Allowed") ∷ ts)
    (regrouped (tokens_of (allowed_json n.allowed)) (key (codes "Default") ∷ string default ∷ key (codes "Denied") ∷ []) (tokens_of (texts_of n.denied))
    (end_object ∷ []) ∙ rw e refl)

-- the tokens of a node, as they are written
pub node_tokens : (n : NodeShown) (eligibility name class pool status : List ℕ) (attributes : List Attribute) → attributes ≡ n.row.offer.attributes →
    eligibility ≡ eligibility_text n.row.eligible → name ≡ n.name
    → class ≡ n.row.offer.class → pool ≡ n.pool → status ≡ node_status_text n.row.status
    → begin_object ∷ key (codes "Attributes") ∷ (((tokens_of (attributes_json attributes)
    ++ key (codes "CPU") ∷ number (decimal n.row.offer.capacity.cpu) ∷ key (codes "DiskMB") ∷ number (decimal n.row.offer.capacity.disk) ∷
    key (codes "Eligibility") ∷ string eligibility ∷ key (codes "MemoryMB") ∷ number
    (decimal n.row.offer.capacity.memory) ∷ key (codes "Name") ∷ string name
    ∷ key (codes "NodeClass") ∷ string class ∷ key (codes "NodePool") ∷ string pool ∷ key (codes "Status") ∷ string status ∷ key (codes "Used") ∷ [])
    ++ tokens_of (resources_json n.used)) ++ end_object ∷ [])
    ≡ tokens_of (node_json n)
unfolding node_json
node_tokens n eligibility name class pool status attributes a b c d e f =
    rw (a, b, c, d, e, f) (ap (λ ts. begin_object ∷ key (codes "Attributes") ∷ ts)
    (regrouped (tokens_of (attributes_json n.row.offer.attributes)) _ (tokens_of (resources_json n.used)) (end_object ∷ [])))

-- the text of what was written first
pub text_written : (old new : Written) (d : Data.Data) (items : List ℕ) → Follows old new (tokens_of d) → old.tokens ≡ [] → items ≡ print new.tokens →
    items ≡ compact_text d
text_written old new d items h none is =
    let all : new.tokens ≡ tokens_of d = h.tokens ∙ ap (λ t. t ++ tokens_of d) none in
    is ∙ rw all (print-outline d)

pub nothing_text : (items : List ℕ) → items ≡ print (begin_object ∷ end_object ∷ []) → items ≡ codes "{}"
nothing_text items is = is ∙ print-outline (Data.object Data.no_members)

pub stopped_tokens : (evaluation index : ℕ) (id : List ℕ) → id ≡ id_text IdKind.Evaluation evaluation
    → begin_object ∷ key (codes "EvalID") ∷ string id ∷ key (codes "Index") ∷ number (decimal index) ∷ end_object ∷ [] ≡ tokens_of
    (stopped_json evaluation index)
unfolding stopped_json
stopped_tokens evaluation index id e = rw (← e) refl

pub stopped_text : (evaluation index : ℕ) (id items : List ℕ) → id ≡ id_text IdKind.Evaluation evaluation
    → items ≡ print (begin_object ∷ key (codes "EvalID") ∷ string id ∷ key (codes "Index") ∷ number (decimal index) ∷ end_object ∷ []) →
    items ≡ compact_text (stopped_json evaluation index)
stopped_text evaluation index id items e is = is ∙ rw (stopped_tokens evaluation index id e) (print-outline (stopped_json evaluation index))

room_with : (index : ℕ) (id : List ℕ) → index < 2 ^ 64 → length id ≡ 36
    → room (begin_object ∷ key (codes "EvalID") ∷ string id ∷ key (codes "Index") ∷ number (decimal index) ∷ end_object ∷ []) ≤ 320
unfolding escape_byte
room_with index id small len = omega (arith, length-number index small, length-quoted id, len)

-- what answers a stop fits where what answers a registration does
pub stopped_room : (evaluation index : ℕ) (id : List ℕ) → id ≡ id_text IdKind.Evaluation evaluation → index < 2 ^ 64
    → room (begin_object ∷ key (codes "EvalID") ∷ string id ∷ key (codes "Index") ∷ number (decimal index) ∷ end_object ∷ []) ≤ 320
stopped_room evaluation index id e small = room_with index id small (ap length e ∙ length-id IdKind.Evaluation evaluation)
