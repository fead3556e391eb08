-- Members of objects, and the tokens of commands.
use Rattle.std.specs.Prelude.{List, [], ◌∷◌, ◌++◌, codes}
use Rattle.json.specs.Token.{Token}
use Rattle.json.specs.Tree.{members_tokens}
use Rattle.serde_json.specs.Data.{Data, null, boolean, string}
use Rattle.serde_json.specs.Written.{members_outline}
use Rattle.ns_types.specs.State.Names.{Name}
use Rattle.ns_json.specs.Part.{tokens_of}
use Rattle.ns_json.specs.Rendering.{number_of, object_of, members_of, namespace_json, quota_json, pool_json, policy_json}
use Rattle.ns_json.specs.Logs.{Call, documented, registration_json, new_token_json, offer_json}
use Rattle.ns_log.specs.declared.document.Document.{Document}
use Rattle.ns_log.specs.declared.member.Member.{Member}

abbrev pub document_json : Document → Data
document_json (Document.Registration r) = registration_json r.now
document_json (Document.Namespace name n) = namespace_json (record { name = name.now; row = n.now })
document_json (Document.Quota name q) = quota_json (record { name = name.now; row = q.now })
document_json (Document.Pool name p) = pool_json (record { name = name.now; row = p.now })
document_json (Document.Policy name p) = policy_json (record { name = name.now; row = p.now })
document_json (Document.Token t) = new_token_json t.now
document_json (Document.Offer o) = offer_json o.now

abbrev pub member_of : Member → Name × Data
member_of (Member.Text name text) = (name.now, string text.now)
member_of (Member.Word name word) = (name.now, string word.now)
member_of (Member.Number name n) = (name.now, number_of n)
member_of (Member.Flag name b) = (name.now, boolean b)
member_of (Member.Null name) = (name.now, null)
member_of (Member.Document d) = documented (document_json d)

abbrev pub member_tokens : Name × Data → List Token
member_tokens m = Token.key m.0 ∷ tokens_of m.1

-- the last members of an object, and its end
abbrev pub end_tokens : List (Name × Data) → List Token
end_tokens ms = members_tokens (members_outline (members_of ms))

-- the tokens of the members that a command has
abbrev pub call_tokens : Call → List Token
call_tokens call = Token.key (codes "Args") ∷ (tokens_of (object_of call.1) ++
    Token.key (codes "Do") ∷ Token.string call.0 ∷ [])
