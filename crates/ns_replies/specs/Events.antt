-- An event as its line shows it.
use Rattle.std.specs.Prelude.{[], ◌∷◌, codes}
use Rattle.serde_json.specs.Data.{Data}
use Rattle.ns_types.specs.declared.event.Event.{Event}
use Rattle.ns_types.specs.State.Names.{Name}
use Rattle.ns_json.specs.Rendering.{list_of, number_of, object_of}
use Rattle.ns_json.specs.Replies.{event_json}

-- a list of this one event, and its index
abbrev pub shown_json : Name → Event → Data
shown_json ns e =
    object_of ((codes "Events", list_of (event_json ns) (e ∷ [])) ∷ (codes "Index", number_of e.index) ∷ [])
