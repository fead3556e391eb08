-- The room that a node gives by registering.
use Rattle.std.specs.Prelude.{Bool, true, not, ◌&&◌, Option, Some, None}
use Rattle.ns_types.specs.declared.node.Node.{Node}
use Rattle.ns_types.specs.declared.node.Offer.{Offer}
use Rattle.ns_types.specs.Settling.Releases.{same_offer}
use Rattle.ns_types.specs.State.Rows.{is_free}

-- a new node gives room, and so does a free node with another offer
abbrev pub gives_room : Offer → Option Node → Bool
gives_room offer None = true
gives_room offer (Some old) = is_free old && not (same_offer old.offer offer)
