use Rattle.ns_laws.proofs.Choices.Placement.{fits_where_room}
use Rattle.ns_laws.proofs.placement.fits_where_room.Goals as goal

pub returns : goal.returns
returns c = fits_where_room
