use Rattle.std.proofs.Common.{refl}
use Rattle.host_by_place.proofs.Standing.{alike, none_stands}
use Rattle.host_by_place.proofs.table.PlaceTable.over.Goals as goal

pub returns : goal.returns
returns c = alike (none_stands c.args.places c.requires) refl refl refl
