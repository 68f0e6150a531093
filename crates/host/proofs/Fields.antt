-- A field of each element of a table, after a write of one element.
use Rattle.std.proofs.Math.Seq.{map-set_same}
use Rattle.std.proofs.lemmas.List.{map-set}

-- the write is one of that field, and none of a field that stays
pub ruleset fields = (map-set, map-set_same)
