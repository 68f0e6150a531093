-- The places that a held call can be put on: the mode of a call there, and the name of each.
use Rattle.std.specs.Prelude.{ℕ, List, codes}
use Rattle.host.specs.declared.mode.Mode.{Mode}
use Rattle.host.specs.declared.mode.Mode.TheVariants.{OnPort, OnCircuit}
use Rattle.host.specs.declared.place.Place.{Place}
use Rattle.host.specs.declared.place.Place.TheVariants.{Port, Circuit}

abbrev pub mode_on : Place → Mode
mode_on Port = OnPort
mode_on Circuit = OnCircuit

abbrev pub place_name : Place → List ℕ
place_name Port = codes "port"
place_name Circuit = codes "circuit"
