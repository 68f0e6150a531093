-- The modes of a call: the number and the name of each.
use Rattle.std.specs.Prelude.{ℕ, Bool, List, codes, ◌==◌}
use Rattle.host.specs.declared.mode.Mode.{Mode}
use Rattle.host.specs.declared.mode.Mode.TheVariants.{NotHeld, Held, OnPort, OnCircuit}

abbrev pub mode_number : Mode → ℕ
mode_number NotHeld = 0
mode_number Held = 1
mode_number OnPort = 2
mode_number OnCircuit = 3

abbrev pub mode_name : Mode → List ℕ
mode_name NotHeld = codes "not held"
mode_name Held = codes "held"
mode_name OnPort = codes "held on a port"
mode_name OnCircuit = codes "held on a circuit"

abbrev pub same_mode : Mode → Mode → Bool
same_mode m n = mode_number m == mode_number n
