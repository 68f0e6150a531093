-- What the host by call means.
use Rattle.std.specs.Prelude.{map}
use Rattle.host.specs.Meaning.{HostMeaning}
use Rattle.host.specs.declared.by_call.CallTable.{CallTable}

abbrev pub by_call : CallTable → HostMeaning
by_call t = record { modes = map (λ c. c.mode) t.calls; orders = map (λ c. c.order) t.calls; ports = t.ports; circuits = t.circuits }
