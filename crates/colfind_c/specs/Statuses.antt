-- The numbers of the header.
use Rattle.colfind_c.specs.declared.outcome.Status.{Status}
use Rattle.colfind_c.specs.declared.outcome.Outcome.{Outcome}
use Rattle.colfind_c.specs.declared.outcome.Outcome.TheVariants.{Good, Table, Pattern, Text, State, NoMemory, Partly, WrongHandle, Ended, Short, BadArgument}

abbrev pub status_of : Outcome → Status
status_of Good = record { kind = 0; at = 0 }
status_of (Table f) = record { kind = f.kind; at = f.line }
status_of (Pattern f) = record { kind = f.kind; at = 0 }
status_of (Text f) = record { kind = f.kind; at = f.offset }
status_of (State f) = record { kind = f.kind; at = 0 }
status_of NoMemory = record { kind = 81; at = 0 }
status_of (Partly fed) = record { kind = 81; at = fed }
status_of WrongHandle = record { kind = 82; at = 0 }
status_of Ended = record { kind = 83; at = 0 }
status_of (Short words) = record { kind = 84; at = words }
status_of BadArgument = record { kind = 85; at = 0 }
