-- What the fields of a `Cut` are as a value.
use Rattle.utf8_cut.specs.declared.Cut.TheInside.{Inside}
use Rattle.utf8_cut.specs.Value.{CutState, IsSoundCut}

abbrev pub state : Inside → CutState
state c = record { held = c.held.items; start = c.start; count = c.count; is_bad = c.is_bad }

abbrev pub IsSoundInside : Inside → Type 0
IsSoundInside c = IsSoundCut (state c)
