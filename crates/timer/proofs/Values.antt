-- The values that a timer and a clock's answer have in memory. Assumes nothing.
use Rattle.std.proofs.Common.{w32}
use mir.Val.{Val, vbool, vint, vstruct, vnil, vcons}
use Rattle.timer.specs.declared.Timer.{Timer}
use Rattle.timer.specs.declared.Ticked.{Ticked}

abbrev pub timer_value : Timer → Val
timer_value t = vstruct (vcons (vint w32 t.count) (vcons (vint w32 t.maximum) (vcons (vint w32 t.divider) vnil)))

abbrev pub ticked_value : Ticked → Val
ticked_value r = vstruct (vcons (timer_value r.timer) (vcons (vbool r.reached) vnil))
