-- What an engine and its end hold: their parts, and what is always true of these.
use Rattle.kernel_engine.specs.declared.engine.Engine.TheInside as engine
use Rattle.kernel_engine.specs.declared.engine_end.EngineEnd.TheInside as end
use Rattle.kernel_engine.specs.declared.parts.Parts.{Parts}
use Rattle.kernel_engine.specs.WellBlocked.{KeepsBlocks}
use Rattle.kernel_engine.specs.World.{World}

module _ {I P S W Cell : Type 0} where
  -- the parts of an engine
  abbrev pub parts_of_engine : engine.Inside I P S W Cell → Parts I P S W
  parts_of_engine engine = engine.parts

  -- what is always true of the parts of an engine
  abbrev pub IsSound : World I P S W Cell → engine.Inside I P S W Cell → Type 0
  IsSound world engine = KeepsBlocks world engine.parts

  -- the parts of an engine that was closed
  abbrev pub parts_at_end : end.Inside I P S W Cell → Parts I P S W
  parts_at_end end = end.parts

  -- what is always true of the parts of an engine that was closed
  abbrev pub IsSoundAtEnd : World I P S W Cell → end.Inside I P S W Cell → Type 0
  IsSoundAtEnd world end = KeepsBlocks world end.parts
