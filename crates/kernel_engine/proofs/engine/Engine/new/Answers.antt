use Rattle.std.proofs.Common.{arith, [], None, refl}
use Rattle.kernel_engine.proofs.engine.Engine.new.Goals as goal

pub invariant_of-result : goal.invariant_of-result
invariant_of-result g c = record {
  blocked = record {
    history = record { started = None; blocks = [] };
    items_are = c.requires;
    began = tt;
    cuts = tt;
    rise = refl;
    owes = tt;
  };
  refused = tt;
  counted = omega arith;
  last = omega arith;
}
