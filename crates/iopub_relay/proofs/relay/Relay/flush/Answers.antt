use Rattle.iopub_relay.proofs.FlushLemmas.{fits_alike}
use Rattle.iopub_relay.proofs.relay.Relay.flush.Goals as goal

pub invariant_of-self : goal.invariant_of-self
invariant_of-self g c = record {
  numbers = c.self.invariant.numbers;
  served = c.self.invariant.served;
  is_served = c.self.invariant.is_served;
  rising = c.is_rising.ensures;
  fits = fits_alike g.W.Outlet.outflow c.self.inside.table c.flush-keeps.new.self c.self.invariant.served
      c.flush-keeps.ensures c.self.invariant.fits;
}
