use Rattle.std.proofs.Common.{◌≡◌, ◌<◌, ℕ, List, length}
use Rattle.zmtp_connection.specs.Exchange.{source_at}
use Rattle.zmtp_connection.specs.Open.{IsLeftOf}
use Rattle.zmtp_connection.proofs.ListenLemmas.{ListeningSoFar}
use Rattle.zmtp_connection.proofs.listening.listen_on.Given as goal

abbrev pub invariant-pieces : goal.invariant-pieces
invariant-pieces g l = record {
  room : 0 < length l.piece.items;
  same : g.L.Listener.names l.listener ≡ g.L.Listener.names l.fn.listener;
  so_far : (before : List ℕ) → IsLeftOf l.fn.unheard before
      → ListeningSoFar g.L.Listener.hears l.fn.listener l.listener l.decoder
      (source_at (g.R.Inlet.inflow l.fn.reader) l.fn.turns) (source_at (g.R.Inlet.inflow l.reader) l.left) before;
}

abbrev pub decreases-pieces : goal.decreases-pieces
decreases-pieces g l = l.left
