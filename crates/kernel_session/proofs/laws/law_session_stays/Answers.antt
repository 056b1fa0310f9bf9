use Rattle.zmtp_wire.specs.declared.handshake.socket_type.SocketType.TheVariants.{Router}
use Rattle.kernel_session.specs.Session.{Performs}
use Rattle.zmtp_connection.proofs.HearOnce.{Laws}
use Rattle.zmtp_connection.proofs.ServeStays.{serves_on}
use Rattle.kernel_session.proofs.laws.law_session_stays.Goals as goal

pub returns : goal.returns
returns g c =
    let laws : Laws = record {
      front = c.law_one_reading.ensures.front;
      goes_on = c.law_one_reading.ensures.goes_on;
      fault = c.law_one_fault.ensures.once;
      no_traffic = c.law_one_fault.ensures.no_traffic;
      stays = c.law_one_fault.ensures.stays;
      ready = c.law_ready_has_one_outcome.ensures;
    } in
    λ stop setting. serves_on laws (Performs g.I.Interpreter.meaning (g.T.Stop.may_ask stop) setting) Router
