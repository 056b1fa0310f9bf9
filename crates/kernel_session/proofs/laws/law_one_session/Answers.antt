use Rattle.zmtp_wire.specs.declared.handshake.socket_type.SocketType.TheVariants.{Router}
use Rattle.kernel_session.specs.Laws.{ends_as_asked}
use Rattle.kernel_session.specs.Session.{Performs}
use Rattle.zmtp_connection.proofs.HearOnce.{Laws}
use Rattle.zmtp_connection.proofs.ServeOnce.{serves_once}
use Rattle.zmtp_connection.proofs.ServeStays.{serves_on}
use Rattle.kernel_session.proofs.SessionOnce.{RequestLaws, performs_once}
use Rattle.kernel_session.proofs.laws.law_one_session.Goals as goal

pub returns : goal.returns
returns g c =
    let laws : Laws = record {
      front = c.law_one_reading.ensures.front;
      goes_on = c.law_one_reading.ensures.goes_on;
      fault = c.law_one_fault.ensures.once;
      no_traffic = c.law_one_fault.ensures.no_traffic;
      stays = c.law_one_fault.ensures.stays;
      ready = c.law_ready_has_one_outcome.ensures;
    } in
    let requests : RequestLaws g.I.Interpreter.meaning = record {
      opened = c.law_opened_once.ensures.opened_once;
      refused = c.law_refused_is_not_opened.ensures.refused_is_not_opened;
      publishes = c.law_one_course.ensures.published;
      answers = c.law_one_course.ensures.answered;
    } in
    record {
      once = λ stop setting. serves_once laws (Performs g.I.Interpreter.meaning (g.T.Stop.may_ask stop) setting)
          ends_as_asked (performs_once g.I.Interpreter.meaning requests (g.T.Stop.may_ask stop) setting) Router;
      stays = λ stop setting. serves_on laws (Performs g.I.Interpreter.meaning (g.T.Stop.may_ask stop) setting) Router;
    }
