use Rattle.zmtp_connection.proofs.HearOnce.{Laws}
use Rattle.zmtp_connection.proofs.ServeOnce.{serves_once}
use Rattle.zmtp_connection.proofs.ServeStays.{serves_on}
use Rattle.zmtp_connection.proofs.laws.law_one_serving.Goals as goal

pub returns : goal.returns
returns g c =
    let laws : Laws = record {
      front = c.law_one_reading.ensures.front;
      goes_on = c.law_one_reading.ensures.goes_on;
      fault = c.law_one_fault.ensures.once;
      no_traffic = c.law_one_fault.ensures.no_traffic;
      stays = c.law_one_fault.ensures.stays;
      ready = c.law_ready_has_one_outcome.ensures;
    } in
    record {
      once = serves_once laws g.S.Server.answers;
      stays = serves_on laws g.S.Server.answers;
    }
