use Rattle.zmtp_connection.proofs.HearOnce.{Laws, open_away}
use Rattle.zmtp_connection.proofs.laws.law_open_or_turned_away.Goals as goal

pub returns : goal.returns
returns c =
    let laws : Laws = record {
      front = c.law_one_reading.ensures.front;
      goes_on = c.law_one_reading.ensures.goes_on;
      fault = c.law_one_fault.ensures.once;
      no_traffic = c.law_one_fault.ensures.no_traffic;
      stays = c.law_one_fault.ensures.stays;
      ready = c.law_ready_has_one_outcome.ensures;
    } in
    open_away laws
