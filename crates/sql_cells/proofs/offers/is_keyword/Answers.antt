use Rattle.sql_cells.specs.Offers.{keywords}
use Rattle.sql_cells.proofs.offers.is_keyword.Goals as goal

pub returns : goal.returns
unfolding keywords
returns c = c.is_among.ensures
