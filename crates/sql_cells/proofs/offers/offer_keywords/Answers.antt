use Rattle.sql_cells.specs.Offers.{keywords}
use Rattle.sql_cells.proofs.offers.offer_keywords.Goals as goal

pub returns : goal.returns
unfolding keywords
returns c = c.offer_words.ensures
