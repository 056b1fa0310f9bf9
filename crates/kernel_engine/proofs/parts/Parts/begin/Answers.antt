use Rattle.kernel_engine.proofs.parts.Parts.begin.Goals as goal

pub returns-clause-begun : goal.returns-clause-begun
returns-clause-begun g c =
    let few = rw (c.if-is_worn.false) at (c.is_worn.ensures) in
    let pays = rw (c.if-not-pay.false) at (c.pay.ensures) in
    let (header, pending) = c.into_pending-header.ensures in
    record {
      few = few;
      paid = c.pay.new.self;
      opens = c.open.new.self;
      pays = pays;
      begins = rw header at c.in-Ok.ensures.0;
      answers = rw pending at c.answer-answered.ensures;
    }
