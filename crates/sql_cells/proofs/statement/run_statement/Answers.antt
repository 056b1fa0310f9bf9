use Rattle.std.proofs.Common.{arith, ◌≡◌, ◌≢◌, length, inl, inr}
use Rattle.sqlite.specs.Held.{state}
use Rattle.sqlite.specs.State.{HasCleanDisk}
use Rattle.sql_cells.proofs.StatementLemmas.{nothing, prepared_and_ran, something}
use Rattle.sql_cells.proofs.statement.run_statement.Goals as goal

pub returns-in-Ok-execute-clause-runs : goal.returns-in-Ok-execute-clause-runs
returns-in-Ok-execute-clause-runs g c clean =
    let early : HasCleanDisk (state g.S.Store c.prepare.new.self) = omega (arith, c.execute.ensures.survives.clean) in
    let ok = c.in-Ok.ensures.ok early in
    let none : length c.in-Ok.statement.columns ≡ 0 = let t = c.if-column_count-eq0.true in
    let e = c.column_count.ensures in omega (arith, t, e) in (
      c.prepare.new.self,
      c.in-Ok.statement,
      record { text = ok.0; outlines = c.in-Ok.ensures.shape early; same = ok.1; limit = c.prepare.ensures.survives.limit },
      nothing _ none,
      rw ok.0 at (c.in-Ok-execute.ensures.runs clean),
    )

pub returns-in-Err-execute-clause-runs : goal.returns-in-Err-execute-clause-runs
returns-in-Err-execute-clause-runs g c clean =
    let early : HasCleanDisk (state g.S.Store c.prepare.new.self) = omega (arith, c.execute.ensures.survives.clean) in
    let ok = c.in-Ok.ensures.ok early in
    let none : length c.in-Ok.statement.columns ≡ 0 = let t = c.if-column_count-eq0.true in
    let e = c.column_count.ensures in omega (arith, t, e) in
    inr (
      c.prepare.new.self,
      c.in-Ok.statement,
      record { text = ok.0; outlines = c.in-Ok.ensures.shape early; same = ok.1; limit = c.prepare.ensures.survives.limit },
      inr (nothing _ none, rw ok.0 at (c.in-Err-execute.ensures.runs clean)),
    )

pub returns-in-Ok-query_all-clause-runs : goal.returns-in-Ok-query_all-clause-runs
returns-in-Ok-query_all-clause-runs g c clean =
    let early : HasCleanDisk (state g.S.Store c.prepare.new.self) = omega (arith, c.query_all.ensures.survives.clean) in
    let ok = c.in-Ok.ensures.ok early in
    let some : length c.in-Ok.statement.columns ≢ 0 = λ none. let t = c.if-column_count-eq0.false in
    let e = c.column_count.ensures in omega (arith, t, e, none) in (
      c.prepare.new.self,
      record { text = ok.0; outlines = c.in-Ok.ensures.shape early; same = ok.1; limit = c.prepare.ensures.survives.limit },
      something _ some,
      rw ok.0 at (c.in-Ok-query_all.ensures.ok clean),
    )

pub returns-in-Err-query_all-clause-runs : goal.returns-in-Err-query_all-clause-runs
returns-in-Err-query_all-clause-runs g c clean =
    let early : HasCleanDisk (state g.S.Store c.prepare.new.self) = omega (arith, c.query_all.ensures.survives.clean) in
    let ok = c.in-Ok.ensures.ok early in
    let some : length c.in-Ok.statement.columns ≢ 0 = λ none. let t = c.if-column_count-eq0.false in
    let e = c.column_count.ensures in omega (arith, t, e, none) in
    inr (
      c.prepare.new.self,
      c.in-Ok.statement,
      record { text = ok.0; outlines = c.in-Ok.ensures.shape early; same = ok.1; limit = c.prepare.ensures.survives.limit },
      inl (something _ some, rw ok.0 at (c.in-Err-query_all.ensures.err clean)),
    )

pub returns-in-Ok-execute-clause-spares : goal.returns-in-Ok-execute-clause-spares
returns-in-Ok-execute-clause-spares g c =
    prepared_and_ran g.S.Store c.args.sql.now c.args.conn.now c.prepare.new.self c.execute.new.conn _
    c.prepare.ensures.survives c.execute.ensures.survives (λ db clean by.
    let early : HasCleanDisk (state g.S.Store c.prepare.new.self) = omega (arith, clean, c.execute.ensures.survives.clean) in
    let ok = c.in-Ok.ensures.ok early in (
      c.prepare.new.self,
      c.in-Ok.statement,
      record {
        text = ok.0;
        outlines = c.in-Ok.ensures.shape early;
        same = ok.1;
        limit = c.prepare.ensures.survives.limit;
      },
      inl (rw ok.0 at by),
    ))

pub returns-in-Err-execute-clause-spares : goal.returns-in-Err-execute-clause-spares
returns-in-Err-execute-clause-spares g c =
    prepared_and_ran g.S.Store c.args.sql.now c.args.conn.now c.prepare.new.self c.execute.new.conn _
    c.prepare.ensures.survives c.execute.ensures.survives (λ db clean by.
    let early : HasCleanDisk (state g.S.Store c.prepare.new.self) = omega (arith, clean, c.execute.ensures.survives.clean) in
    let ok = c.in-Ok.ensures.ok early in (
      c.prepare.new.self,
      c.in-Ok.statement,
      record {
        text = ok.0;
        outlines = c.in-Ok.ensures.shape early;
        same = ok.1;
        limit = c.prepare.ensures.survives.limit;
      },
      inl (rw ok.0 at by),
    ))

pub returns-in-Ok-query_all-clause-spares : goal.returns-in-Ok-query_all-clause-spares
returns-in-Ok-query_all-clause-spares g c =
    prepared_and_ran g.S.Store c.args.sql.now c.args.conn.now c.prepare.new.self c.query_all.new.conn _
    c.prepare.ensures.survives c.query_all.ensures.survives (λ db clean by.
    let early : HasCleanDisk (state g.S.Store c.prepare.new.self) = omega (arith, clean, c.query_all.ensures.survives.clean) in
    let ok = c.in-Ok.ensures.ok early in (
      c.prepare.new.self,
      c.in-Ok.statement,
      record {
        text = ok.0;
        outlines = c.in-Ok.ensures.shape early;
        same = ok.1;
        limit = c.prepare.ensures.survives.limit;
      },
      inr (rw ok.0 at by),
    ))

pub returns-in-Err-query_all-clause-spares : goal.returns-in-Err-query_all-clause-spares
returns-in-Err-query_all-clause-spares g c =
    prepared_and_ran g.S.Store c.args.sql.now c.args.conn.now c.prepare.new.self c.query_all.new.conn _
    c.prepare.ensures.survives c.query_all.ensures.survives (λ db clean by.
    let early : HasCleanDisk (state g.S.Store c.prepare.new.self) = omega (arith, clean, c.query_all.ensures.survives.clean) in
    let ok = c.in-Ok.ensures.ok early in (
      c.prepare.new.self,
      c.in-Ok.statement,
      record {
        text = ok.0;
        outlines = c.in-Ok.ensures.shape early;
        same = ok.1;
        limit = c.prepare.ensures.survives.limit;
      },
      inr (rw ok.0 at by),
    ))
