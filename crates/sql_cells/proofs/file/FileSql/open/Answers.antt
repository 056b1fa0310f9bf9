use Rattle.sql_cells.proofs.file.FileSql.open.Goals as goal

pub returns-in-Ok-clause-opened : goal.returns-in-Ok-clause-opened
returns-in-Ok-clause-opened c = (
  c.in-Ok.conn,
  c.over.ensures,
  c.in-Ok.ensures.fresh,
  λ clean. (c.in-Ok.ensures.opened clean, c.in-Ok.ensures.plain clean),
)
