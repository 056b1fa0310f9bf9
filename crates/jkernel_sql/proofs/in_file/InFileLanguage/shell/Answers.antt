use Rattle.std.proofs.Common.{inr}
use Rattle.jkernel_sql.proofs.in_file.InFileLanguage.shell.Goals as goal

pub returns-in-Ok-clause-begun : goal.returns-in-Ok-clause-begun
returns-in-Ok-clause-begun c =
    let opened = c.in-Ok.ensures.opened in
    inr (opened.0, opened.1, λ clean. (opened.3 clean).0)
