use denote.Param.Send.{sendable}
use Rattle.sql_cells.proofs.FileLemmas.{file_sql_send}
use Rattle.jkernel_sql.proofs.main.Goals as goal

pub start_on-requires-in-InFile-send-L-Interp :
    goal.start_on-requires-in-InFile-send-L-Interp
start_on-requires-in-InFile-send-L-Interp g c κs = search (file_sql_send, sendable) depth 12
