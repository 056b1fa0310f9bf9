use denote.Param.Send.{sendable}
use Rattle.sql_cells.proofs.FileLemmas.{file_sql_send}
use Rattle.jkernel_sql.proofs.laws.law_kernel_is_of_file.Goals as goal

pub law_program_is_started-requires-send-L-Interp :
    goal.law_program_is_started-requires-send-L-Interp
law_program_is_started-requires-send-L-Interp c κs = search (file_sql_send, sendable) depth 12
