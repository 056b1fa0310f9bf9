-- An interpreter over a file may go to another thread.
use denote.Param.Send.{IsSend, sendable}
use Rattle.sql_cells.specs.contracts.file.FileSql as file_sql
use Rattle.sql_cells.proofs.cells.Sql.TheSendSync as sql
use Rattle.sqlite_disk.proofs.modelled.Modelled.TheSendSync as modelled
use Rattle.sqlite_std_file.specs.contracts.host.Host as host
use Rattle.sqlite_store.proofs.store.FileStore.TheSendSync as store

-- a file may go there as the system has it
host_send : IsSend host.the_row
host_send = search sendable depth 30

pub file_sql_send : IsSend file_sql.the_row
file_sql_send = search (sql.the_send, store.the_send, modelled.the_send, host_send, sendable) depth 30
