-- The ports of a kernel: their names, and where they listen.
use Rattle.std.specs.Prelude.{ℕ, List, codes}
use Rattle.conn_file.specs.declared.connection.Connection.{Connection}
use Rattle.kernel_serve.specs.declared.fault.Port.{Port}
use Rattle.kernel_serve.specs.declared.fault.Port.TheVariants.{Shell, Iopub, Control, Heartbeat}

-- the name of a port
abbrev pub port_name : Port → List ℕ
port_name Shell = codes "shell"
port_name Iopub = codes "iopub"
port_name Control = codes "control"
port_name Heartbeat = codes "heartbeat"

-- the number at which a port of a connection listens
abbrev pub listens_at : Connection → Port → ℕ
listens_at connection Shell = connection.shell_port
listens_at connection Iopub = connection.iopub_port
listens_at connection Control = connection.control_port
listens_at connection Heartbeat = connection.hb_port
