use Rattle.std.proofs.Common.{◌≡◌, ℕ, List, Result, Ok, Err, inr}
use Rattle.std.proofs.lemmas.Result.{err_from_is_err_and}
use Rattle.serde_json.specs.Data.{Data}
use Rattle.serde_json.specs.View.{view}
use Rattle.conn_file.specs.Connection.{expected, known_scheme, port_in, text_in, then_judged}
use Rattle.conn_file.specs.declared.connection.Connection.{Connection}
use Rattle.conn_file.specs.declared.fault.ConnFault.{ConnFault}
use Rattle.conn_file.specs.declared.fault.ConnFault.TheVariants.{Scheme}
use Rattle.conn_file.specs.declared.field.Field.TheVariants as fields
use Rattle.conn_file.proofs.connection.read_fields.Goals as goal

-- what refuses four ports refuses what is judged behind them, too
refused_ports : (a b c d : Result ℕ ConnFault) (fault : ConnFault)
    (next : ℕ → ℕ → ℕ → ℕ → Result Connection ConnFault)
    → then_judged a (λ _. then_judged b (λ _. then_judged c (λ _. d))) ≡ Err fault
    → then_judged a (λ w. then_judged b (λ x. then_judged c (λ y. then_judged d (λ z. next w x y z)))) ≡ Err fault
refused_ports (Ok w) (Ok x) (Ok y) (Ok z) fault next refused = cc
refused_ports (Ok w) (Ok x) (Ok y) (Err z) fault next refused = cc
refused_ports (Ok w) (Ok x) (Err y) d fault next refused = cc
refused_ports (Ok w) (Err x) c d fault next refused = cc
refused_ports (Err w) b c d fault next refused = cc

-- what is judged behind the ports
abbrev behind_ports : Data → List ℕ → ℕ → ℕ → ℕ → ℕ → Result Connection ConnFault
behind_ports file ip shell_port iopub_port control_port hb_port =
    then_judged (text_in fields.SignatureScheme file) (λ scheme.
    then_judged (expected known_scheme Scheme scheme) (λ signs.
    then_judged (text_in fields.Key file) (λ key.
    Ok (record {
      ip = ip;
      shell_port = shell_port;
      iopub_port = iopub_port;
      control_port = control_port;
      hb_port = hb_port;
      key = key;
    }))))

pub returns-in_err-ports : goal.returns-in_err-ports
returns-in_err-ports c =
    let p = err_from_is_err_and c.from_residual-in_err-ports.result c.from_residual-in_err-ports.ensures.1 in
    rw (p.1, p.2) (inr (rw (c.in_ok-transport.ensures, ← c.in_ok-expect.ensures, c.in_ok-ip.ensures)
    (refused_ports (port_in fields.ShellPort (view c.args.file.now)) (port_in fields.IopubPort (view c.args.file.now))
    (port_in fields.ControlPort (view c.args.file.now)) (port_in fields.HbPort (view c.args.file.now))
    c.in_err-ports.field-0.0 (behind_ports (view c.args.file.now) c.in_ok-ip.ip.now) c.in_err-ports.ensures.refused)))
