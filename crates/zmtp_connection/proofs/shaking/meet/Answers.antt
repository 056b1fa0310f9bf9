use Rattle.std.proofs.Common.{rules, ◌≡◌, ◌∷◌}
use Rattle.zmtp_connection.proofs.ShakeLemmas.{left_behind}
use Rattle.zmtp_connection.proofs.shaking.meet.Goals as goal

pub invariant_of-result : goal.invariant_of-result
invariant_of-result c =
    let first : c.args.fed.traffic ≡ c.remove-first.result ∷ c.new.result = search rules in
    left_behind c.args.fed c.args.decoder c.remove-first.result c.new.result c.requires.came first
