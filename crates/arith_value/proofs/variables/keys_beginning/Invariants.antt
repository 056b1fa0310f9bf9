use Rattle.std.proofs.Common.{◌≡◌, ◌++◌, map}
use Rattle.std.specs.Prelude.{string_bytes}
use Rattle.std.specs.List.{filter}
use Rattle.arith_value.specs.Variables.{begins, names, shown}
use Rattle.arith_value.proofs.variables.keys_beginning.Given as goal

abbrev pub invariant-loop-name : goal.invariant-loop-name
invariant-loop-name l = l.names.items ++ filter (begins l.beginning) (map (λ key. string_bytes key) l.name-iterator)
    ≡ filter (begins l.beginning) (names (shown l.values.entries))
