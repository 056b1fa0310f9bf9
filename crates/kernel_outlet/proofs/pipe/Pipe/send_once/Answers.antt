use Rattle.std.proofs.Common.{◌≡◌, ◌≤◌, ℕ, List, ◌++◌, length, take, drop, refl, sym, subst, arith, length-drop}
use Rattle.kernel_limits.specs.Kept.{chunk_octets}
use Rattle.kernel_outlet.proofs.PipeLemmas.{cut_once, sent_adds_up, some_first}
use Rattle.kernel_outlet.proofs.pipe.Pipe.send_once.Goals as goal

pub invariant_of-self : goal.invariant_of-self
invariant_of-self g c =
    let front : List ℕ = chunk_octets c.self.inside.front in
    let rest_is : c.split_at.result.1.now ≡ drop c.self.inside.gone front =
    rw (← c.as_slice.ensures) c.split_at.ensures.back in
    let within : c.in-Took.count ≤ length (drop c.self.inside.gone front) =
    subst (λ (xs : List ℕ). c.in-Took.count ≤ length xs) rest_is c.in-Took.ensures.0 in
    let accepted_is : g.S.Spout.accepted c.send.new.self
    ≡ g.S.Spout.accepted c.self.inside.spout ++ take c.in-Took.count (drop c.self.inside.gone front) =
    rw (← rest_is) c.in-Took.ensures.1 in (
      rw accepted_is (sent_adds_up _ _ _ _ _ _ _ within c.if-count-gt0.true c.self.invariant.0),
      grind (arith, length-drop, within, c.self.invariant.1),
    )

pub returns-in-Took : goal.returns-in-Took
returns-in-Took g c =
    let front : List ℕ = chunk_octets c.self.inside.front in
    let rest_is : c.split_at.result.1.now ≡ drop c.self.inside.gone front =
    rw (← c.as_slice.ensures) c.split_at.ensures.back in
    let within : c.in-Took.count ≤ length (drop c.self.inside.gone front) =
    subst (λ (xs : List ℕ). c.in-Took.count ≤ length xs) rest_is c.in-Took.ensures.0 in
    let accepted_is : g.S.Spout.accepted c.send.new.self
    ≡ g.S.Spout.accepted c.self.inside.spout ++ take c.in-Took.count (drop c.self.inside.gone front) =
    rw (← rest_is) c.in-Took.ensures.1 in
    rw (← c.has_more.ensures.same, ← c.self.view_is) (record {
      front = take c.in-Took.count (drop c.self.inside.gone front);
      some = some_first c.in-Took.count (drop c.self.inside.gone front) within c.if-count-gt0.true;
      kept = sym (cut_once front c.self.inside.kept c.self.inside.gone c.in-Took.count);
      new_is = rw accepted_is refl;
    })
