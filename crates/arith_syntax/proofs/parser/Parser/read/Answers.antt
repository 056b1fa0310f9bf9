use Rattle.std.proofs.Common.{inl, inr}
use Rattle.arith_syntax.specs.Machine.{state_of, advance, close}
use Rattle.arith_syntax.specs.Parts.{tree_of}
use Rattle.arith_syntax.proofs.ParsingLemmas.{one_more_taken, taken_leads, refused_leads, refused_at, all_taken}
use Rattle.arith_syntax.proofs.ParsingLemmas.{closed_is_statement, unclosed_fails, closes_leads, unclosed_leads}
use Rattle.arith_syntax.proofs.parser.Parser.read.Goals as goal

pub returns-then-not-branch : goal.returns-then-not-branch
returns-then-not-branch c =
    inl (refused_at c.args.tokens.now c.args.end c.loop-placed.placed-index c.placed-item.result
    (state_of c.args.text.now c.loop-placed.self)
    c.loop-placed-test.true c.placed-item.is c.loop-placed.invariant
    (refused_leads c.in_ok-take.field-0 (advance (state_of c.args.text.now c.loop-placed.self)
    c.placed-item.result.token)
    (state_of c.args.text.now c.take.new.self)
    c.in_ok-take.ensures c.if-not-branch.true))

pub loop-placed-preserved : goal.loop-placed-preserved
loop-placed-preserved c =
    one_more_taken c.args.tokens.now c.loop-placed.placed-index c.placed-item.result
    (state_of c.args.text.now c.loop-placed.self) (state_of c.args.text.now c.take.new.self)
    c.loop-placed-test.true c.placed-item.is c.loop-placed.invariant
    (taken_leads c.in_ok-take.field-0 (advance (state_of c.args.text.now c.loop-placed.self)
    c.placed-item.result.token)
    (state_of c.args.text.now c.take.new.self)
    c.in_ok-take.ensures c.if-not-branch.false)

pub returns-then-branch : goal.returns-then-branch
returns-then-branch c =
    let state = state_of c.args.text.now c.loop-placed.self in
    let tree = tree_of c.args.text.now c.finish.new.self.parts in
    closed_is_statement _ state tree
    (all_taken c.args.tokens.now c.loop-placed.placed-index state c.loop-placed-test.false c.loop-placed.invariant)
    (closes_leads c.in_ok-finish.field-0 (close state) tree c.in_ok-finish.ensures c.if-branch.true)

pub returns-else-branch : goal.returns-else-branch
returns-else-branch c =
    let state = state_of c.args.text.now c.loop-placed.self in
    let tree = tree_of c.args.text.now c.finish.new.self.parts in
    inr (unclosed_fails (record { tokens = c.args.tokens.now; end = c.args.end }) state
    (all_taken c.args.tokens.now c.loop-placed.placed-index state c.loop-placed-test.false c.loop-placed.invariant)
    (unclosed_leads c.in_ok-finish.field-0 (close state) tree c.in_ok-finish.ensures c.if-branch.false))
