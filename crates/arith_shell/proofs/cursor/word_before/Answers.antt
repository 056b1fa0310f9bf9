use Rattle.std.proofs.Common.{sym}
use Rattle.std.proofs.lemmas.Iterator.{YieldsList-from_chars}
use Rattle.std.proofs.lemmas.Iterator.Consumers.{YieldsList-turn, YieldsList-end}
use Rattle.arith_shell.proofs.CursorLemmas.{before_cursor, before_end, before_other, before_word, behind, front_more}
use Rattle.arith_shell.proofs.CursorLemmas.{all_front}
use Rattle.arith_shell.proofs.cursor.word_before.Goals as goal
use Rattle.arith_shell.proofs.cursor.word_before.Goals.{in-None, in-Some+then-place-cursor}

pub loop-c-preserved-in-Continue-1 : goal.loop-c-preserved-in-Continue-1
loop-c-preserved-in-Continue-1 c =
    let t = YieldsList-turn (YieldsList-from_chars c.args.text.now c.utf8.text cc) c.loop-c.yielded _
    c.loop-c.yielded_by _ _ c.in-Some.c c.in-Some.is c.next.ensures.steps in
    record {
      front = front_more _ _ _ c.loop-c.invariant.front t;
      so_far = rw c.in_ok-push.ensures.bytes (before_word _ _ _ _ _ _ c.loop-c.invariant.so_far c.if-place-cursor.false
          (sym c.if-is_word_character.ensures));
    }

pub loop-c-preserved : goal.loop-c-preserved
loop-c-preserved c =
    let t = YieldsList-turn (YieldsList-from_chars c.args.text.now c.utf8.text cc) c.loop-c.yielded _
    c.loop-c.yielded_by _ _ c.in-Some.c c.in-Some.is c.next.ensures.steps in
    record {
      front = front_more _ _ _ c.loop-c.invariant.front t;
      so_far = rw c.clear.ensures.bytes (before_other _ _ _ _ _ _ c.loop-c.invariant.so_far c.if-place-cursor.false
          (sym c.if-is_word_character.ensures));
    }

pub returns : goal.returns
returns c = elim c.match-next.branch [
  | in-None w ↦
      let t = YieldsList-end (YieldsList-from_chars c.args.text.now c.utf8.text cc) c.loop-c.yielded _
      c.loop-c.yielded_by _ _ w.in-None.is c.next.ensures.steps in
      rw c.new.ensures (before_end _ _ _ _ _ _ c.loop-c.invariant.so_far (all_front _ _ c.loop-c.invariant.front t.1))
  | in-Some+then-place-cursor w ↦
      rw c.new.ensures (before_cursor _ _ _ _ _ _ _ c.loop-c.invariant.so_far w.if-place-cursor.true
      (behind _ _ c.loop-c.invariant.front))
]
