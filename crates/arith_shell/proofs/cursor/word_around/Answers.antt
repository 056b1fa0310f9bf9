use Rattle.std.proofs.Common.{sym}
use Rattle.std.proofs.lemmas.Iterator.{YieldsList-from_chars}
use Rattle.std.proofs.lemmas.Iterator.Consumers.{YieldsList-turn, YieldsList-end}
use Rattle.arith_shell.proofs.CursorLemmas.{all_front, around_end, around_other, around_stop, around_word, behind_next}
use Rattle.arith_shell.proofs.CursorLemmas.{front_more}
use Rattle.arith_shell.proofs.cursor.word_around.Goals as goal
use Rattle.arith_shell.proofs.cursor.word_around.Goals.{in-None, in-Some+else-is_word_character+then-left-eq0}
use Rattle.arith_shell.proofs.cursor.word_around.Goals.{then-is_word_character+in_ok-push}
use Rattle.arith_shell.proofs.cursor.word_around.Goals.{else-is_word_character+else-left-eq0}

pub loop-c-preserved : goal.loop-c-preserved
loop-c-preserved c =
    let t = YieldsList-turn (YieldsList-from_chars c.args.text.now c.utf8.text cc) c.loop-c.yielded _
    c.loop-c.yielded_by _ _ c.in-Some.c c.in-Some.is c.next.ensures.steps in
    record {
      front = front_more _ _ _ c.loop-c.invariant.front t;
      so_far = elim c.if-is_word_character.branch [
        | then-is_word_character+in_ok-push w ↦
            rw (w.word-is, w.in_ok-push.ensures.bytes, c.saturating_sub-left.ensures)
            (around_word _ _ _ _ _ c.loop-c.invariant.so_far (sym w.if-is_word_character.ensures))
        | else-is_word_character+else-left-eq0 w ↦
            rw (w.word-is, w.clear.ensures.bytes, c.saturating_sub-left.ensures)
            (around_other _ _ _ _ _ c.loop-c.invariant.so_far w.if-left-eq0.false (sym w.if-is_word_character.ensures))
      ];
    }

pub returns : goal.returns
returns c = elim c.match-next.branch [
  | in-None w ↦
      let t = YieldsList-end (YieldsList-from_chars c.args.text.now c.utf8.text cc) c.loop-c.yielded _
      c.loop-c.yielded_by _ _ w.in-None.is c.next.ensures.steps in
      rw c.new.ensures (around_end _ _ _ _ _ c.loop-c.invariant.so_far (all_front _ _ c.loop-c.invariant.front t.1))
  | in-Some+else-is_word_character+then-left-eq0 w ↦
      let t = YieldsList-turn (YieldsList-from_chars c.args.text.now c.utf8.text cc) c.loop-c.yielded _
      c.loop-c.yielded_by _ _ w.in-Some.c w.in-Some.is c.next.ensures.steps in
      rw c.new.ensures (around_stop _ _ _ _ _ _ _ c.loop-c.invariant.so_far w.if-left-eq0.true
      (sym w.if-is_word_character.ensures) (behind_next _ _ _ c.loop-c.invariant.front t))
]
