-- An interpreter that is another one, which it has inside.
use Rattle.interp_core.specs.Interpreter.{Laws, Meaning}

-- what an interpreter answers whose state has another one's inside, and which lets that one answer
abbrev pub within : {Outer Inner Cell : Type 0} → (Outer → Inner) → Meaning Inner Cell → Meaning Outer Cell
within inner m = record {
  tells = λ state answer. m.tells (inner state) answer;
  begins = λ old text answer new. m.begins (inner old) text answer (inner new);
  steps = λ cell. m.steps cell;
  runs = λ old cell stepped new left. m.runs (inner old) cell stepped (inner new) left;
  breaks_off = λ old cell new. m.breaks_off (inner old) cell (inner new);
  completes = λ state text cursor answer. m.completes (inner state) text cursor answer;
  inspects = λ state text cursor answer. m.inspects (inner state) text cursor answer;
  judges = λ state text answer. m.judges (inner state) text answer;
  evaluates = λ old text answer new. m.evaluates (inner old) text answer (inner new);
  gives_up = λ old text new. m.gives_up (inner old) text (inner new);
}

-- its laws are those of the other one
pub within_laws : {Outer Inner Cell : Type 0} → (inner : Outer → Inner) → (m : Meaning Inner Cell) → Laws m
    → Laws (within inner m)
within_laws inner m laws = record {
  lessened = λ old cell stepped new left runs. laws.lessened (inner old) cell stepped (inner new) left runs;
  ended = λ old cell stepped new left runs none. laws.ended (inner old) cell stepped (inner new) left runs none;
  own_info = λ state answer tells. laws.own_info (inner state) answer tells;
  own_begin = λ old text answer new begins. laws.own_begin (inner old) text answer (inner new) begins;
  own_step = λ old cell stepped new left runs. laws.own_step (inner old) cell stepped (inner new) left runs;
  own_completion = λ state text cursor answer is. laws.own_completion (inner state) text cursor answer is;
  own_inspection = λ state text cursor answer is. laws.own_inspection (inner state) text cursor answer is;
  own_judgement = λ state text answer is. laws.own_judgement (inner state) text answer is;
  own_evaluation = λ old text answer new is. laws.own_evaluation (inner old) text answer (inner new) is;
}
