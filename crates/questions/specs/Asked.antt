-- What is asked of a call, by the questions to a board over a memory.
use Rattle.std.specs.Prelude.{List, ◌∷◌, ◌==◌}
use Rattle.board.specs.declared.Call.{Call}
use Rattle.board.specs.Questions.{Question, ask, questions}
use Rattle.questions.specs.declared.Questions.{Questions}

-- question 1, which is the same for each call, and then the call's own
abbrev pub asked : Questions → Call → List Question
asked q call = ask 1 (q.size == 4096) ∷ questions call q.board.now
