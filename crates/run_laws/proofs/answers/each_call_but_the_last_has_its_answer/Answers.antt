use Rattle.run_laws.proofs.Answering.{call_answers, end_answers_last, has_answers}
use Rattle.run_laws.proofs.answers.each_call_but_the_last_has_its_answer.Goals as goal

pub returns : goal.returns
returns c = record { counts = has_answers; call = call_answers; end = end_answers_last }
