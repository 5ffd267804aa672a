use Rattle.std.proofs.Common.{◌++◌, ◌∷◌, [], ◌∙◌, ap, append_assoc, codes, decimal, map, List, ℕ}
use Rattle.std.proofs.lemmas.Result.{IfOk-equal}
use Rattle.report_text.specs.Answers.{device_words}
use Rattle.report_text.specs.Lines.{blank, spelled}
use Rattle.report_text.proofs.answers.write_device.Goals as goal

pub returns-in_ok-word-in-SentMessage : goal.returns-in_ok-word-in-SentMessage
unfolding device_words
returns-in_ok-word-in-SentMessage c =
    let behind : List ℕ = spelled (codes "data" ∷ map decimal (c.in-SentMessage.src ∷ c.in-SentMessage.dst ∷ c.in-SentMessage.len ∷ [])) in
    rw c.in-SentMessage.is (IfOk-equal _ _ _ _ c.numbers-in-SentMessage.ensures.told
    (ap (λ line. line ++ behind) c.in_ok-word-in-SentMessage.ensures ∙ append_assoc c.args.line.now (blank ∷ codes "sent") behind))

pub returns-in_ok-word-in-TookMessage : goal.returns-in_ok-word-in-TookMessage
unfolding device_words
returns-in_ok-word-in-TookMessage c =
    let behind : List ℕ = spelled (codes "data" ∷ map decimal (c.in-TookMessage.src ∷ c.in-TookMessage.dst ∷ c.in-TookMessage.len ∷ [])) in
    rw c.in-TookMessage.is (IfOk-equal _ _ _ _ c.numbers-in-TookMessage.ensures.told
    (ap (λ line. line ++ behind) c.in_ok-word-in-TookMessage.ensures ∙ append_assoc c.args.line.now (blank ∷ codes "took") behind))
