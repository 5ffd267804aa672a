use Rattle.std.proofs.Common.{rules, tests}
use Rattle.std.proofs.lemmas.Iterator.Consumers.{YieldsList-from_filter, map_from_collect}
use Rattle.std.proofs.lemmas.Iterator.Splits.{YieldsList-from_slice_split}
use Rattle.script_lines.specs.Texts.{is_blank, is_some_word}
use Rattle.script_lines.proofs.texts.words_of.Goals as goal

pub returns : goal.returns
returns c = map_from_collect _ c.collect.ensures.ran (YieldsList-from_filter _ is_some_word (YieldsList-from_slice_split _ is_blank c.args.line.now (cc) (cc) (cc) (λ x b q k. search (rules, tests))) c.filter.ensures.closure (λ x b q k. search (rules, tests)))
