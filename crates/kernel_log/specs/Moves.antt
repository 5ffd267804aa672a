-- What happens to messages, as the entries tell it.
use Rattle.std.specs.Prelude.{ℕ, List, Option}
use Rattle.std.specs.List.{filter_map}
use Rattle.kernel_values.specs.declared.entry.Entry.{Entry}
use Rattle.kernel_values.specs.declared.entry.EndSeq.{EndSeq}
use Rattle.kernel_values.specs.declared.entry.Seqs.{Seqs}
use Rattle.kernel_types.specs.Stories.{Story, number_at}
use Rattle.kernel_log.specs.declared.stories.Move.{Move}
use Rattle.kernel_log.specs.declared.stories.Move.TheVariants.{Send, Opening, Retirement}
use Rattle.kernel_log.specs.declared.stories.EndStory.{EndStory}

-- the message that an entry sent, opened or retired
abbrev pub moved : Move → Seqs → Option EndSeq
moved Send seqs = seqs.sent
moved Opening seqs = seqs.opened
moved Retirement seqs = seqs.retired

abbrev pub numbers_of : Move → ℕ → List Entry → List ℕ
numbers_of which end entries = filter_map (λ entry. number_at end (moved which entry.seqs)) entries

abbrev pub story_told : EndStory → Story
story_told story = record { sent = story.sent; opened = story.opened; retired = story.retired }
