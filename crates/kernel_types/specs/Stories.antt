-- The story of an end: the numbers of the messages that were sent to it, opened and retired, in the order of a history.
use Rattle.std.specs.Prelude.{◌≡◌, ◌≤◌, ℕ, List, ◌==◌, length, Option, Some, None, if◌then◌else◌, Contains}
use Rattle.std.specs.List.{filter_map, range_with_len, All, IsDistinct}
use Rattle.std.specs.Prelude.{nat_eq}
use Rattle.kernel_values.specs.declared.entry.Entry.{Entry}
use Rattle.kernel_values.specs.declared.entry.EndSeq.{EndSeq}

pub record Story : Type 0 where
  pub sent : List ℕ
  pub opened : List ℕ
  pub retired : List ℕ

abbrev pub number_at : ℕ → Option EndSeq → Option ℕ
number_at end None = None
number_at end (Some seq) = (if seq.end.0 == end then Some seq.seq else None)

unfoldable pub story_of : List Entry → ℕ → Story
story_of entries end = record {
  sent = filter_map (λ entry. number_at end entry.seqs.sent) entries;
  opened = filter_map (λ entry. number_at end entry.seqs.opened) entries;
  retired = filter_map (λ entry. number_at end entry.seqs.retired) entries;
}

-- the k-th sent and the k-th opened number is k, no more are opened than sent, and the retired ones are opened ones, all different
pub record IsInOrder (story : Story) : Type 0 where
  pub sent : story.sent ≡ range_with_len 0 (length story.sent)
  pub opened : story.opened ≡ range_with_len 0 (length story.opened)
  pub few : length story.opened ≤ length story.sent
  pub retired : All (Contains story.opened) story.retired
  pub once : IsDistinct nat_eq story.retired
